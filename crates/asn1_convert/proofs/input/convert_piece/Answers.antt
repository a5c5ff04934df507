use Rattle.std.proofs.Common.{◌++◌, subst}
use Rattle.std.specs.Io.KnownBytes.{Appends}
use Rattle.std.specs.String.{string_bytes}
use Rattle.asn1_convert.proofs.Running.{answer_given, last_given, refusal_given}
use Rattle.asn1_convert.proofs.input.convert_piece.Goals as goal

pub returns-in-Ok-None : goal.returns-in-Ok-None
returns-in-Ok-None g c = λ from to given first goes. record {
  written = goes.written;
  waits = rw c.in-Ok-None.field-0-is at (c.in-Ok-None.ensures from to (given ++ c.args.piece.now) goes.written (c.in-Ok.ensures.ok from to given goes.written goes.waits.holds));
  wrote = goes.wrote;
}

pub returns-in-Some : goal.returns-in-Some
returns-in-Some g c = λ from to given first goes.
    let after = given ++ c.args.piece.now in
    let is = rw c.in-Ok-Some.field-0-is at (c.in-Ok-Some.ensures from to after goes.written (c.in-Ok.ensures.ok from to given goes.written goes.waits.holds)) in
    refusal_given from to after (λ line. string_bytes line) c.in-Ok-Some.answer.failure c.in-Some.line c.answer.new.self c.args.is_end c.in-Ok-Some.answer.output.items
    first (g.W.Write.contents c.args.writer.now) (g.W.Write.contents c.write_output.new.writer) goes.written is.holds is.rest c.in-Some.is goes.wrote
    (subst (λ l. Appends (g.W.Write.contents c.args.writer.now) (g.W.Write.contents c.write_output.new.writer) l) c.as_slice.ensures.value c.in-Ok-write_output.ensures)

pub returns-in-None : goal.returns-in-None
returns-in-None g c = λ from to given first goes.
    let after = given ++ c.args.piece.now in
    last_given from to after c.answer.new.self c.args.is_end c.in-Ok-Some.answer
    first (g.W.Write.contents c.args.writer.now) (g.W.Write.contents c.write_output.new.writer) goes.written
    (rw c.in-Ok-Some.field-0-is at (c.in-Ok-Some.ensures from to after goes.written (c.in-Ok.ensures.ok from to given goes.written goes.waits.holds))) c.in-None.is c.if-is_end.true goes.wrote
    (subst (λ l. Appends (g.W.Write.contents c.args.writer.now) (g.W.Write.contents c.write_output.new.writer) l) c.as_slice.ensures.value c.in-Ok-write_output.ensures)

pub returns : goal.returns
returns g c = λ from to given first goes.
    let after = given ++ c.args.piece.now in
    answer_given from to after c.answer.new.self c.args.is_end c.in-Ok-Some.answer
    first (g.W.Write.contents c.args.writer.now) (g.W.Write.contents c.write_output.new.writer) goes.written
    (rw c.in-Ok-Some.field-0-is at (c.in-Ok-Some.ensures from to after goes.written (c.in-Ok.ensures.ok from to given goes.written goes.waits.holds))) c.in-None-2.is goes.wrote
    (subst (λ l. Appends (g.W.Write.contents c.args.writer.now) (g.W.Write.contents c.write_output.new.writer) l) c.as_slice.ensures.value c.in-Ok-write_output.ensures)
