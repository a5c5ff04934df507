use Rattle.std.proofs.Common.{subst}
use Rattle.std.specs.Io.KnownBytes.{Appends}
use Rattle.asn1_convert.proofs.input.answer_input.Goals as goal

pub returns-in-Some : goal.returns-in-Some
returns-in-Some g c = record {
  input = c.read_to_end.new.buf.items;
  took = rw c.new-input.ensures.items at c.in-Ok.ensures.none_lost;
  ended = c.in-Ok.ensures.end;
  octets = c.in-Ok-octets_of_input.octets.items;
  are = c.in-Ok-octets_of_input.ensures;
  answer = c.in-Some-Ok.answer;
  answers = rw c.in-Some-Ok.field-0-is at c.in-Some-Ok.ensures;
  given = (subst (λ l. Appends (g.W.Write.contents c.args.writer.now) (g.W.Write.contents c.write_output.new.writer) l) c.as_slice.ensures.value c.in-Ok-write_output.ensures, c.in-Some.is);
}

pub returns : goal.returns
returns g c = record {
  input = c.read_to_end.new.buf.items;
  took = rw c.new-input.ensures.items at c.in-Ok.ensures.none_lost;
  ended = c.in-Ok.ensures.end;
  octets = c.in-Ok-octets_of_input.octets.items;
  are = c.in-Ok-octets_of_input.ensures;
  answer = c.in-Some-Ok.answer;
  answers = rw c.in-Some-Ok.field-0-is at c.in-Some-Ok.ensures;
  given = (subst (λ l. Appends (g.W.Write.contents c.args.writer.now) (g.W.Write.contents c.write_output.new.writer) l) c.as_slice.ensures.value c.in-Ok-write_output.ensures, c.in-None-failure.is);
}
