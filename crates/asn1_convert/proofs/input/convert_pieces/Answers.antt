use Rattle.std.proofs.Common.{arith}
use Rattle.std.proofs.KnownBytes.{Keeps-refl}
use Rattle.std.proofs.lemmas.Bool.{eqb-true}
use Rattle.asn1_convert.proofs.Running.{ends, fails, read_more, read_nothing}
use Rattle.asn1_convert.proofs.input.convert_pieces.Goals as goal

pub loop-init : goal.loop-init
loop-init g c = read_nothing c.args.from c.args.to (g.R.Read.remaining c.args.reader.now) (g.W.Write.contents c.args.writer.now) c.new-pieces.result c.new-pieces.ensures

pub returns-in_default : goal.returns-in_default
returns-in_default g c = fails c.args.from c.args.to _ _ _ _ _ c.loop.pieces c.loop.invariant c.in_default.ensures.bytes

pub returns-in-Some : goal.returns-in-Some
returns-in-Some g c =
    let so_far = c.loop.invariant in
    ends c.args.from c.args.to c.in-Some.outcome _ _ _ _ _ _ c.loop.pieces _ _ so_far c.in-Ok.ensures.bytes.0
    (λ e. c.in-Ok.ensures.bytes.1 (eqb-true c.in-Ok.size 0 e) (omega arith))
    (c.in-Some.ensures c.args.from c.args.to so_far.given _ so_far.goes_on)

pub loop-preserved : goal.loop-preserved
loop-preserved g c =
    let so_far = c.loop.invariant in
    read_more c.args.from c.args.to _ _ _ _ _ _ c.loop.pieces c.convert_piece.new.pieces _ so_far c.in-Ok.ensures.bytes.0
    (c.in_default-convert_piece.ensures c.args.from c.args.to so_far.given _ so_far.goes_on)

pub returns : goal.returns
returns g c = fails c.args.from c.args.to _ _ _ _ _ c.loop.pieces c.loop.invariant (Keeps-refl _)
