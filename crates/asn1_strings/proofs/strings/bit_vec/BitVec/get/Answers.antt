use Rattle.std.proofs.Common.{◌∙◌, Some, false, ap, sym, arith}
use Rattle.std.proofs.lemmas.Option.{slice_get-get_or, slice_get_past}
use Rattle.asn1_strings.proofs.strings.bit_vec.BitVec.get.Goals as goal

pub returns-then-index-len : goal.returns-then-index-len
returns-then-index-len c =
    ap Some c.bit.ensures ∙ sym (slice_get-get_or c.args.self.now c.args.index false (omega (arith, c.if-index-len.true, c.len.ensures)))

pub returns-else-index-len : goal.returns-else-index-len
returns-else-index-len c = sym (slice_get_past c.args.self.now c.args.index (omega (arith, c.if-index-len.false, c.len.ensures)))
