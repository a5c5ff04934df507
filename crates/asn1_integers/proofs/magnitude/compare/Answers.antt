use Rattle.std.proofs.Common.{◌∙◌}
use Rattle.asn1_integers.proofs.Digits.{nat_cmp-as_long, nat_cmp-by_length}
use Rattle.asn1_integers.proofs.magnitude.compare.Goals as goal

pub returns-in-Equal : goal.returns-in-Equal
returns-in-Equal c = λ p q. c.cmp-in-Equal.ensures ∙ nat_cmp-as_long c.args.bytes.now c.args.other.now p q c.in-Equal.ensures

pub returns-in_default : goal.returns-in_default
returns-in_default c = λ p q. nat_cmp-by_length c.args.bytes.now c.args.other.now p q c.cmp.result c.cmp.ensures c.in_default.not-Equal
