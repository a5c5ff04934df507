use Rattle.std.proofs.Common.{[]}
use Rattle.asn1_ber_items.proofs.NormalForms.{der_constructed, der_primitive, one_alone}
use Rattle.asn1_ber_items.proofs.laws.der_is_normal.Goals as goal

pub returns : goal.returns
returns c = λ t contents own some. (
  λ element. one_alone own own (der_primitive t contents own [] some element),
  λ element inner. one_alone own own (der_constructed t contents own contents own [] some element inner element),
)
