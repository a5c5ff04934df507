use Rattle.std.proofs.Common.{[], ap, ◌∙◌}
use Rattle.asn1_items.specs.Slices.{left_of}
use Rattle.asn1_items.proofs.Lists.{left_of-last}
use Rattle.asn1_items.proofs.slices.Slices.leave.Goals as goal

pub returns-in-Some-clause-left : goal.returns-in-Some-clause-left
returns-in-Some-clause-left c = λ left. ap (left_of []) c.in-Some.ensures.items ∙ left_of-last [] c.pop.new.self.items c.in-Some.field-0
