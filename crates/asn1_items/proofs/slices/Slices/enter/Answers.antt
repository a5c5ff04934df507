use Rattle.std.proofs.Common.{[], ap, ◌∙◌}
use Rattle.asn1_items.specs.Slices.{left_of}
use Rattle.asn1_items.proofs.Lists.{left_of-last}
use Rattle.asn1_items.proofs.slices.Slices.enter.Goals as goal

pub returns-clause-outside : goal.returns-clause-outside
returns-clause-outside c = ap (left_of []) c.in_default.ensures.items ∙ left_of-last [] c.args.self.now.outer.items _
