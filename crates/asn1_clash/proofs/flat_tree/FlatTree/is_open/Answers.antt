use Rattle.std.proofs.Common.{◌==◌, length, ap, ◌∙◌}
use Rattle.asn1_clash.proofs.Flat.{open_noted, open_unnoted}
use Rattle.asn1_clash.proofs.flat_tree.FlatTree.is_open.Goals as goal

pub returns-then-self : goal.returns-then-self
returns-then-self c = open_noted c.args.self.now.tags.items c.args.self.now.has_empty_choice c.if-self.true

pub returns-else-self : goal.returns-else-self
returns-else-self c =
    c.is_empty.ensures
    ∙ (ap (λ ts. length ts == 0) c.as_slice.ensures.value ∙ open_unnoted c.args.self.now.tags.items c.args.self.now.has_empty_choice c.if-self.false)
