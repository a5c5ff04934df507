use Rattle.std.proofs.Common.{sym, ◌∙◌}
use Rattle.asn1_clash.proofs.Flat.{leaves-flat_tree}
use Rattle.asn1_clash.proofs.flat_component.FlatComponent.tags.Goals as goal

pub returns : goal.returns
returns c = c.as_slice.ensures.value ∙ sym (leaves-flat_tree c.args.self.now.tree.tags.items c.args.self.now.tree.has_empty_choice)
