use Rattle.std.proofs.Common.{sym, ap, ◌∙◌}
use Rattle.asn1_tags.specs.Tags.{smallest}
use Rattle.asn1_clash.proofs.Flat.{leaves-flat_tree}
use Rattle.asn1_clash.proofs.flat_component.FlatComponent.smallest_tag.Goals as goal

pub returns : goal.returns
returns c = c.smallest_tag.ensures ∙ ap smallest (sym (leaves-flat_tree c.args.self.now.tree.tags.items c.args.self.now.tree.has_empty_choice))
