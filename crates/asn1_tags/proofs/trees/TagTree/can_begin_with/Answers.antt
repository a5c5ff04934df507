use Rattle.std.proofs.Common.{sym, ◌∙◌}
use Rattle.asn1_tags.specs.Trees.{is_open, leaves, shape}
use Rattle.asn1_tags.proofs.Beginnings.{begins-from_leaf, leaf-from_begins}
use Rattle.asn1_tags.proofs.trees.TagTree.can_begin_with.Goals as goal

pub returns : goal.returns
returns c =
    let tree = shape c.args.self.now in (
      λ found. leaf-from_begins (is_open tree) c.args.tag.now (leaves tree) (sym c.begins_with.ensures ∙ found),
      λ begins. c.begins_with.ensures ∙ begins-from_leaf (is_open tree) c.args.tag.now (leaves tree) begins,
    )
