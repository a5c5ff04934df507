use Rattle.std.proofs.Common.{sym, ◌∙◌}
use Rattle.asn1_slots.proofs.TreesWithTags.{found_at, not_found}
use Rattle.asn1_slots.proofs.tag_indices.find_in_table.Goals as goal

pub returns-in-Some : goal.returns-in-Some
returns-in-Some c = found_at c.args.trees.now c.in_ok-variants.variants.tags c.args.tag c.in-Some.position c.index_of_leaf.result c.in_ok-variants.ensures (sym c.in-Some.is ∙ c.position_of.ensures) c.index_of_leaf.ensures

pub returns : goal.returns
returns c = not_found c.args.trees.now c.in_ok-variants.variants.tags c.args.tag c.in_ok-variants.ensures (sym c.in-None.is ∙ c.position_of.ensures)
