-- `Chain` and what it is made of are well tagged.
use Rattle.std.specs.Prelude.{codes, refl}
use Rattle.std.proofs.Common.{arith, rules, subst, sym}
use Rattle.asn1_circles.specs.Words.{Has, IsWellTagged, all_of, choice, chosen_meaning, first_tag, knot_trees, tree_tags}
use Rattle.expressions.specs.ChainLists.{chain_of_alternatives, chain_of_meaning, chain_of_pick}
use Rattle.expressions.specs.ChainMeaning.{alternatives, inside, laws, meaning, pick, within}
use Rattle.expressions.specs.declared.chain.Chain.{Chain as Knot, out-Chain as out-Knot}
use Rattle.expressions.specs.declared.chain_of.ChainOf.{ChainOf}
use Rattle.expressions.specs.declared.chain_of.ChainOf.TheVariants.{End as chain_of-End, Link as chain_of-Link}

begins : (v : ChainOf Knot) → Has (tree_tags (choice (knot_trees (codes "Chain") alternatives pick))) (first_tag (chosen_meaning (all_of (chain_of_alternatives within)) (chain_of_pick within v)).records)
begins (chain_of-End v) = (0, omega arith, refl)
begins (chain_of-Link v) = (1, omega arith, refl)

each_begins : (v : Knot) → Has (tree_tags (choice (knot_trees (codes "Chain") alternatives pick))) (first_tag (inside v))
each_begins v = subst (λ rs. Has (tree_tags (choice (knot_trees (codes "Chain") alternatives pick))) (first_tag rs)) (sym (laws.records v)) (begins (out-Knot v).0.value)

pub knot_can : IsWellTagged meaning
knot_can = search (rules, each_begins)

pub body_can : IsWellTagged (chain_of_meaning meaning)
body_can = search (rules, knot_can)
