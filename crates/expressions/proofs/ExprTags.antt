-- `Expr` and what it is made of are well tagged.
use Rattle.std.specs.Prelude.{codes, refl}
use Rattle.std.proofs.Common.{arith, rules, subst, sym}
use Rattle.asn1_circles.specs.Words.{Has, IsWellTagged, all_of, choice, chosen_meaning, first_tag, knot_trees, tree_tags}
use Rattle.expressions.specs.ExprLists.{expr_of_alternatives, expr_of_meaning, expr_of_pick}
use Rattle.expressions.specs.ExprMeaning.{alternatives, inside, laws, meaning, pick, within}
use Rattle.expressions.specs.declared.expr.Expr.{Expr as Knot, out-Expr as out-Knot}
use Rattle.expressions.specs.declared.expr_of.ExprOf.{ExprOf}
use Rattle.expressions.specs.declared.expr_of.ExprOf.TheVariants.{Number as expr_of-Number, Sum as expr_of-Sum, Call as expr_of-Call, Not as expr_of-Not}

begins : (v : ExprOf Knot) → Has (tree_tags (choice (knot_trees (codes "Expr") alternatives pick))) (first_tag (chosen_meaning (all_of (expr_of_alternatives within)) (expr_of_pick within v)).records)
begins (expr_of-Number v) = (0, omega arith, refl)
begins (expr_of-Sum v) = (1, omega arith, refl)
begins (expr_of-Call v) = (2, omega arith, refl)
begins (expr_of-Not v) = (3, omega arith, refl)

each_begins : (v : Knot) → Has (tree_tags (choice (knot_trees (codes "Expr") alternatives pick))) (first_tag (inside v))
each_begins v = subst (λ rs. Has (tree_tags (choice (knot_trees (codes "Expr") alternatives pick))) (first_tag rs)) (sym (laws.records v)) (begins (out-Knot v).0.value)

pub knot_can : IsWellTagged meaning
knot_can = search (rules, each_begins)

pub body_can : IsWellTagged (expr_of_meaning meaning)
body_can = search (rules, knot_can)
