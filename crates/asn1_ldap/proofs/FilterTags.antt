-- `Filter` and what it is made of are well tagged.
use Rattle.std.specs.Prelude.{codes, refl}
use Rattle.std.proofs.Common.{arith, rules, subst, sym}
use Rattle.asn1_circles.specs.Words.{Has, IsWellTagged, all_of, choice, chosen_meaning, first_tag, knot_trees, tree_tags}
use Rattle.asn1_ldap.specs.FilterLists.{filter_of_alternatives, filter_of_meaning, filter_of_pick}
use Rattle.asn1_ldap.specs.FilterMeaning.{alternatives, inside, laws, meaning, pick, within}
use Rattle.asn1_ldap.specs.declared.filter.Filter.{Filter as Knot, out-Filter as out-Knot}
use Rattle.asn1_ldap.specs.declared.filter_of.FilterOf.{FilterOf}
use Rattle.asn1_ldap.specs.declared.filter_of.FilterOf.TheVariants.{And as filter_of-And, Or as filter_of-Or, Not as filter_of-Not, EqualityMatch as filter_of-EqualityMatch, Substrings as filter_of-Substrings, GreaterOrEqual as filter_of-GreaterOrEqual, LessOrEqual as filter_of-LessOrEqual, Present as filter_of-Present, ApproxMatch as filter_of-ApproxMatch, ExtensibleMatch as filter_of-ExtensibleMatch}

begins : (v : FilterOf Knot) → Has (tree_tags (choice (knot_trees (codes "Filter") alternatives pick))) (first_tag (chosen_meaning (all_of (filter_of_alternatives within)) (filter_of_pick within v)).records)
begins (filter_of-And v) = (0, omega arith, refl)
begins (filter_of-Or v) = (1, omega arith, refl)
begins (filter_of-Not v) = (2, omega arith, refl)
begins (filter_of-EqualityMatch v) = (3, omega arith, refl)
begins (filter_of-Substrings v) = (4, omega arith, refl)
begins (filter_of-GreaterOrEqual v) = (5, omega arith, refl)
begins (filter_of-LessOrEqual v) = (6, omega arith, refl)
begins (filter_of-Present v) = (7, omega arith, refl)
begins (filter_of-ApproxMatch v) = (8, omega arith, refl)
begins (filter_of-ExtensibleMatch v) = (9, omega arith, refl)

each_begins : (v : Knot) → Has (tree_tags (choice (knot_trees (codes "Filter") alternatives pick))) (first_tag (inside v))
each_begins v = subst (λ rs. Has (tree_tags (choice (knot_trees (codes "Filter") alternatives pick))) (first_tag rs)) (sym (laws.records v)) (begins (out-Knot v).0.value)

pub knot_can : IsWellTagged meaning
knot_can = search (rules, each_begins)

pub body_can : IsWellTagged (filter_of_meaning meaning)
body_can = search (rules, knot_can)
