-- `Category` and what it is made of are well tagged.
use Rattle.std.proofs.Common.{rules}
use Rattle.asn1_circles.specs.Words.{IsWellTagged}
use Rattle.expressions.specs.CategoryLists.{category_of_meaning}
use Rattle.expressions.specs.CategoryMeaning.{meaning}

pub knot_can : IsWellTagged meaning
knot_can = search rules

pub body_can : IsWellTagged (category_of_meaning meaning)
body_can = search (rules, knot_can)
