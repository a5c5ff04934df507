use Rattle.std.proofs.Common.{sym, ◌∙◌, arith}
use Rattle.std.specs.Cmp.{Equal-is}
use Rattle.asn1_tags.specs.Tags.{tag_eq}
use Rattle.asn1_tags.proofs.Searching.{position_is, position_is_none, tag_eq-from_Equal}
use Rattle.asn1_tags.proofs.searches.find_in_list.Goals as goal

pub returns-then-is_eq-clause-index : goal.returns-then-is_eq-clause-index
returns-then-is_eq-clause-index c =
    let equal = (Equal-is c.compare.result).0 (sym c.is_eq.ensures ∙ c.if-is_eq.true) in
    position_is (λ s. tag_eq s c.args.tag.now) c.args.tags.now c.loop-index.index _ c.loop-index-test.true
    (λ k lt. c.loop-index.invariant.1 k _ lt)
    (tag_eq-from_Equal _ c.args.tag.now (sym c.compare.ensures.order ∙ equal))

pub returns-clause-index : goal.returns-clause-index
returns-clause-index c =
    position_is_none (λ s. tag_eq s c.args.tag.now) c.args.tags.now c.args.tag.now
    (λ k lt. c.loop-index.invariant.1 k c.args.tag.now (omega (arith, lt, c.loop-index-test.false)))
