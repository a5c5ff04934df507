use Rattle.std.proofs.Common.{◌-◌, ◌+◌, drop, length, refl, take, ◌∙◌, subst, sym}
use Rattle.asn1_fields.specs.DistinctTags.{IsLeast, IsSetClash}
use Rattle.asn1_fields.specs.FieldViews.{components}
use Rattle.asn1_fields.proofs.Clashes.{set_clash-is}
use Rattle.asn1_fields.proofs.ClashSearches.{search_ends, search_goes_on, search_stops}
use Rattle.asn1_fields.proofs.distinct_tags.first_set_clash.Goals as goal

pub returns-in-Some : goal.returns-in-Some
returns-in-Some c =
    let fs = c.args.fields.now in
    let following = take (length fs - (c.loop-i.i + 1)) (drop (c.loop-i.i + 1) fs) in
    let found =
    search_stops (λ _ others. others) fs c.loop-i.i c.in-Some.between _ following c.loop-i-test.true c.loop-i.invariant
    refl (sym c.index_of_clash.ensures ∙ c.in-Some.is) in
    record { least = subst (IsLeast (IsSetClash (components fs))) found (set_clash-is (components fs)); report = sym found }

pub loop-i-preserved : goal.loop-i-preserved
loop-i-preserved c =
    let fs = c.args.fields.now in
    let following = take (length fs - (c.loop-i.i + 1)) (drop (c.loop-i.i + 1) fs) in
    search_goes_on (λ _ others. others) fs c.loop-i.i _ following c.loop-i-test.true c.loop-i.invariant
    refl (sym c.index_of_clash.ensures ∙ c.in_default.is)

pub returns : goal.returns
returns c =
    let fs = c.args.fields.now in
    let none = search_ends (λ _ others. others) fs c.loop-i.i c.loop-i-test.false c.loop-i.invariant in
    record { least = subst (IsLeast (IsSetClash (components fs))) none (set_clash-is (components fs)); report = sym none }
