use Rattle.std.proofs.Common.{◌∙◌, subst, sym}
use Rattle.asn1_fields.specs.DistinctTags.{IsLeast, IsSequenceClash, rivals}
use Rattle.asn1_fields.specs.FieldViews.{components}
use Rattle.asn1_fields.proofs.Clashes.{sequence_clash-is}
use Rattle.asn1_fields.proofs.ClashSearches.{search_ends, search_goes_on, search_stops}
use Rattle.asn1_fields.proofs.distinct_tags.first_sequence_clash.Goals as goal

pub returns-in-Some : goal.returns-in-Some
returns-in-Some c =
    let cs = components c.args.fields.now in
    let found =
    search_stops rivals c.args.fields.now c.loop-i.i c.in-Some.between _ c.sequence_rivals-rivals.result.now c.loop-i-test.true c.loop-i.invariant
    c.sequence_rivals-rivals.ensures (sym c.index_of_clash.ensures ∙ c.in-Some.is) in
    record { least = subst (IsLeast (IsSequenceClash cs)) found (sequence_clash-is cs); report = sym found }

pub loop-i-preserved : goal.loop-i-preserved
loop-i-preserved c =
    search_goes_on rivals c.args.fields.now c.loop-i.i _ c.sequence_rivals-rivals.result.now c.loop-i-test.true c.loop-i.invariant
    c.sequence_rivals-rivals.ensures (sym c.index_of_clash.ensures ∙ c.in_default.is)

pub returns : goal.returns
returns c =
    let cs = components c.args.fields.now in
    let none = search_ends rivals c.args.fields.now c.loop-i.i c.loop-i-test.false c.loop-i.invariant in
    record { least = subst (IsLeast (IsSequenceClash cs)) none (sequence_clash-is cs); report = sym none }
