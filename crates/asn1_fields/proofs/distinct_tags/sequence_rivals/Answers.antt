use Rattle.std.proofs.Common.{◌≡◌, ◌∙◌, true, sym}
use Rattle.std.proofs.lemmas.Grind.{common_steps}
use Rattle.std.proofs.Common.{arith}
use Rattle.asn1_fields.specs.FieldViews.{may_be_absent}
use Rattle.asn1_fields.proofs.ClashSearches.{rivals-none, rivals-some}
use Rattle.asn1_fields.proofs.distinct_tags.sequence_rivals.Goals as goal

pub returns-in-Some : goal.returns-in-Some
returns-in-Some c =
    let absent : may_be_absent c.args.field.now.presence ≡ true = grind (arith, common_steps) in
    rivals-some c.args.field.now c.args.following.now c.in-Some.required absent (sym c.index_of_required.ensures ∙ c.in-Some.is)

pub returns-in-None : goal.returns-in-None
returns-in-None c =
    let absent : may_be_absent c.args.field.now.presence ≡ true = grind (arith, common_steps) in
    rivals-none c.args.field.now c.args.following.now absent (sym c.index_of_required.ensures ∙ c.in-None.is)
