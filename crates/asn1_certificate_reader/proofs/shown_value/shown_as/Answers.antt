use Rattle.std.proofs.lemmas.Result.{IfOk-weaker}
use Rattle.std.specs.Prelude.{None, Some}
use Rattle.asn1_certificate_reader.proofs.ShownAs.{shown_as}
use Rattle.asn1_certificate_reader.proofs.shown_value.shown_as.Goals as goal

pub returns-in-Some : goal.returns-in-Some
returns-in-Some g c =
    IfOk-weaker c.shown.result _ _
    (λ shown is.
    shown_as g.R.Rules.format g.T.AsnType.meaning g.T.PartialEq.eq (g.T.ShownValue.IsShown g.R.Rules.format) c.args.octets.now _ (Some c.in-Some.value) shown
    (c.in_ok-value.ensures c.is_well_tagged.ensures) c.in-Some.is is)
    c.shown.ensures

pub returns-in_ok-from_slice-in-None : goal.returns-in_ok-from_slice-in-None
returns-in_ok-from_slice-in-None g c =
    shown_as g.R.Rules.format g.T.AsnType.meaning g.T.PartialEq.eq (g.T.ShownValue.IsShown g.R.Rules.format) c.args.octets.now _ None _
    (c.in_ok-value.ensures c.is_well_tagged.ensures) c.in-None.is c.in_ok-from_slice-in-None.ensures.items
