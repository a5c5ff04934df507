use Rattle.std.proofs.Common.{◌++◌, subst}
use Rattle.asn1_der.proofs.RemainingElements.{is_carried, is_form}
use Rattle.asn1_der.specs.Format.{Carries}
use Rattle.asn1_model.specs.Meaning.{own_records}
use Rattle.asn1_items.proofs.DecodeStates.{records_are_not_the_end}
use Rattle.asn1_rules.proofs.Readings.{answer_is_read_too}
use Rattle.asn1_der.proofs.rules.DerRulesRules.read_value.Goals as goal

pub returns-clause-none_left : goal.returns-clause-none_left
returns-clause-none_left g c = λ v rest can of_type valid well some carries.
    let rs = own_records g.T.AsnType.meaning v ++ rest in
    let carried : Carries c.as_slice.result.now rs = rw c.as_slice.ensures.value carries in
    c.read_whole.ensures.none_left v rest can of_type valid (c.new-decoder.ensures.before carried.exactly rs carried.have_bytes carried.same) (λ d. records_are_not_the_end is_form (λ d. d.state) d rest some)

pub returns-clause-only : goal.returns-clause-only
returns-clause-only g c =
    answer_is_read_too _ (Carries c.args.output.now.items) g.T.AsnType.meaning
    (λ rs at. subst (λ bytes. Carries bytes rs) c.as_slice.ensures.value (is_carried rs c.as_slice.result.now (c.new-decoder.ensures.only rs at))) c.read_whole.result c.read_whole.ensures.only
