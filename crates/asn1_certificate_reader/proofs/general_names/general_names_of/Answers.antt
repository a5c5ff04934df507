use Rattle.std.proofs.Common.{[], subst, sym}
use Rattle.asn1_certificate_reader.specs.GeneralNames.{AreGeneralNamesOf, IsGeneralNameOf}
use Rattle.asn1_certificate_reader.proofs.OneByOne.{all_seen, one_more}
use Rattle.asn1_certificate_reader.proofs.general_names.general_names_of.Goals as goal

pub loop-name-init : goal.loop-name-init
loop-name-init g c = subst (AreGeneralNamesOf g.R.Rules.format []) (sym c.new-shown.ensures.items) tt

pub loop-name-preserved : goal.loop-name-preserved
loop-name-preserved g c =
    one_more (IsGeneralNameOf g.R.Rules.format) c.args.names.now c.loop-name.shown.items _ c.loop-name.name-index _ _
    c.loop-name-test.true c.name-item.is c.in_ok-push.ensures.items c.loop-name.invariant c.in_ok-general_name_of.ensures

pub returns : goal.returns
returns g c =
    all_seen (IsGeneralNameOf g.R.Rules.format) c.args.names.now c.loop-name.shown.items c.loop-name.name-index
    c.loop-name-test.false c.loop-name.invariant
