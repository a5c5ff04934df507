use Rattle.std.proofs.Common.{[], subst, sym}
use Rattle.std.specs.List.{AllZip}
use Rattle.asn1_certificate_reader.specs.Reports.{IsExtensionOf}
use Rattle.asn1_certificate_reader.proofs.OneByOne.{all_seen, one_more}
use Rattle.asn1_certificate_reader.proofs.extensions.extensions_of.Goals as goal

pub loop-extension-init : goal.loop-extension-init
loop-extension-init g c = subst (AllZip (IsExtensionOf g.R.Rules.format) []) (sym c.new-shown.ensures.items) tt

pub loop-extension-preserved : goal.loop-extension-preserved
loop-extension-preserved g c =
    one_more (IsExtensionOf g.R.Rules.format) c.args.extensions.now c.loop-extension.shown.items _ c.loop-extension.extension-index _ _
    c.loop-extension-test.true c.extension-item.is c.in_ok-push.ensures.items c.loop-extension.invariant c.in_ok-extension_of.ensures

pub returns : goal.returns
returns g c =
    all_seen (IsExtensionOf g.R.Rules.format) c.args.extensions.now c.loop-extension.shown.items c.loop-extension.extension-index
    c.loop-extension-test.false c.loop-extension.invariant
