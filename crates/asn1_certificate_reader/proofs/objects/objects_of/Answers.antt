use Rattle.std.proofs.Common.{[], subst, sym}
use Rattle.std.specs.List.{AllZip}
use Rattle.asn1_certificate_reader.specs.Objects.{IsObjectOf}
use Rattle.asn1_certificate_reader.proofs.OneByOne.{all_seen, one_more}
use Rattle.asn1_certificate_reader.proofs.objects.objects_of.Goals as goal

pub loop-object-init : goal.loop-object-init
loop-object-init c = subst (AllZip IsObjectOf []) (sym c.new-shown.ensures.items) tt

pub loop-object-preserved : goal.loop-object-preserved
loop-object-preserved c =
    one_more IsObjectOf c.args.objects.now c.loop-object.shown.items _ c.loop-object.object-index _ _
    c.loop-object-test.true c.object-item.is c.in_ok-push.ensures.items c.loop-object.invariant c.in_ok-object_of.ensures

pub returns : goal.returns
returns c =
    all_seen IsObjectOf c.args.objects.now c.loop-object.shown.items c.loop-object.object-index
    c.loop-object-test.false c.loop-object.invariant
