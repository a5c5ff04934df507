use Rattle.std.proofs.Common.{[], subst, sym}
use Rattle.std.specs.List.{AllZip}
use Rattle.asn1_certificate_reader.specs.Names.{IsAttributeOf}
use Rattle.asn1_certificate_reader.proofs.OneByOne.{all_seen, one_more}
use Rattle.asn1_certificate_reader.proofs.attributes.attributes_of.Goals as goal

pub loop-attribute-init : goal.loop-attribute-init
loop-attribute-init g c = subst (AllZip (IsAttributeOf g.R.Rules.format) []) (sym c.new-attributes.ensures.items) tt

pub loop-attribute-preserved : goal.loop-attribute-preserved
loop-attribute-preserved g c =
    one_more (IsAttributeOf g.R.Rules.format) c.args.given.now c.loop-attribute.attributes.items _ c.loop-attribute.attribute-index _ _
    c.loop-attribute-test.true c.attribute-item.is c.in_ok-push.ensures.items c.loop-attribute.invariant c.in_ok-attribute_of.ensures

pub returns : goal.returns
returns g c =
    all_seen (IsAttributeOf g.R.Rules.format) c.args.given.now c.loop-attribute.attributes.items c.loop-attribute.attribute-index
    c.loop-attribute-test.false c.loop-attribute.invariant
