use Rattle.std.proofs.Common.{[], subst, sym}
use Rattle.std.specs.List.{AllZip}
use Rattle.asn1_certificate_reader.specs.Names.{IsPartOf}
use Rattle.asn1_certificate_reader.proofs.OneByOne.{all_seen, one_more}
use Rattle.asn1_certificate_reader.proofs.attributes.parts_of.Goals as goal

pub loop-part-init : goal.loop-part-init
loop-part-init g c = subst (AllZip (IsPartOf g.R.Rules.format) []) (sym c.new-parts.ensures.items) tt

pub loop-part-preserved : goal.loop-part-preserved
loop-part-preserved g c =
    one_more (IsPartOf g.R.Rules.format) c.args.given.now c.loop-part.parts.items _ c.loop-part.part-index _ _
    c.loop-part-test.true c.part-item.is c.in_ok-push.ensures.items c.loop-part.invariant c.in_ok-part_of.ensures

pub returns : goal.returns
returns g c =
    all_seen (IsPartOf g.R.Rules.format) c.args.given.now c.loop-part.parts.items c.loop-part.part-index
    c.loop-part-test.false c.loop-part.invariant
