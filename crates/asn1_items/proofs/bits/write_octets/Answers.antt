use Rattle.std.proofs.Common.{arith}
use Rattle.asn1_items.proofs.OctetsWritten.{all_octets, none_yet, one_octet_more}
use Rattle.asn1_items.proofs.bits.write_octets.Goals as goal

pub loop-index-init : goal.loop-index-init
loop-index-init c = none_yet c.args.bits.now c.args.start c.args.bytes.now

pub loop-index-preserved : goal.loop-index-preserved
loop-index-preserved c =
    one_octet_more c.args.bits.now c.args.start c.loop-index.index c.octet_at.result c.args.bytes.now c.loop-index.bytes (omega (arith, c.loop-index.invariant.long, c.loop-index-test.true, c.requires)) c.octet_at.ensures c.loop-index.invariant

pub returns : goal.returns
returns c =
    all_octets c.args.bits.now c.args.start c.args.bytes.now c.loop-index.bytes c.loop-index.index c.requires (omega (arith, c.loop-index-test.false, c.loop-index.auto.index-end)) c.loop-index.invariant
