use Rattle.asn1_items.specs.Headers.{is_one_item}
use Rattle.asn1_model.specs.Meaning.{own_records}
use Rattle.asn1_bench.specs.Carried.{Carries}
use Rattle.asn1_rules.proofs.Readings.{answer_is_read_too}
use Rattle.asn1_bench.proofs.reader.BenchReader.read.Goals as goal

pub returns-clause-read : goal.returns-clause-read
returns-clause-read g c = λ v can of_type valid carried.
    let m = g.D.AsnType.meaning in
    let well_formed = m.well_formed (λ own. is_one_item own) v m.tag m.constraints m.name valid in
    rw (← c.new-decoder.ensures.depth_left) (c.read_whole.ensures.read v can of_type valid (c.new-decoder.ensures.before (own_records m v) carried well_formed))

pub returns-clause-only : goal.returns-clause-only
returns-clause-only g c = answer_is_read_too _ (Carries c.args.bytes.now) g.D.AsnType.meaning (λ rs at. c.new-decoder.ensures.only rs at) c.read_whole.result c.read_whole.ensures.only
