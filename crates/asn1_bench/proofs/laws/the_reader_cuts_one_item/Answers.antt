use Rattle.asn1_bench.proofs.Cuts.{cut_is_item}
use Rattle.asn1_bench.proofs.laws.the_reader_cuts_one_item.Goals as goal

pub returns-clause-cut : goal.returns-clause-cut
returns-clause-cut g c = λ bytes n. cut_is_item bytes n
