use Rattle.asn1_der.proofs.Cuts.{cut_is_element, no_empty_cut}
use Rattle.asn1_der.proofs.laws.the_reader_cuts_one_element.Goals as goal

pub returns-clause-cut : goal.returns-clause-cut
returns-clause-cut g c = λ bytes n. cut_is_element bytes n

pub returns-clause-not_empty : goal.returns-clause-not_empty
returns-clause-not_empty g c = λ bytes cut. no_empty_cut bytes cut
