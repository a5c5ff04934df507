use Rattle.asn1_ber.proofs.Cuts.{cut_of_one_element, no_empty_cut}
use Rattle.asn1_ber.proofs.laws.the_reader_cuts_one_element.Goals as goal

pub returns-clause-spelled : goal.returns-clause-spelled
returns-clause-spelled g c = λ octets normal rest n is. cut_of_one_element octets normal rest n is

pub returns-clause-not_empty : goal.returns-clause-not_empty
returns-clause-not_empty g c = λ octets cut. no_empty_cut octets cut
