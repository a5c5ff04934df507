use Rattle.asn1_model.specs.Records.{held}
use Rattle.asn1_der.proofs.OneOutput.{have_distinct_sets, one_output}
use Rattle.asn1_der.proofs.canonical.output_is_unique.Goals as goal

pub returns-clause-unique : goal.returns-clause-unique
returns-clause-unique c = one_output

pub returns-clause-without_set : goal.returns-clause-without_set
returns-clause-without_set c = λ rs. have_distinct_sets (held rs)
