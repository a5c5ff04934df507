use Rattle.std.proofs.Common.{◌∙◌}
use Rattle.asn1_certificate_reader.proofs.NameFaults.{read_is_utf8}
use Rattle.asn1_certificate_reader.proofs.name_faults.is_utf8.Goals as goal

pub returns : goal.returns
returns c = c.is_ok.ensures.value ∙ read_is_utf8 _ _ c.args.octets.now c.from_utf8.result c.from_utf8.ensures.cases
