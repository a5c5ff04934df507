use Rattle.asn1_certificate_rules.proofs.HeaderPositions.{behind_identifier-shorter}
use Rattle.asn1_certificate_rules.proofs.headers.broken_header.Goals as goal

pub overflow_sub-position : goal.overflow_sub-position
overflow_sub-position c = behind_identifier-shorter c.args.bytes.now c.in_ok-rest.rest.now c.in_ok-rest.ensures
