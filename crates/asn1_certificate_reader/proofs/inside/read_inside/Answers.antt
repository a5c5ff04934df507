use Rattle.asn1_certificate_reader.proofs.ReadInside.{read_as_none, read_as_value}
use Rattle.asn1_certificate_reader.proofs.inside.read_inside.Goals as goal

pub returns-in-Ok : goal.returns-in-Ok
returns-in-Ok g c =
    read_as_value g.R.Rules.format g.T.AsnType.meaning g.T.PartialEq.eq c.args.octets.now c.in_ok-owned.owned c.in-Ok.value c.in_ok-owned.ensures.items c.in-Ok.ensures.read

pub returns : goal.returns
returns g c =
    read_as_none g.R.Rules.format g.T.AsnType.meaning g.T.PartialEq.eq c.args.octets.now c.in_ok-owned.owned c.in-Err.error c.in_ok-owned.ensures.items c.in_default.not-Memory c.in-Err.ensures.read
