use Rattle.asn1_rules.specs.RoundTrips.{IsReadBack}
use Rattle.asn1_tables.proofs.ReadBack.{answered, read_back, was_written}
use Rattle.asn1_tables.proofs.round_trips.open_round_trip.Goals as goal

pub returns-clause-only : goal.returns-clause-only
returns-clause-only g c = λ tells.
    let F = g.R.Rules.format in
    let m = g.T.AsnType.meaning in
    let v = c.args.value.now in
    let written = was_written F m v c.args.write_depth c.write_value.result c.in_ok-octets.octets c.in_ok-octets.ensures.cases c.write_value.ensures in
    answered (IsReadBack F m v c.args.write_depth) c.read_open.result c.map_err-2.result _ c.map_err-2.ensures.cases
    (read_back F tells m v c.args.write_depth c.in_ok-octets.octets written _ _ _ c.deref.result.now c.deref.ensures.value c.read_open.result c.read_open.ensures.answered)
