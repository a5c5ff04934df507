use Rattle.std.proofs.Common.{◌∙◌, ap, subst, sym}
use Rattle.asn1_rules.specs.Pieces.{AreFronts, joined}
use Rattle.asn1_rules.proofs.Streams.{outputs_are_fronts, stream_comes_back, was_written}
use Rattle.asn1_rules.proofs.stream_round_trips.round_trip_in_pieces.Goals as goal

pub returns-clause-back : goal.returns-clause-back
returns-clause-back g c = λ steady belongs valid.
    let F = g.F.FrontReader.fronts in
    let format = g.R.Rules.format in
    let m = g.T.AsnType.meaning in
    let eq = g.T.PartialEq.eq in
    let vs = c.args.values.now in
    let written = was_written format m c.args.depth vs c.write_list.result c.in_ok-bytes.bytes c.in_ok-bytes.ensures.cases c.write_list.ensures.outputs in
    let whole = ap joined c.deref-2.ensures.value ∙ c.in-Ok.ensures.joined ∙ c.deref.ensures.value in
    let fronts = subst (AreFronts F c.args.reader vs) (sym whole) (outputs_are_fronts F c.args.reader format m eq belongs written valid) in
    stream_comes_back F c.args.reader format m eq belongs c.read_pieces.result c.map_err-2.result _ vs _ steady fronts c.map_err-2.ensures.cases c.read_pieces.ensures.come_back
