use Rattle.asn1_bench.proofs.Sizes.{not_carried}
use Rattle.asn1_bench.proofs.laws.what_is_too_long_has_no_output.Goals as goal

pub returns : goal.returns
returns g c = λ bytes rs all long carried. not_carried g.P.Presence.mark_bytes bytes rs all long carried
