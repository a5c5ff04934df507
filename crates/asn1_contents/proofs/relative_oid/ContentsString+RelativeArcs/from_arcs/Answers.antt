use Rattle.std.proofs.Common.{inr, refl}
use Rattle.std.proofs.lemmas.Bool.{false≢true}
use Rattle.asn1_contents.proofs.NumbersOfArcs.{none_are_left}
use Rattle.asn1_contents.proofs.relative_oid.ContentsString+RelativeArcs.from_arcs.Goals as goal

pub returns-in-None-clause-refused : goal.returns-in-None-clause-refused
returns-in-None-clause-refused c = inr (
  refl,
  none_are_left c.args.arcs.now c.in_ok-octets.octets.items c.in_ok-octets.ensures (λ real. false≢true (c.in-None.ensures.allowed.1 real)),
)
