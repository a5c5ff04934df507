use Rattle.std.proofs.Common.{◌∙◌, not, sym}
use Rattle.asn1_tags.proofs.ListPositions.{position-map}
use Rattle.asn1_limits.proofs.values.units.first_except.Goals as goal

pub returns : goal.returns
returns g c =
    c.first_unit_except.ensures ∙ sym (position-map (λ n. not (g.A.Alphabet.allows n)) g.U.NumberedUnit.number c.args.units.now)
