use Rattle.std.proofs.Common.{subst, sym}
use Rattle.std.specs.Prelude.{◌↔◌, IsNone}
use Rattle.asn1_limits.proofs.FirstExceptions.{none_where_all_pass}
use Rattle.asn1_limits.specs.Facets.{HasOnly}
use Rattle.asn1_limits.proofs.markers.alphabets.first_character_except.Goals as goal

pub returns-clause-none : goal.returns-clause-none
returns-clause-none g c =
    let f = g.T.Constrainable.facets c.args.value.now in
    subst (λ found. IsNone found ↔ HasOnly g.A.Alphabet.allows f) (sym c.first_except.ensures)
    (none_where_all_pass g.A.Alphabet.allows f.characters)
