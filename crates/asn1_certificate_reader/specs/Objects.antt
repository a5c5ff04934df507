-- The report of objects.
use Rattle.std.specs.Prelude.{◌≡◌, ℕ, Contains, List, MatchOption}
use Rattle.asn1_certificate_text.specs.declared.object.Object.{Object}
use Rattle.asn1_certificate_text.specs.Registry.{NamesObject, known_objects, object_names}

-- The object of these arcs: its identifier, and the name that a row of the table has for it, or none where no row has its arcs.
pub record IsObjectOf (arcs : List ℕ) (shown : Object) : Type 0 where
  pub identifier : shown.identifier ≡ arcs
  pub name : MatchOption shown.name (¬ Contains known_objects arcs) (λ name. NamesObject object_names arcs name.now)
