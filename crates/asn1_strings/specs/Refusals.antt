-- Why no string is made of a text.
use Rattle.std.specs.Prelude.{◌≡◌, ℕ, Bool, not, List, Some, position}
use Rattle.std.specs.List.{AllPass}
use Rattle.asn1_strings.specs.declared.error.StringError.{StringError}
use Rattle.asn1_strings.specs.declared.error.StringError.TheVariants.{NotAllowed, Memory}

-- the error names the first of the units that the alphabet lacks. Only where it lacks none is it that of memory
abbrev pub IsRefusal : (ℕ → Bool) → List ℕ → StringError → Type 0
IsRefusal allows units (NotAllowed e) = position (λ u. not (allows u)) units ≡ Some e.0
IsRefusal allows units Memory = AllPass allows units
