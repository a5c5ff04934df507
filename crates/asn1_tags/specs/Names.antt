-- The text of a name, and the order of names.
use Rattle.std.specs.Prelude.{ℕ, List, Option, Some, None}
use Rattle.std.specs.Cmp.Lexicographic.{slice_cmp}
use Rattle.std.specs.Option.{option_copied}
use Rattle.std.specs.Ordering.{nat_cmp}
use Rattle.std.specs.declared.cmp.Ordering.{Ordering}
use Rattle.std.specs.declared.cmp.Ordering.TheVariants.{Less, Equal, Greater}
use Rattle.asn1_tags.specs.declared.names.Identifier.{Identifier}

-- the bytes of the name, if there is one
abbrev pub name_of : Identifier → Option (List ℕ)
name_of n = option_copied n.0

-- No name comes before every name, and names go lexicographically by their bytes.
abbrev pub name_cmp : Option (List ℕ) → Option (List ℕ) → Ordering
name_cmp None None = Equal
name_cmp None (Some t) = Less
name_cmp (Some s) None = Greater
name_cmp (Some s) (Some t) = slice_cmp nat_cmp s t
