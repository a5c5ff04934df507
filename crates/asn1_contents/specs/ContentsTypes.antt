-- The meaning of a type whose values are their contents octets.
use Rattle.std.specs.Prelude.{ℕ, Bool, IsTrue, List, Some}
use Rattle.asn1_model.specs.ConstraintSets.{unconstrained}
use Rattle.asn1_model.specs.Kinds.{scalar_type, under_own_name}
use Rattle.asn1_model.specs.Meaning.{Meaning}
use Rattle.asn1_model.specs.Records.{octet, units}
use Rattle.asn1_tags.specs.declared.tags.Tag.{Tag}

-- A type by its tag, its name, and the octets that are the contents of a value: a string of these octets to a codec (X.690, 8).
abbrev pub contents_type : Tag → List ℕ → (List ℕ → Bool) → Meaning (List ℕ)
contents_type tag name allows =
    under_own_name (record (scalar_type tag unconstrained (Some name) (units octet)) { IsOfType = λ octets. IsTrue (allows octets) })
