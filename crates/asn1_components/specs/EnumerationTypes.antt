-- The meaning of an ENUMERATED type to every codec (X.680, clause 20).
use Rattle.std.specs.Prelude.{◌≡◌, ◌↔◌, ℕ, Bool, true, List, [], ◌∷◌, Some, refl}
use Rattle.asn1_tags.specs.declared.tags.Tag.{Tag}
use Rattle.asn1_tags.specs.Trees.{leaf}
use Rattle.asn1_model.specs.ConstraintSets.{ConstraintSet, unconstrained}
use Rattle.asn1_model.specs.Kinds.{enumerated_type}
use Rattle.asn1_model.specs.Meaning.{Meaning}
use Rattle.asn1_model.specs.Records.{Name, Record, discriminant, scalar}
use Rattle.asn1_model.specs.Tags.{IsATag, universal}
use Rattle.asn1_components.specs.Enumerations.{Enumeration, number_of}
use Rattle.asn1_components.specs.Labels.{labels_of}

-- an ENUMERATED type by its name, its enumeration, and the equality of its values: each is its number under the tag that
-- X.680 assigns (8.4, table 1)
abbrev pub enumeration_type : {V : Type 0} → List ℕ → Enumeration V → (V → V → Bool) → Meaning V
enumeration_type name e eq = enumerated_type (universal 10) unconstrained (Some name) (labels_of e)
    (number_of eq e)

-- The law of an ENUMERATED type: its meaning is that of its enumeration. A value begins with the tag that the type is written
-- under, and is one record without constraints, which has its number beside the labels of all; the type is well tagged under
-- every tag there is; and each value is there, meets its type's invariant, and is valid.
pub record AgreesWithEnumeration {V : Type 0} (eq : V → V → Bool) (enumeration : Enumeration V) (m : Meaning V) : Type 0 where
  pub tree : (t : Tag) → m.tree t ≡ leaf t
  pub records : (v : V) (t : Tag) (c : ConstraintSet) (n : Name) →
      m.records v t c n ≡ scalar t unconstrained n (discriminant (labels_of enumeration) (number_of eq enumeration v)) ∷ []
  pub read : (v : V) (t : Tag) (c : ConstraintSet) (rs : List Record) →
      m.IsReadAs v t c rs ↔ ((n : Name) × (rs ≡ scalar t unconstrained n (discriminant (labels_of enumeration) (number_of eq enumeration v)) ∷ []))
  pub single : m.IsSingleRecord
  pub present : (v : V) → m.is_present v ≡ true
  pub distinct_tags : (t : Tag) → m.HasDistinctTags t ↔ IsATag t
  pub of_type : (v : V) → m.IsOfType v
  pub valid : (accepts : List ℕ → Bool) (v : V) → m.IsValid accepts v

-- each `enumeration_type` keeps the law
pub enumeration_agrees : {V : Type 0} {name : List ℕ} {enumeration : Enumeration V} {eq : V → V → Bool} →
    AgreesWithEnumeration eq enumeration (enumeration_type name enumeration eq)
enumeration_agrees = record {
  tree = λ _. refl;
  records = λ v t c n. refl;
  read = λ v t c rs. (λ h. h, λ h. h);
  single = tt;
  present = λ _. refl;
  distinct_tags = λ _. (λ h. h, λ h. h);
  of_type = λ _. tt;
  valid = λ _ _. tt;
}
