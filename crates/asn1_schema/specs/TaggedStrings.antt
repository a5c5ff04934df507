-- The kinds of string that X.680 defines as another kind under a tag (41, and 46 to 48).
use Rattle.std.specs.Prelude.{◌≡◌, ℕ, List, [], ◌∷◌, Some}
use Rattle.asn1_model.specs.ConstraintSets.{ConstraintSet, unconstrained}
use Rattle.asn1_model.specs.Meaning.{Meaning, own_records}
use Rattle.asn1_model.specs.Records.{Content, Name, name_or, scalar}
use Rattle.asn1_model.specs.Tags.{universal}
use Rattle.asn1_tags.specs.declared.tags.Tag.{Tag}

module _ {V : Type 0} (m : Meaning V) where
  -- by itself the value is this content, under this universal tag, without constraints, and under this name
  abbrev pub IsOwnContent : V → ℕ → List ℕ → Content → Type 0
  IsOwnContent v number name content =
      own_records m v ≡ scalar (universal number) unconstrained (Some name) content ∷ []

  -- under whatever tag, constraints and name it is written, the value is this content, by default under this name
  abbrev pub IsContentUnderEachTag : V → List ℕ → Content → Type 0
  IsContentUnderEachTag v name content = (t : Tag) (c : ConstraintSet) (n : Name) →
      m.records v t c n ≡ scalar t c (name_or n (Some name)) content ∷ []
