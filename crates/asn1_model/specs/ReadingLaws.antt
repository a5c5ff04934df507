-- The records that are read as a value of a type, each as an if and only if.
use Rattle.std.specs.Prelude.{◌≡◌, ◌↔◌, Bool, List}
use Rattle.asn1_tags.specs.declared.tags.Tag.{Tag}
use Rattle.asn1_values.specs.Bits.{without_trailing_zeros}
use Rattle.asn1_model.specs.ConstraintSets.{ConstraintSet, unconstrained}
use Rattle.asn1_model.specs.Meaning.{IsReadAsOwn, Meaning}
use Rattle.asn1_model.specs.Readings.{AreElementsRead, IsReadInside, IsScalar}
use Rattle.asn1_model.specs.Records.{Content, Head, Name, Record, bits}

module _ {V : Type 0} (m : Meaning V) where
  -- one record with the value's content, under the tag and the constraints
  abbrev pub AreReadOfContents : (V → Content) → Type 0
  AreReadOfContents content = (v : V) (t : Tag) (c : ConstraintSet) (rs : List Record) → m.IsReadAs v t c rs ↔ IsScalar t c (content v) rs

  -- the same without constraints
  abbrev pub AreReadOfContentsAlone : (V → Content) → Type 0
  AreReadOfContentsAlone content =
      (v : V) (t : Tag) (c : ConstraintSet) (rs : List Record) → m.IsReadAs v t c rs ↔ IsScalar t unconstrained (content v) rs

  -- one record that holds what the value's elements are read of, one after another
  abbrev pub AreReadOfElements : {W : Type 0} → Meaning W → (Tag → ConstraintSet → Name → Head) → (V → List W) → Type 0
  AreReadOfElements element head elements =
      (v : V) (t : Tag) (c : ConstraintSet) (rs : List Record) →
      m.IsReadAs v t c rs ↔ IsReadInside (AreElementsRead (IsReadAsOwn element)) (head t c) (elements v) rs

-- one record of bits that are the value's, but for any number of 0 bits behind them
abbrev pub AreReadOfBitsWithZeros : Meaning (List Bool) → Type 0
AreReadOfBitsWithZeros m =
    (v : List Bool) (t : Tag) (c : ConstraintSet) (rs : List Record) →
    m.IsReadAs v t c rs ↔ ((list : List Bool) × (without_trailing_zeros list ≡ without_trailing_zeros v) × IsScalar t c (bits list) rs)
