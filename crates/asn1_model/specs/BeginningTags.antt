-- With which tags a type begins, under whatever tag it is written, and which of its values are there.
use Rattle.std.specs.Prelude.{◌≡◌, true, false}
use Rattle.asn1_tags.specs.Trees.{leaf}
use Rattle.asn1_tags.specs.declared.tags.Tag.{Tag}
use Rattle.asn1_model.specs.Meaning.{Meaning}

module _ {V : Type 0} (m : Meaning V) where
  -- the type is no CHOICE and no open type: written under a tag, its values begin with that tag alone (X.680, 31.2)
  abbrev pub BeginsWithItsTag : Type 0
  BeginsWithItsTag = ((t : Tag) → m.tree t ≡ leaf t) × (m.is_choice ≡ false)

  -- each value is there, so the type is no option
  abbrev pub IsAlwaysThere : Type 0
  IsAlwaysThere = (v : V) → m.is_present v ≡ true

  -- a type whose values each are there, and begin with the tag that they are written under
  abbrev pub HasTagOfItsOwn : Type 0
  HasTagOfItsOwn = BeginsWithItsTag × IsAlwaysThere

-- a type that holds a value of another begins with that one's tags, and is a CHOICE where that one is
abbrev pub BeginsAs : {V W : Type 0} → Meaning W → Meaning V → Type 0
BeginsAs holder m = ((t : Tag) → holder.tree t ≡ m.tree t) × (holder.is_choice ≡ m.is_choice)
