-- When the premises of a round trip hold of a type: which of its values are valid, and under which tags it is well tagged.
use Rattle.std.specs.Prelude.{◌↔◌, ℕ, Bool, List}
use Rattle.asn1_tags.specs.declared.tags.Tag.{Tag}
use Rattle.asn1_model.specs.Meaning.{Meaning, IsWellTaggedUnder}
use Rattle.asn1_model.specs.Tags.{IsATag}

module _ {V : Type 0} (m : Meaning V) where
  -- each value is valid, whatever a codec accepts as an open type
  abbrev pub EachIsValid : Type 0
  EachIsValid = (accepts : List ℕ → Bool) (v : V) → m.IsValid accepts v

  -- the type is well tagged under each tag but the CHOICE marker tag (X.680, 31.2)
  abbrev pub HasOneTag : Type 0
  HasOneTag = (t : Tag) → IsWellTaggedUnder m t ↔ IsATag t

  -- a type that holds no others: each value is valid, and the type has one tag, whichever it is given
  abbrev pub IsPlain : Type 0
  IsPlain = EachIsValid × HasOneTag

-- a type that holds a value of another asks no more of tags than that one
abbrev pub IsTaggedAs : {V W : Type 0} → Meaning W → Meaning V → Type 0
IsTaggedAs holder m = (t : Tag) → IsWellTaggedUnder holder t ↔ IsWellTaggedUnder m t
