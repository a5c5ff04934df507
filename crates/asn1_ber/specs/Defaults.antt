-- A component with a default that is there.
use Rattle.std.specs.Prelude.{◌≡◌, Bool, true, List, ◌∷◌, Result}
use Rattle.asn1_components.specs.Following.{BeginsApart}
use Rattle.asn1_laws.specs.Reading.{Outside, Reader, ReadsBack}
use Rattle.asn1_laws.specs.declared.decode_error.DecodeError.{DecodeError}
use Rattle.asn1_model.specs.Records.{Record, in_root, presence_mark, present}
use Rattle.asn1_model.specs.TaggedTypes.{TaggedType}

-- A call that reads a component of the root that is there, whatever its value: of each that is of the type and valid it answers an
-- equal one. What follows begins with none of its tags.
abbrev pub ReadsWhatIsThere : {D V : Type 0} → Reader D → TaggedType V → (V → V → Bool) → D → D → Result V DecodeError → Type 0
ReadsWhatIsThere {V = V} R type eq old new result =
    (v : V) (rest : List Record) (outer : Outside) → type.IsWellTagged → type.IsOfType v → type.IsValid R.accepts v →
    BeginsApart type.tree rest →
    ReadsBack R old new (presence_mark (present in_root type.tag) ∷ type.records v) rest outer (λ w. eq w v ≡ true) result
