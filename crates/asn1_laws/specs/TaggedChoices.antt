-- A CHOICE after an explicit tag (X.680, 31.2.7).
use Rattle.std.specs.Prelude.{◌≡◌, Bool, List, Result, true}
use Rattle.asn1_components.specs.Alternatives.{Alternatives, CanBeChosen, Each, HaveDistinctTags, OneOf, all_of, chosen_meaning, table_of}
use Rattle.asn1_components.specs.ChosenTags.{chosen_tag}
use Rattle.asn1_laws.specs.Reading.{Outside, Reader, ReadsBack}
use Rattle.asn1_laws.specs.Writing.{Writer, Writes}
use Rattle.asn1_laws.specs.declared.decode_error.DecodeError.{DecodeError}
use Rattle.asn1_laws.specs.declared.encode_error.EncodeError.{EncodeError}
use Rattle.asn1_model.specs.Composites.{alternative_records, explicit_tag_records}
use Rattle.asn1_model.specs.ConstraintSets.{ConstraintSet}
use Rattle.asn1_model.specs.Records.{Name, Record}
use Rattle.asn1_tags.specs.declared.tags.Tag.{Tag}

-- the chosen alternative, under constraints and a name
abbrev pub chosen_records : ConstraintSet → Name → (alternatives : Alternatives) → OneOf (all_of alternatives) → List Record
chosen_records c n alternatives x =
    alternative_records (chosen_tag (all_of alternatives) x) c (table_of alternatives) n (chosen_meaning (all_of alternatives) x).records

-- A call that reads a CHOICE by its chosen alternative, after this tag, with these constraints and
-- this name inside.
abbrev pub ReadsAfterTag : {D V : Type 0} → Reader D → Tag → ConstraintSet → Name → (alternatives : Alternatives) →
    (V → OneOf (all_of alternatives)) → (V → V → Bool) → D → D → Result V DecodeError → Type 0
ReadsAfterTag {V = V} R t c inner alternatives pick eq old new result =
    (v : V) (n : Name) (rest : List Record) (outer : Outside) →
    HaveDistinctTags (all_of alternatives) → Each CanBeChosen (all_of alternatives) →
    (chosen_meaning (all_of alternatives) (pick v)).IsOfType → (chosen_meaning (all_of alternatives) (pick v)).IsValid R.accepts →
    ReadsBack R old new (explicit_tag_records t n (chosen_records c inner alternatives (pick v))) rest outer (λ w. eq w v ≡ true) result

-- A call that writes the chosen alternative after this tag, under a name, with these constraints
-- and this name inside.
abbrev pub WritesAfterTag : {E A : Type 0} → Writer E → Tag → Name → ConstraintSet → Name → (alternatives : Alternatives) →
    OneOf (all_of alternatives) → E → E → Result A EncodeError → Type 0
WritesAfterTag W t outer c inner alternatives x old new result =
    Writes W old (explicit_tag_records t outer (chosen_records c inner alternatives x)) (chosen_meaning (all_of alternatives) x).IsOfType new result
