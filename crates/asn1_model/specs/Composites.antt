-- The records of composite types, by the records of their parts.
use Rattle.std.specs.Prelude.{ℕ, Bool, List, [], ◌∷◌, ◌++◌, Option, None, Some, codes, if◌then◌else◌}
use Rattle.std.specs.List.{flat_map}
use Rattle.asn1_tags.specs.declared.tags.Tag.{Tag}
use Rattle.asn1_tags.specs.Tags.{tag_eq}
use Rattle.asn1_model.specs.ConstraintSets.{ConstraintSet}
use Rattle.asn1_model.specs.Records.{Name, name_or, Record, scalar, units, utf8, PresenceMark, Side, open_type, presence_mark, holding, presence_marks_alone, sequence, set, sequence_of, set_of, explicit_tag, alternative, present, absent, group_start, group_absent, group_end}
use Rattle.asn1_model.specs.RecordTables.{Row, Table}
use Rattle.asn1_model.specs.Tags.{CHOICE}

-- A SEQUENCE or a SET of components, in the order of their definition (X.680, 25 and 27), by the table of the type.
abbrev pub sequence_records : Tag → Table Row → Name → List Record → List Record
sequence_records t table n components = holding (sequence t table n) components ∷ []

abbrev pub set_records : Tag → Table Row → Name → List Record → List Record
set_records t table n components = holding (set t table n) components ∷ []

-- A SEQUENCE OF or a SET OF elements (X.680, 26 and 28).
abbrev pub list_records : Tag → ConstraintSet → Name → List Record → List Record
list_records t c n elements = holding (sequence_of t c n) elements ∷ []

abbrev pub set_of_records : Tag → ConstraintSet → Name → List Record → List Record
set_of_records t c n elements = holding (set_of t c n) elements ∷ []

-- A list of elements that have these records each, under the name that is given, or its own where that is none.
abbrev pub elements_records : {V : Type 0} → (V → List Record) → Tag → ConstraintSet → Name → List V → List Record
elements_records own t c n elements =
    list_records t c (name_or n (Some (codes "SEQUENCE_OF"))) (flat_map own elements)

-- A UTF8String of these bytes, under the name that is given, or its own where that is none.
abbrev pub text_records : Tag → ConstraintSet → Name → List ℕ → List Record
text_records t c n bytes = scalar t c (name_or n (Some (codes "UTF8String"))) (units utf8 bytes) ∷ []

-- The records after an explicit tag (X.680, 31.2.7).
abbrev pub explicit_tag_records : Tag → Name → List Record → List Record
explicit_tag_records t n rs = holding (explicit_tag t n) rs ∷ []

-- The alternative of a CHOICE that was chosen, whose tag is the first of its record (X.680, 29), by the table of all.
abbrev pub alternative_records : Tag → ConstraintSet → Table Row → Name → List Record → List Record
alternative_records chosen c table n rs = holding (alternative chosen c table n) rs ∷ []

-- A CHOICE has no tag. Under the CHOICE marker tag it is its alternative. Under any other it is that under an
-- explicit tag, with its own constraints and name inside (X.680, 31.2.7 c).
abbrev pub choice_records : Tag → Table Row → List Record → ConstraintSet → Name → Tag →
    ConstraintSet → Name → List Record
choice_records chosen table rs own_constraints own_name t c n =
    if tag_eq t CHOICE
    then alternative_records chosen c table (name_or n own_name) rs
    else explicit_tag_records t (name_or n own_name) (alternative_records chosen own_constraints table own_name rs)

-- An open type (X.681, 14) is its bytes, under whatever tag.
abbrev pub open_type_records : Name → List ℕ → List Record
open_type_records n bytes = open_type n bytes ∷ []

-- a presence mark alone
abbrev pub mark_records : PresenceMark → List Record
mark_records m = presence_mark m ∷ []

-- A component that may be absent (X.680, 25.1) is a presence mark that says so, or one that says that it is there, and its
-- records.
abbrev pub option_records : Side → Tag → Option (List Record) → List Record
option_records side t None = presence_mark (absent side t) ∷ []
option_records side t (Some rs) = presence_mark (present side t) ∷ rs

-- A component with a default (X.680, 25.1) is absent where it equals that, as canonical encodings ask (X.690, 11.5).
abbrev pub default_records : Side → Bool → Tag → List Record → List Record
default_records side is_default t rs = option_records side t (if is_default then None else Some rs)

-- An extension addition group is between two presence marks. It is absent if there is none, and where its components are
-- marks alone, as PER has it (X.691, 19.9).
abbrev pub group_records : Table Row → Option (List Record) → List Record
group_records table None = presence_mark (group_absent table) ∷ []
group_records table (Some components) =
    if presence_marks_alone components then presence_mark (group_absent table) ∷ [] else presence_mark (group_start table) ∷ components ++ presence_mark group_end ∷ []
