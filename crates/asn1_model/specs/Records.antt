-- The meaning of a value to a codec: a list of records and presence marks.
use Rattle.std.specs.Prelude.{◌≡◌, ℕ, suc, max, ℤ, Bool, true, false, ◌&&◌, List, [], ◌∷◌, Option, None, Some, refl, if◌then◌else◌}
use Rattle.std.proofs.Common.{ap}
use Rattle.asn1_tags.specs.declared.tags.Tag.{Tag}
use Rattle.asn1_model.specs.ConstraintSets.{ConstraintSet}
use Rattle.asn1_model.specs.RecordTables.{Label, Row, Table}

-- the name of a type, as the list of its characters, or no name
abbrev pub Name : Type 0
Name = Option (List ℕ)

-- the name, or the type's own if there is none
abbrev pub name_or : Name → Name → Name
name_or None own = own
name_or (Some text) own = Some text

-- The kinds of string that are lists of numbers (X.680, 23 and 41).
pub data StringKind : Type 0 where
  octet : StringKind
  utf8 : StringKind
  visible : StringKind
  general : StringKind
  graphic : StringKind
  ia5 : StringKind
  printable : StringKind
  numeric : StringKind
  teletex : StringKind
  bmp : StringKind

-- The content of a record that holds no others (X.680, 18 to 24, 32 and 41). Each kind of type has contents of its own:
-- an INTEGER and an ENUMERATED of one number differ, and so do two strings of the same units and different kinds. The number
-- of an ENUMERATED value is beside the labels of its type.
pub data Content : Type 0 where
  null : Content
  boolean : Bool → Content
  number : ℤ → Content
  discriminant : Table Label → ℤ → Content
  arcs : List ℕ → Content
  bits : List Bool → Content
  units : StringKind → List ℕ → Content

-- The head of a record that holds others (X.680, 25 to 31): the components of a SEQUENCE or a SET in the
-- order of their definition, the elements of a SEQUENCE OF or a SET OF, what follows an explicit tag, or the
-- chosen alternative of a CHOICE, whose tag is that of the alternative. Components and alternatives are beside the table of
-- their type.
pub data Head : Type 0 where
  sequence : Tag → Table Row → Name → Head
  set : Tag → Table Row → Name → Head
  sequence_of : Tag → ConstraintSet → Name → Head
  set_of : Tag → ConstraintSet → Name → Head
  explicit_tag : Tag → Name → Head
  alternative : Tag → ConstraintSet → Table Row → Name → Head

-- The side of a component in its definition: the root, or the additions (X.680, 25.1).
pub data Side : Type 0 where
  in_root : Side
  in_additions : Side

-- A presence mark: whether a component is there, whether a group is, which has a table of its own, and where the
-- components of one begin and end.
pub data PresenceMark : Type 0 where
  present : Side → Tag → PresenceMark
  absent : Side → Tag → PresenceMark
  group_start : Table Row → PresenceMark
  group_absent : Table Row → PresenceMark
  group_end : PresenceMark

-- A record is a content, or holds other records and marks, or is a value as its bytes (an open type). Presence marks
-- are between the records.
mutual
  pub data Record : Type 0 where
    scalar : Tag → ConstraintSet → Name → Content → Record
    scope : Head → Records → Record
    open_type : Name → List ℕ → Record
    presence_mark : PresenceMark → Record

  pub data Records : Type 0 where
    none : Records
    more : Record → Records → Records

-- the records of a list, as a record holds them
abbrev pub held : List Record → Records
held [] = none
held (r ∷ rs) = more r (held rs)

-- and as a list again
abbrev pub listed : Records → List Record
listed none = []
listed (more r rs) = r ∷ listed rs

-- the same list, where it is held and listed again
pub listed-held : (rs : List Record) → listed (held rs) ≡ rs
listed-held [] = refl
listed-held (r ∷ rs) = ap (λ later. r ∷ later) (listed-held rs)

-- the record of this head that holds the list
abbrev pub holding : Head → List Record → Record
holding h rs = scope h (held rs)

-- How deeply records are nested: not at all in a content, and one deeper than the highest of those that it holds.
abbrev mutual
  pub height : Record → ℕ
  height (scalar t c n x) = 0
  height (scope h rs) = suc (inner_height rs)
  height (open_type n bytes) = 0
  height (presence_mark m) = 0

  pub inner_height : Records → ℕ
  inner_height none = 0
  inner_height (more r rs) = max (height r) (inner_height rs)

-- the height of a list is that of its highest record
abbrev pub highest : List Record → ℕ
highest [] = 0
highest (r ∷ rs) = max (height r) (highest rs)

-- the record is a presence mark
abbrev pub is_presence_mark : Record → Bool
is_presence_mark (scalar t c n x) = false
is_presence_mark (scope h rs) = false
is_presence_mark (open_type n bytes) = false
is_presence_mark (presence_mark m) = true

-- no record but presence marks
abbrev pub presence_marks_alone : List Record → Bool
presence_marks_alone [] = true
presence_marks_alone (r ∷ rs) = is_presence_mark r && presence_marks_alone rs

-- the records without the presence marks among them
abbrev pub unmarked : List Record → List Record
unmarked [] = []
unmarked (r ∷ rs) = if is_presence_mark r then unmarked rs else r ∷ unmarked rs
