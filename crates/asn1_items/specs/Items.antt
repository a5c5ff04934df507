-- The bytes of records: a header and what is inside, item by item.
use Rattle.std.specs.Prelude.{◌≡◌, ◌⊎◌, ℕ, ◌<◌, ◌≤◌, ◌^◌, ⊤, List, [], ◌∷◌, ◌++◌, length, IsTrue, if◌then◌else◌}
use Rattle.asn1_items.specs.Contents.{IsContent}
use Rattle.asn1_items.specs.Headers.{is_one_item, tag_bytes}
use Rattle.asn1_items.specs.Kinds.{content_byte, content_kind, is_mark_byte, item_byte, kind_of, kind_of_mark, mark_kind_byte}
use Rattle.asn1_items.specs.Numbers.{four_bytes}
use Rattle.asn1_items.specs.declared.kinds.ContentKind.{ContentKind}
use Rattle.asn1_items.specs.declared.kinds.ItemKind.{ItemKind}
use Rattle.asn1_items.specs.declared.kinds.ItemKind.TheVariants as item
use Rattle.asn1_model.specs.Records.{Content, Record, Records, PresenceMark, scalar, scope, open_type, presence_mark, none, more}
use Rattle.asn1_model.specs.Tags.{head_tag}
use Rattle.asn1_tags.specs.declared.tags.Tag.{Tag}

-- the bytes of each presence mark
abbrev pub MarkBytes : Type 0
MarkBytes = PresenceMark → List ℕ

-- A form of items: the bytes of each presence mark, and which bytes are the value of an open type.
pub record ItemForm : Type 1 where
  pub mark_bytes : MarkBytes
  pub IsOpenType : List ℕ → Type 0

-- An item: the byte of its kind, its tag, the byte of its content kind if it has one, the length of what is inside, and what is inside. The number of
-- the tag and the length are below 2^32.
pub record IsItem (kind : ItemKind) (t : Tag) (content_kind inside bytes : List ℕ) : Type 0 where
  pub are : bytes ≡ item_byte kind ∷ tag_bytes t ++ content_kind ++ four_bytes (length inside) ++ inside
  pub tag_fits : t.value < 2 ^ 32
  pub size_fits : length inside < 2 ^ 32

-- An item that has something inside of which this holds.
pub record Holds (IsInside : List ℕ → Type 0) (kind : ItemKind) (t : Tag) (content_kind bytes : List ℕ) : Type 0 where
  pub inside : List ℕ
  pub is : IsInside inside
  pub item : IsItem kind t content_kind inside bytes

-- The bytes of one thing, and after them those of others.
pub record IsJoined (IsFirst AreOthers : List ℕ → Type 0) (bytes : List ℕ) : Type 0 where
  pub first : List ℕ
  pub others : List ℕ
  pub is_first : IsFirst first
  pub are_others : AreOthers others
  pub are : bytes ≡ first ++ others

-- The record has these bytes, in a form. Names, constraints and tables have none.
abbrev mutual
  pub HasBytes : ItemForm → Record → List ℕ → Type 0
  HasBytes F (scalar t c n x) bytes = Holds (IsContent x) item.Content t (content_byte (content_kind x) ∷ []) bytes
  HasBytes F (scope h rs) bytes = Holds (HaveBytes F rs) (kind_of h) (head_tag h) [] bytes
  HasBytes F (open_type n own) bytes = (bytes ≡ own) × F.IsOpenType own
  HasBytes F (presence_mark m) bytes = bytes ≡ F.mark_bytes m

  pub HaveBytes : ItemForm → Records → List ℕ → Type 0
  HaveBytes F none bytes = bytes ≡ []
  HaveBytes F (more r rs) bytes = IsJoined (HasBytes F r) (HaveBytes F rs) bytes

-- There is a record that is too long in a form, at some depth: 2^32 bytes or more are inside.
abbrev mutual
  pub IsTooLong : ItemForm → Record → Type 0
  IsTooLong F (scalar t c n x) = (content : List ℕ) × IsContent x content × (2 ^ 32 ≤ length content)
  IsTooLong F (scope h rs) = SomeTooLong F rs ⊎ ((inside : List ℕ) × HaveBytes F rs inside × (2 ^ 32 ≤ length inside))
  IsTooLong F (open_type n own) = ⊥
  IsTooLong F (presence_mark m) = ⊥

  pub SomeTooLong : ItemForm → Records → Type 0
  SomeTooLong F none = ⊥
  SomeTooLong F (more r rs) = IsTooLong F r ⊎ SomeTooLong F rs

-- the byte of a presence mark in the packed form
abbrev pub mark_byte : PresenceMark → ℕ
mark_byte m = mark_kind_byte (kind_of_mark m)

-- what is left after the presence marks in front, in the packed form
abbrev pub marks_skipped : List ℕ → List ℕ
marks_skipped [] = []
marks_skipped (byte ∷ rest) = if is_mark_byte byte then marks_skipped rest else byte ∷ rest

-- The presence marks of the packed form: one byte each.
abbrev pub packed_marks : MarkBytes
packed_marks m = mark_byte m ∷ []

-- The forms with these bytes of presence marks: as an encoder writes it, where an open type may be any bytes, and as a decoder
-- reads it, where it is one item.
abbrev pub written_with : MarkBytes → ItemForm
written_with marks = record { mark_bytes = marks; IsOpenType = λ own. ⊤ }

abbrev pub read_with : MarkBytes → ItemForm
read_with marks = record { mark_bytes = marks; IsOpenType = λ own. IsTrue (is_one_item own) }

-- The bytes are an item of a content of this kind under a tag, with something inside of which this holds.
abbrev pub HoldsContent : (List ℕ → Type 0) → ContentKind → Tag → List ℕ → Type 0
HoldsContent IsInside kind t bytes = Holds IsInside item.Content t (content_byte kind ∷ []) bytes

-- The bytes are an item of a content under a tag.
abbrev pub IsItemOf : Tag → Content → List ℕ → Type 0
IsItemOf t x bytes = Holds (IsContent x) item.Content t (content_byte (content_kind x) ∷ []) bytes

-- The content is too long for an item: 2^32 bytes or more.
abbrev pub IsLong : Content → Type 0
IsLong x = (own : List ℕ) × IsContent x own × (2 ^ 32 ≤ length own)
