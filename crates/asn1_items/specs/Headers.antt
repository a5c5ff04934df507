-- The header of an item, as a function of the bytes, and the bytes that are one item. Trailing bytes change nothing.
use Rattle.std.specs.Prelude.{◌≡◌, ◌<◌, ◌^◌, ◌++◌, ℕ, zero, suc, Bool, false, Option, None, Some, List, [], ◌∷◌, nat_eq, length, ⊤}
use Rattle.std.specs.Option.{option_and_then}
use Rattle.std.specs.Int.{w32, from_be_bytes}
use Rattle.asn1_items.specs.Kinds.{content_byte, item_byte, item_kind_at}
use Rattle.asn1_items.specs.Numbers.{four_bytes}
use Rattle.asn1_items.specs.declared.header.ExpectedHeader.{ExpectedHeader}
use Rattle.asn1_items.specs.declared.header.ExpectedHeader.TheVariants as expected
use Rattle.asn1_items.specs.declared.header.Header.{Header as Found}
use Rattle.asn1_items.specs.declared.kinds.ItemKind.{ItemKind}
use Rattle.asn1_items.specs.declared.kinds.ItemKind.TheVariants as item
use Rattle.asn1_items.specs.declared.kinds.ScopeKind.TheVariants as scope
use Rattle.asn1_tags.specs.Tags.{class_number}
use Rattle.asn1_tags.specs.declared.classes.Class.{Class}
use Rattle.asn1_tags.specs.declared.classes.Class.TheVariants.{Universal, Application, Context, Private}
use Rattle.asn1_tags.specs.declared.tags.Tag.{Tag}

-- a tag: its class, and its number in four bytes
abbrev pub tag_bytes : Tag → List ℕ
tag_bytes t = class_number t.class ∷ four_bytes t.value

-- The header of an item, and the bytes after it. The byte of the kind of content is 0 in an item that holds others, which has none.
pub record Header : Type 0 where
  pub kind : ItemKind
  pub tag : Tag
  pub content : ℕ
  pub size : ℕ
  pub body : List ℕ

-- the class of a byte
abbrev pub class_at : ℕ → Option Class
class_at zero = Some Universal
class_at (suc zero) = Some Application
class_at (suc (suc zero)) = Some Context
class_at (suc (suc (suc zero))) = Some Private
class_at (suc (suc (suc (suc byte)))) = None

-- the number of four bytes
abbrev pub number_at : ℕ → ℕ → ℕ → ℕ → ℕ
number_at a b c d = from_be_bytes w32 (a ∷ b ∷ c ∷ d ∷ [])

-- the header from its length on
abbrev pub from_size : ItemKind → Tag → ℕ → List ℕ → Option Header
from_size kind tag content (a ∷ b ∷ c ∷ d ∷ body) = Some (record { kind = kind; tag = tag; content = content; size = number_at a b c d; body = body })
from_size kind tag content _ = None

-- from its content kind on
abbrev pub from_content : Tag → List ℕ → Option Header
from_content tag (content ∷ rest) = from_size item.Content tag content rest
from_content tag [] = None

-- an item of a content, and one that holds others
abbrev pub of_kind : ItemKind → Tag → List ℕ → Option Header
of_kind item.Content tag rest = from_content tag rest
of_kind (item.Scope kind) tag rest = from_size (item.Scope kind) tag 0 rest

-- from its class on
abbrev pub from_class : ItemKind → List ℕ → Option Header
from_class kind (class ∷ a ∷ b ∷ c ∷ d ∷ rest) = option_and_then (λ k. of_kind kind (record { class = k; value = number_at a b c d }) rest) (class_at class)
from_class kind _ = None

-- the header
abbrev pub header_at : List ℕ → Option Header
header_at (byte ∷ rest) = option_and_then (λ kind. from_class kind rest) (item_kind_at byte)
header_at [] = None

-- the bytes are one item, whose body is as long as its header says
abbrev pub is_one : Option Header → Bool
is_one (Some h) = nat_eq (length h.body) h.size
is_one None = false

abbrev pub is_one_item : List ℕ → Bool
is_one_item bytes = is_one (header_at bytes)

-- The header that the program found is this one.
pub record IsHeader (found : Found) (h : Header) : Type 0 where
  pub kind : found.kind ≡ h.kind
  pub tag : found.tag ≡ h.tag
  pub content : found.content ≡ h.content
  pub size : found.size ≡ h.size
  pub body : found.body.now ≡ h.body

-- The header that the program found is that of these bytes.
pub record IsHeaderOf (bytes : List ℕ) (found : Found) : Type 0 where
  pub header : Header
  pub at : header_at bytes ≡ Some header
  pub is : IsHeader found header

-- The header that the program found is that of a kind and these bytes after it.
pub record IsHeaderAfter (kind : ItemKind) (bytes : List ℕ) (found : Found) : Type 0 where
  pub header : Header
  pub at : from_class kind bytes ≡ Some header
  pub is : IsHeader found header

-- the byte of the content kind, which an item that holds others has not
abbrev pub content_bytes : ItemKind → ℕ → List ℕ
content_bytes item.Content content = content ∷ []
content_bytes (item.Scope kind) content = []

-- The bytes are those of the header that the program found, after the kind, and those after it.
pub record AreOfHeaderAfter (kind : ItemKind) (bytes : List ℕ) (found : Found) : Type 0 where
  pub kind_is : found.kind ≡ kind
  pub are : bytes ≡ tag_bytes found.tag ++ content_bytes kind found.content ++ four_bytes found.size ++ found.body.now
  pub tag_fits : found.tag.value < 2 ^ 32
  pub size_fits : found.size < 2 ^ 32

-- The bytes are those of the header that the program found, and those after it.
pub record AreOfHeader (bytes : List ℕ) (found : Found) : Type 0 where
  pub are : bytes ≡ item_byte found.kind ∷ tag_bytes found.tag ++ content_bytes found.kind found.content ++ four_bytes found.size ++ found.body.now
  pub tag_fits : found.tag.value < 2 ^ 32
  pub size_fits : found.size < 2 ^ 32

-- The header is what is wanted.
abbrev pub Meets : ExpectedHeader → Header → Type 0
Meets (expected.Content t k) h = (h.kind ≡ item.Content) × (h.tag ≡ t) × (h.content ≡ content_byte k)
Meets (expected.Scope k t) h = (h.kind ≡ item.Scope k) × (h.tag ≡ t)
Meets expected.Alternative h = h.kind ≡ item.Scope scope.Alternative
Meets expected.Any h = ⊤
