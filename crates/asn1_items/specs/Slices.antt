-- The bytes left of the open lists, and the items taken from them.
use Rattle.std.specs.Prelude.{◌≡◌, ℕ, IsTrue, List, [], ◌∷◌, ◌++◌, MatchResult, Result, Some, length, vec_len}
use Rattle.asn1_items.specs.Headers.{Header, Meets, header_at, is_one_item}
use Rattle.asn1_items.specs.Items.{IsItem}
use Rattle.asn1_items.specs.Kinds.{content_byte}
use Rattle.asn1_items.specs.declared.header.ExpectedHeader.{ExpectedHeader}
use Rattle.asn1_items.specs.declared.header.ExpectedHeader.TheVariants as expected
use Rattle.asn1_items.specs.declared.kinds.ItemKind.TheVariants as item
use Rattle.asn1_items.specs.declared.kinds.ScopeKind.TheVariants as scope
use Rattle.asn1_items.specs.declared.slices.Item.{Item}
use Rattle.asn1_items.specs.declared.slices.Rest.{Rest}
use Rattle.asn1_items.specs.declared.slices.Slices.{Slices}
use Rattle.asn1_tags.specs.declared.tags.Tag.{Tag}

-- what is left of the lists that are outside, which come outermost first, inside those that are given
abbrev pub left_of : List (List ℕ) → List Rest → List (List ℕ)
left_of outer [] = outer
left_of outer (r ∷ rs) = left_of (r.bytes.now ∷ outer) rs

-- what is left of the innermost list, and of those outside it
abbrev pub left_inside : Slices → List ℕ
left_inside s = s.left.now

abbrev pub left_outside : Slices → List (List ℕ)
left_outside s = left_of [] s.outer.items

-- how many lists are outside
abbrev pub open_lists : Slices → ℕ
open_lists s = vec_len s.outer

-- An item was taken: of this tag, with this inside, and what follows is left.
pub record IsItemTaken (i : Item) (t : Tag) (inside back : List ℕ) (old new : Slices) : Type 0 where
  pub tag : i.tag ≡ t
  pub inside_is : i.body.now ≡ inside
  pub bytes : left_inside old ≡ i.bytes.now ++ back
  pub left : left_inside new ≡ back

-- A call that takes the item that is next, and is what is wanted: it does not fail where the item is there whole.
abbrev pub TakesItem : {E : Type 0} → ExpectedHeader → Slices → Slices → Result Item E → Type 0
TakesItem wanted old new result = (h : Header) (inside back : List ℕ) → header_at (left_inside old) ≡ Some h → h.body ≡ inside ++ back → h.size ≡ length inside → Meets wanted h →
    MatchResult result (λ i. IsItemTaken i h.tag inside back old new) (λ _. ⊥)

-- The bytes are an item with the expected header, of this tag, with this inside.
abbrev pub IsExpectedItem : ExpectedHeader → Tag → List ℕ → List ℕ → Type 0
IsExpectedItem (expected.Content t k) tag inside bytes = (tag ≡ t) × IsItem item.Content tag (content_byte k ∷ []) inside bytes
IsExpectedItem (expected.Scope k t) tag inside bytes = (tag ≡ t) × IsItem (item.Scope k) tag [] inside bytes
IsExpectedItem expected.Alternative tag inside bytes = IsItem (item.Scope scope.Alternative) tag [] inside bytes
IsExpectedItem expected.Any tag inside bytes = IsTrue (is_one_item bytes)

-- The expected item was taken, and nothing else: what was left is its bytes, and those that are left.
pub record HasTaken (header : ExpectedHeader) (old new : Slices) (i : Item) : Type 0 where
  pub is : IsExpectedItem header i.tag i.body.now i.bytes.now
  pub left : left_inside old ≡ i.bytes.now ++ left_inside new
