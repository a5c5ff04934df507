-- The leaves of a table's components, each with the index of its component.
use Rattle.std.specs.Prelude.{◌≡◌, ◌<◌, ℕ, ◌+◌, Bool, ◌&&◌, ◌||◌, ◌==◌, not, nat_lt, if◌then◌else◌, IsTrue, List, [], ◌∷◌, ◌++◌, map, Contains, Option, None, Some, slice_get}
use Rattle.std.specs.declared.cmp.Ordering.{Ordering}
use Rattle.std.specs.Ordering.{nat_cmp, on, then_cmp}
use Rattle.asn1_tags.specs.Tags.{tag_cmp, tag_eq}
use Rattle.asn1_tags.specs.Trees.{is_open, leaves}
use Rattle.asn1_tags.specs.declared.tags.Tag.{Tag}
use Rattle.asn1_fields.specs.FieldViews.{Component}
use Rattle.asn1_clash.specs.declared.search.Occurrence.{Occurrence}

-- the leaves of the component at an index
abbrev pub occurrences_at : ℕ → List Tag → List Occurrence
occurrences_at index tags = map (λ tag. record { tag = tag; index = index }) tags

-- the leaves of components, of which the first is at an index
abbrev pub occurrences : ℕ → List Component → List Occurrence
occurrences index [] = []
occurrences index (component ∷ components) = occurrences_at index (leaves component.tree) ++ occurrences (index + 1) components

-- the order by tag, and where the tags are equal, by index
abbrev pub occurrence_cmp : Occurrence → Occurrence → Ordering
occurrence_cmp = then_cmp (on (λ a. a.tag) tag_cmp) (on (λ a. a.index) nat_cmp)

-- the indices of two occurrences, where they have one tag and the indices differ
abbrev pub pair_of : Occurrence → Occurrence → Option (ℕ × ℕ)
pair_of a b = if tag_eq a.tag b.tag && not (a.index == b.index) then Some (a.index, b.index) else None

-- some tag occurs at both indices
pub record OccursTwice (all : List Occurrence) (i j : ℕ) : Type 0 where
  pub tag : Tag
  pub before : i < j
  pub at_first : Contains all (record { tag = tag; index = i })
  pub at_second : Contains all (record { tag = tag; index = j })

-- two indices, of which one has a component that can begin with any tag
pub record HasOpen (components : List Component) (i j : ℕ) : Type 0 where
  pub first : Component
  pub second : Component
  pub first_at : slice_get components i ≡ Some first
  pub second_at : slice_get components j ≡ Some second
  pub before : i < j
  pub open_one : IsTrue (is_open first.tree || is_open second.tree)

-- whether the first pair comes before the second
abbrev pub pair_less : ℕ × ℕ → ℕ × ℕ → Bool
pair_less p q = nat_lt p.0 q.0 || ((p.0 == q.0) && nat_lt p.1 q.1)

-- the lesser of two pairs, or the one that is there
abbrev pub lesser_pair : Option (ℕ × ℕ) → Option (ℕ × ℕ) → Option (ℕ × ℕ)
lesser_pair None second = second
lesser_pair (Some p) None = Some p
lesser_pair (Some p) (Some q) = Some (if pair_less q p then q else p)
