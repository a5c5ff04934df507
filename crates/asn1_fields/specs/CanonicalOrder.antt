-- The canonical order of components: by the smallest tag of each (X.690, 9.3), in the order of tags (X.680, 8.6).
use Rattle.std.specs.Prelude.{◌≡◌, ◌≢◌, ℕ, ◌+◌, Bool, true, ◌&&◌, List, [], ◌∷◌, AllPairs, IsPermutation, Some, map, slice_get}
use Rattle.std.specs.Ordering.{is_le}
use Rattle.asn1_tags.specs.Tags.{IsAtMost, smallest, tag_cmp}
use Rattle.asn1_tags.specs.Trees.{leaves}
use Rattle.asn1_tags.specs.declared.tags.Tag.{Tag}
use Rattle.asn1_fields.specs.FieldViews.{Component, FieldView, component_of}

-- the smallest leaf of a component's tree
abbrev pub smallest_tag : Component → Tag
smallest_tag c = smallest (leaves c.tree)

-- Each component's smallest tag is not above the next one's.
abbrev pub IsCanonical : List Component → Type 0
IsCanonical cs =
    (k : ℕ) (c d : Component) → slice_get cs k ≡ Some c → slice_get cs (k + 1) ≡ Some d → IsAtMost (smallest_tag c) (smallest_tag d)

-- whether the first one's smallest tag is not above the second's
abbrev pub in_order : Component → Component → Bool
in_order c d = is_le (tag_cmp (smallest_tag c) (smallest_tag d))

-- the same as a test
abbrev pub canonical : List Component → Bool
canonical [] = true
canonical (c ∷ []) = true
canonical (c ∷ (d ∷ cs)) = in_order c d && canonical (d ∷ cs)

-- Of all rearrangements of a table whose components' smallest tags differ, at most one is canonical.
abbrev pub AtMostOneIsCanonical : Type 0
AtMostOneIsCanonical =
    (first second : List FieldView) → IsPermutation first second →
    AllPairs (λ d e. smallest_tag (component_of d) ≢ smallest_tag (component_of e)) first →
    IsCanonical (map component_of first) → IsCanonical (map component_of second) → first ≡ second
