-- The components of a SEQUENCE or a SET that must have distinct tags, and those that share one (X.680, 25.6, 25.6.1 and 27.3).
use Rattle.std.specs.Prelude.{◌≡◌, ◌⊎◌, ◌<◌, ◌≤◌, ℕ, ◌+◌, Bool, ◌||◌, if◌then◌else◌, IsTrue, List, [], ◌∷◌, Option, None, Some, MatchOption, IfSome, option_map, position, slice_get}
use Rattle.std.specs.Option.{option_or}
use Rattle.asn1_tags.specs.Trees.{Tree, is_open, leaves}
use Rattle.asn1_tags.specs.Walks.{have_common_tag}
use Rattle.asn1_tags.specs.declared.tags.Tag.{Tag}
use Rattle.asn1_model.specs.Tags.{Has, tree_tags}
use Rattle.asn1_fields.specs.FieldViews.{Component, may_be_absent}

-- Two types do not have distinct tags: some tag is a tag of both. A type's tags are the leaves of its tree, or every tag
-- where a choice of nothing is anywhere in the tree.
pub record ShareTag (s t : Tree) : Type 0 where
  pub tag : Tag
  pub of_first : Has (tree_tags s) tag
  pub of_second : Has (tree_tags t) tag

-- The same as a test: a choice of nothing is anywhere in either tree, or they have a leaf in common.
abbrev pub share_tag : Tree → Tree → Bool
share_tag s t = is_open s || is_open t || have_common_tag (leaves s) (leaves t)

-- All components of a SET must have distinct tags (X.680, 27.3). Two of them, the first before the second, share one.
pub record IsSetClash (cs : List Component) (i j : ℕ) : Type 0 where
  pub first : Component
  pub second : Component
  pub first_at : slice_get cs i ≡ Some first
  pub second_at : slice_get cs j ≡ Some second
  pub before : i < j
  pub shared : ShareTag first.tree second.tree

-- In a SEQUENCE each run of components that may be absent, together with the component right after the run, must have
-- distinct tags (X.680, 25.6 and 25.6.1). Two of them share one: from the first on, all before the second may be absent.
pub record IsSequenceClash (cs : List Component) (i j : ℕ) : Type 0 where
  pub pair : IsSetClash cs i j
  pub run : (k : ℕ) → i ≤ k → k < j → IfSome (slice_get cs k) (λ c. IsTrue (may_be_absent c.presence))

-- The pairs go by their first indices, and where these are the same, by their second ones.
abbrev pub IsUpTo : ℕ × ℕ → ℕ × ℕ → Type 0
IsUpTo p q = (p.0 < q.0) ⊎ ((p.0 ≡ q.0) × (p.1 ≤ q.1))

-- the least pair that is such a clash, and `None` if and only if there is none
abbrev pub IsLeast : (ℕ → ℕ → Type 0) → Option (ℕ × ℕ) → Type 0
IsLeast IsClash found =
    MatchOption found ((i j : ℕ) → ¬ IsClash i j) (λ p. IsClash p.0 p.1 × ((i j : ℕ) → IsClash i j → IsUpTo p (i, j)))

-- The same as functions, for a report.

-- the components up to and including the first that must be there
abbrev pub up_to_required : List Component → List Component
up_to_required [] = []
up_to_required (c ∷ cs) = c ∷ (if may_be_absent c.presence then up_to_required cs else [])

-- the components that follow this one and must have other tags, in a SEQUENCE
abbrev pub rivals : Component → List Component → List Component
rivals c cs = if may_be_absent c.presence then up_to_required cs else []

-- the first pair of a component and one of those that must have other tags, where the two share one
abbrev pub first_clash : (Component → List Component → List Component) → List Component → Option (ℕ × ℕ)
first_clash others [] = None
first_clash others (c ∷ cs) =
    option_or
    (option_map (λ j. (0, j + 1)) (position (λ d. share_tag c.tree d.tree) (others c cs)))
    (option_map (λ p. (p.0 + 1, p.1 + 1)) (first_clash others cs))

-- the least pair of indices that clash in a SEQUENCE of these components
abbrev pub sequence_clash : List Component → Option (ℕ × ℕ)
sequence_clash cs = first_clash rivals cs

-- the least pair of indices that clash in a SET of these components
abbrev pub set_clash : List Component → Option (ℕ × ℕ)
set_clash cs = first_clash (λ c following. following) cs
