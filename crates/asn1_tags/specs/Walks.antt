-- The answers of the walks over trees.
use Rattle.std.specs.Prelude.{◌≡◌, ◌<◌, ◌||◌, ℕ, Bool, true, false, ◌+◌, length, slice_index_or, Result, MatchResult, Option, Some, None, MatchOption, List, [], All, Contains}
use Rattle.std.specs.List.{list_any, position_or_len}
use Rattle.asn1_tags.specs.Tags.{IsAtMost, has, lesser, tag_eq}
use Rattle.asn1_tags.specs.Trees.{Tree, Trees, is_any_open, is_open, leaves, leaves_of}
use Rattle.asn1_tags.specs.declared.tags.Tag.{Tag}

-- whether a tag is in both lists
abbrev pub have_common_tag : List Tag → List Tag → Bool
have_common_tag ts us = list_any (λ t. has t us) ts

-- whether what has the tree, or one of the trees, can begin with the tag
abbrev pub begins_with : Tag → Tree → Bool
begins_with t tree = is_open tree || has t (leaves tree)

abbrev pub any_begins_with : Tag → Trees → Bool
any_begins_with t trees = is_any_open trees || has t (leaves_of trees)

-- the first index of the tag among these, or how many tags there are
abbrev pub IsFirstIndexOf : Tag → List Tag → Result ℕ ℕ → Type 0
IsFirstIndexOf t ts r =
    MatchResult
    r
    (λ index. (has t ts ≡ true) × (index ≡ position_or_len (λ s. tag_eq s t) ts))
    (λ count. (has t ts ≡ false) × (count ≡ length ts))

-- the tag after this many others, or how many more there would have to be
abbrev pub IsTagAfter : List Tag → ℕ → Result Tag ℕ → Type 0
IsTagAfter ts skipped r =
    MatchResult
    r
    (λ t. (skipped < length ts) × (t ≡ slice_index_or ts skipped t))
    (λ left. length ts + left ≡ skipped)

-- the smallest of the tags, if there is any
abbrev pub IsSmallestIfAny : List Tag → Option Tag → Type 0
IsSmallestIfAny ts r = MatchOption r (ts ≡ []) (λ t. Contains ts t × All (IsAtMost t) ts)

-- the lesser of two tags, or the one that is there
abbrev pub lesser_of : Option Tag → Option Tag → Option Tag
lesser_of None r = r
lesser_of (Some s) None = Some s
lesser_of (Some s) (Some t) = Some (lesser s t)
