-- The tags that two trees share, and the test of it.
use Rattle.std.proofs.Common.{◌≡◌, ◌⊎◌, inl, inr, Contains, if◌then◌else◌, Bool, true, false, ◌||◌, IsTrue, List, refl, sym}
use Rattle.std.proofs.lemmas.Bool.{false≢true, or_left, or_right}
use Rattle.asn1_tags.specs.Tags.{HaveCommonTag, greatest}
use Rattle.asn1_tags.specs.Trees.{Tree, is_open, leaves}
use Rattle.asn1_tags.specs.Walks.{have_common_tag}
use Rattle.asn1_tags.specs.declared.tags.Tag.{Tag}
use Rattle.asn1_tags.proofs.Leaves.{leaf_of}
use Rattle.asn1_tags.proofs.TagListTests.{HaveCommonTag-from_test, have_common_tag-from_HaveCommonTag}
use Rattle.asn1_model.specs.Tags.{Has, among, every, tree_tags}
use Rattle.asn1_fields.specs.DistinctTags.{ShareTag, share_tag}

-- a tag of a tree: each one where a choice of nothing is in it, and else a leaf
pub tag-from_open_or_leaf : (t : Tree) (tag : Tag) → IsTrue (is_open t) ⊎ Contains (leaves t) tag → Has (tree_tags t) tag
tag-from_open_or_leaf t tag h = by_open (is_open t) h
  where
    by_open : (b : Bool) → IsTrue b ⊎ Contains (leaves t) tag → Has (if b then every else among (leaves t)) tag
    by_open true h = tt
    by_open false (inl e) = absurd (false≢true e)
    by_open false (inr l) = l

pub open_or_leaf : (t : Tree) (tag : Tag) → Has (tree_tags t) tag → IsTrue (is_open t) ⊎ Contains (leaves t) tag
open_or_leaf t tag h = by_open (is_open t) h
  where
    by_open : (b : Bool) → Has (if b then every else among (leaves t)) tag → IsTrue b ⊎ Contains (leaves t) tag
    by_open true h = inl refl
    by_open false l = inr l

-- each type has a tag
some_tag : (t : Tree) (b : Bool) → is_open t ≡ b → (tag : Tag) × Has (tree_tags t) tag
some_tag t true e = (greatest, tag-from_open_or_leaf t greatest (inl e))
some_tag t false e = let l = leaf_of t e in (l.0, tag-from_open_or_leaf t l.0 (inr l.1))

-- trees that the test answers true for share a tag
pub ShareTag-from_test : (s t : Tree) → share_tag s t ≡ true → ShareTag s t
ShareTag-from_test s t h = by_first (is_open s) refl (is_open t) refl h
  where
    by_first : (b : Bool) → is_open s ≡ b → (d : Bool) → is_open t ≡ d → (b || d || have_common_tag (leaves s) (leaves t)) ≡ true → ShareTag s t
    by_first true e d f h = let other = some_tag t d f in record { tag = other.0; of_first = tag-from_open_or_leaf s other.0 (inl e); of_second = other.1 }
    by_first false e true f h = let other = leaf_of s e in record { tag = other.0; of_first = tag-from_open_or_leaf s other.0 (inr other.1); of_second = tag-from_open_or_leaf t other.0 (inl f) }
    by_first false e false f h =
        let common = HaveCommonTag-from_test (leaves s) (leaves t) h in
        record {
          tag = common.tag;
          of_first = tag-from_open_or_leaf s common.tag (inr common.in_first);
          of_second = tag-from_open_or_leaf t common.tag (inr common.in_second);
        }

-- and it answers true for all that do
pub test-from_ShareTag : (s t : Tree) → ShareTag s t → share_tag s t ≡ true
test-from_ShareTag s t h = by_cases (open_or_leaf s h.tag h.of_first) (open_or_leaf t h.tag h.of_second)
  where
    common : Bool
    common = have_common_tag (leaves s) (leaves t)

    by_cases : IsTrue (is_open s) ⊎ Contains (leaves s) h.tag → IsTrue (is_open t) ⊎ Contains (leaves t) h.tag →
        share_tag s t ≡ true
    by_cases (inl e) f = or_left (is_open s || is_open t) common (or_left (is_open s) (is_open t) e)
    by_cases (inr e) (inl f) = or_left (is_open s || is_open t) common (or_right (is_open s) (is_open t) f)
    by_cases (inr e) (inr f) =
        or_right (is_open s || is_open t) common
        (have_common_tag-from_HaveCommonTag (leaves s) (leaves t) (record { tag = h.tag; in_first = e; in_second = f }))

-- a test that decides whether two lists have a tag in common equals `have_common_tag`
pub have_common_tag-is : (ts us : List Tag) (b : Bool) → (IsTrue b → HaveCommonTag ts us) → (HaveCommonTag ts us → IsTrue b) → b ≡ have_common_tag ts us
have_common_tag-is ts us true f g = sym (have_common_tag-from_HaveCommonTag ts us (f refl))
have_common_tag-is ts us false f g = by_test (have_common_tag ts us) refl
  where
    by_test : (m : Bool) → have_common_tag ts us ≡ m → false ≡ have_common_tag ts us
    by_test false e = sym e
    by_test true e = absurd (false≢true (g (HaveCommonTag-from_test ts us e)))
