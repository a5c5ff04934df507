-- Components of a closed CHOICE of trees whose leaves are distinct share no tag.
use Rattle.std.specs.Prelude.{◌≡◌, ◌&&◌, ◌||◌, Bool, true, false, List, [], ◌∷◌, ◌++◌, refl, not}
use Rattle.std.proofs.Common.{Contains, sym, ◌∙◌}
use Rattle.std.proofs.lemmas.Bool.{and_parts}
use Rattle.asn1_tags.proofs.Leaves.{distinct-append}
use Rattle.asn1_tags.proofs.TagListTests.{apart-from_distinct, distinct-after}
use Rattle.asn1_tags.specs.Tags.{distinct}
use Rattle.asn1_tags.specs.Trees.{Tree, is_any_open, is_open, leaves, leaves_of}
use Rattle.asn1_tags.specs.Walks.{have_common_tag}
use Rattle.asn1_tags.specs.declared.tags.Tag.{Tag}
use Rattle.asn1_model.proofs.TagSets.{leaf_has}
use Rattle.std.proofs.lemmas.List.Elements.{Contains-append_left, Contains-append_right}
use Rattle.asn1_components.specs.ComponentLists.{EachTreeIsDistinct, trees_of}
use Rattle.asn1_components.specs.ComponentTypes.{ComponentType}
use Rattle.asn1_components.specs.Following.{AllApart, ApartFromEach}

-- neither of two
neither : (a b : Bool) → (a || b) ≡ false → (a ≡ false) × (b ≡ false)
neither true b none = cc
neither false b none = (refl, none)

-- a tree apart from all
of_all : {V : Type 0} (cs : List (ComponentType V)) (tree : Tree) → is_open tree ≡ false → is_any_open (trees_of cs) ≡ false →
    ((t : Tag) → Contains (leaves tree) t → Contains (leaves_of (trees_of cs)) t → ⊥) → ApartFromEach tree cs
of_all [] tree closed all_closed apart = tt
of_all (c ∷ cs) tree closed all_closed apart =
    let closed_too = neither (is_open c.tree) (is_any_open (trees_of cs)) all_closed in (
      λ t has other. apart t (leaf_has tree t closed has)
          (Contains-append_left (leaves c.tree) (leaves_of (trees_of cs)) t (leaf_has c.tree t closed_too.0 other)),
      of_all cs tree closed closed_too.1 (λ t has other. apart t has (Contains-append_right (leaves c.tree) (leaves_of (trees_of cs)) t other)),
    )

pub apart_if_closed : {V : Type 0} (cs : List (ComponentType V)) → is_any_open (trees_of cs) ≡ false → distinct (leaves_of (trees_of cs)) ≡ true → AllApart cs
apart_if_closed [] closed are = tt
apart_if_closed (c ∷ cs) closed are =
    let parts = neither (is_open c.tree) (is_any_open (trees_of cs)) closed in
    (of_all cs c.tree parts.0 parts.1 (apart-from_distinct (leaves c.tree) (leaves_of (trees_of cs)) are), apart_if_closed cs parts.1 (distinct-after (leaves c.tree) (leaves_of (trees_of cs)) are))

-- and the tree of each is distinct
pub each_is_distinct : {V : Type 0} (cs : List (ComponentType V)) → distinct (leaves_of (trees_of cs)) ≡ true → EachTreeIsDistinct cs
each_is_distinct [] are = tt
each_is_distinct (c ∷ cs) are =
    let both = and_parts (distinct (leaves c.tree)) (distinct (leaves_of (trees_of cs)) && not (have_common_tag (leaves c.tree) (leaves_of (trees_of cs)))) (sym (distinct-append (leaves c.tree) (leaves_of (trees_of cs))) ∙ are) in
    (both.0, each_is_distinct cs (distinct-after (leaves c.tree) (leaves_of (trees_of cs)) are))
