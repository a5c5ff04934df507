-- The tag of the chosen alternative: it is one of that alternative's own, so one of the CHOICE's, and no other's.
use Rattle.std.specs.Prelude.{List, [], ◌∷◌, Contains}
use Rattle.std.proofs.Common.{inl, inr}
use Rattle.std.proofs.lemmas.List.Elements.{Contains-append_left, Contains-append_right}
use Rattle.asn1_tags.specs.declared.tags.Tag.{Tag}
use Rattle.asn1_tags.specs.Trees.{choice, leaves, leaves_of}
use Rattle.asn1_tags.proofs.TagListTests.{distinct-after, apart-from_distinct}
use Rattle.asn1_model.specs.Tags.{Has, IsOneRecord, first_tag, tree_tags}
use Rattle.asn1_model.proofs.FirstTags.{one_has}
use Rattle.asn1_model.proofs.TagSets.{has_leaf, leaf_has}
use Rattle.asn1_components.specs.Alternatives.{Alternative, OneOf, Each, CanBeChosen, HaveDistinctTags, trees_of, chosen, chosen_meaning, others}

-- the tag of the chosen alternative: the first of its record
abbrev pub chosen_tag : (alts : List Alternative) → OneOf alts → Tag
chosen_tag alts x = first_tag (chosen_meaning alts x).records

-- the alternative cannot begin with the tag
abbrev pub LacksTag : Tag → Alternative → Type 0
LacksTag t a = ¬ Has (tree_tags a.type.tree) t

-- the chosen alternative is one record, which begins with one of its tags
pub chosen_is_one : (alts : List Alternative) → Each CanBeChosen alts → (x : OneOf alts) → IsOneRecord (tree_tags (chosen alts x).type.tree) (chosen_meaning alts x).records
chosen_is_one [] can x = absurd x
chosen_is_one (a ∷ alts) can (inl w) = a.type.one_record can.0.0 w
chosen_is_one (a ∷ alts) can (inr x) = chosen_is_one alts can.1 x

-- so the chosen tag is one of these
pub chosen_has_own : (alts : List Alternative) → Each CanBeChosen alts → (x : OneOf alts) → Has (tree_tags (chosen alts x).type.tree) (chosen_tag alts x)
chosen_has_own alts can x = one_has (tree_tags (chosen alts x).type.tree) (chosen_meaning alts x).records (chosen_is_one alts can x)

-- and a leaf of their trees
pub chosen_is_leaf : (alts : List Alternative) → Each CanBeChosen alts → (x : OneOf alts) → Contains (leaves_of (trees_of alts)) (chosen_tag alts x)
chosen_is_leaf [] can x = absurd x
chosen_is_leaf (a ∷ alts) can (inl w) =
    let t : Tag = chosen_tag (a ∷ alts) (inl w) in
    Contains-append_left (leaves a.type.tree) (leaves_of (trees_of alts)) t (leaf_has a.type.tree t can.0.1 (chosen_has_own (a ∷ alts) can (inl w)))
chosen_is_leaf (a ∷ alts) can (inr x) =
    Contains-append_right (leaves a.type.tree) (leaves_of (trees_of alts)) (chosen_tag alts x) (chosen_is_leaf alts can.1 x)

-- and one of the CHOICE's
pub chosen_is_among : (alts : List Alternative) → Each CanBeChosen alts → (x : OneOf alts) → Has (tree_tags (choice (trees_of alts))) (chosen_tag alts x)
chosen_is_among alts can x = has_leaf (choice (trees_of alts)) (chosen_tag alts x) (chosen_is_leaf alts can x)

-- a tag that is no leaf of their trees is a tag of none of them
none_has : (t : Tag) (alts : List Alternative) → Each CanBeChosen alts → ¬ Contains (leaves_of (trees_of alts)) t → Each (LacksTag t) alts
none_has t [] can no_leaf = tt
none_has t (a ∷ alts) can no_leaf = (
  λ has. no_leaf (Contains-append_left (leaves a.type.tree) (leaves_of (trees_of alts)) t (leaf_has a.type.tree t can.0.1 has)),
  none_has t alts can.1 (λ leaf. no_leaf (Contains-append_right (leaves a.type.tree) (leaves_of (trees_of alts)) t leaf)),
)

-- if they have distinct tags, no other alternative has the chosen tag
pub others_lack : (alts : List Alternative) → HaveDistinctTags alts → Each CanBeChosen alts → (x : OneOf alts) → Each (LacksTag (chosen_tag alts x)) (others alts x)
others_lack [] apart can x = absurd x
others_lack (a ∷ alts) apart can (inl w) =
    let t : Tag = chosen_tag (a ∷ alts) (inl w) in
    none_has t alts can.1
    (apart-from_distinct (leaves a.type.tree) (leaves_of (trees_of alts)) apart t (leaf_has a.type.tree t can.0.1 (chosen_has_own (a ∷ alts) can (inl w))))
others_lack (a ∷ alts) apart can (inr x) =
    let t : Tag = chosen_tag alts x in (
      λ has. apart-from_distinct (leaves a.type.tree) (leaves_of (trees_of alts)) apart t (leaf_has a.type.tree t can.0.1 has) (chosen_is_leaf alts can.1 x),
      others_lack alts (distinct-after (leaves a.type.tree) (leaves_of (trees_of alts)) apart) can.1 x,
    )

-- The chosen alternative is one record, which begins with one of its own tags, and no other alternative has that tag.
pub record TagIdentifiesAlternative (alts : List Alternative) (x : OneOf alts) : Type 0 where
  pub one_record : IsOneRecord (tree_tags (chosen alts x).type.tree) (chosen_meaning alts x).records
  pub its_own : Has (tree_tags (chosen alts x).type.tree) (chosen_tag alts x)
  pub no_other : Each (LacksTag (chosen_tag alts x)) (others alts x)

-- this holds if the alternatives have distinct tags and can be chosen
pub tag_identifies : (alts : List Alternative) → HaveDistinctTags alts → Each CanBeChosen alts → (x : OneOf alts) → TagIdentifiesAlternative alts x
tag_identifies alts apart can x = record {
  one_record = chosen_is_one alts can x;
  its_own = chosen_has_own alts can x;
  no_other = others_lack alts apart can x;
}

-- Each alternative that can begin with the first tag can begin with the second.
abbrev pub SelectsSameAlternative : Tag → Tag → List Alternative → Type 0
SelectsSameAlternative u t alts = Each
    (λ a. Has (tree_tags a.type.tree) u → Has (tree_tags a.type.tree) t) alts

-- so the chosen one can, where the first is its own
pub selects_chosen : (alts : List Alternative) (x : OneOf alts) (u t : Tag) →
    SelectsSameAlternative u t alts → Has (tree_tags (chosen alts x).type.tree) u →
    Has (tree_tags (chosen alts x).type.tree) t
selects_chosen [] x u t tells has = absurd x
selects_chosen (a ∷ alts) (inl w) u t tells has = tells.0 has
selects_chosen (a ∷ alts) (inr x) u t tells has = selects_chosen alts x u t tells.1 has

-- a tag selects the same alternative as itself
pub selects_itself : (alts : List Alternative) (t : Tag) → SelectsSameAlternative t t alts
selects_itself [] t = tt
selects_itself (a ∷ alts) t = (λ has. has, selects_itself alts t)
