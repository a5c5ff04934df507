-- The indices of trees that have a tag as a leaf.
use Rattle.std.proofs.Common.{◌≡◌, ◌<◌, ◌≤◌, ◌++◌, ℕ, zero, suc, ◌+◌, ◌-◌, ◌==◌, ◌^◌, Bool, true, false, List, [], ◌∷◌, Option, None, Some, SomeIff, Contains, get_or, length, take, refl, ap, subst, sym, ◌∙◌, arith, length-append}
use Rattle.std.specs.List.{slice_get}
use Rattle.std.specs.Prelude.{MatchOption}
use Rattle.std.proofs.lemmas.Bool.Decides.{nat_tests}
use Rattle.std.proofs.lemmas.List.{append-nil, get_or-append-add, get_or_append_left, take_all}
use Rattle.std.proofs.lemmas.List.Elements.{Contains-append_left, Contains-append_right}
use Rattle.std.proofs.lemmas.Option.{get_or_from_slice_get, slice_get-get_or, slice_get_within}
use Rattle.std.specs.Borrow.{Bor}
use Rattle.asn1_components.specs.Alternatives.{Alternatives, OneOf, all_of, trees_of}
use Rattle.asn1_components.specs.ChoiceTypes.{AgreesWithChoice}
use Rattle.asn1_model.specs.Tags.{CHOICE}
use Rattle.asn1_model.specs.TypeTables.{tree_under}
use Rattle.asn1_model.specs.declared.type_table.TreeForm.{TreeForm}
use Rattle.asn1_model.specs.declared.type_table.TreeForm.TheVariants.{Choice, Leaf, Open}
use Rattle.asn1_model.specs.Meaning.{Meaning}
use Rattle.asn1_tags.proofs.TagListTests.{has-from_Contains, tag_eq-true}
use Rattle.asn1_tags.proofs.Leaves.{count_more}
use Rattle.asn1_tags.proofs.ListPositions.{position-found}
use Rattle.asn1_tags.proofs.Positions.{position_of-some}
use Rattle.asn1_tags.specs.Tags.{has, position_of, tag_eq}
use Rattle.asn1_tags.specs.Trees.{Trees, none, more, choice, leaf, leaves, leaves_of, shape, shapes}
use Rattle.asn1_tags.specs.declared.tags.Tag.{Tag}
use Rattle.asn1_tags.specs.declared.trees.TagTree.{TagTree}
use Rattle.asn1_components.specs.Following.{When}
use Rattle.asn1_tags.specs.Order.{structures_cmp}
use Rattle.asn1_tags.specs.OrderLaws.{structure_cmp-Equal}
use Rattle.std.specs.Ordering.{is_eq}
use Rattle.std.specs.declared.cmp.Ordering.{Ordering}
use Rattle.std.specs.declared.cmp.Ordering.TheVariants.{Less, Equal, Greater}
use Rattle.asn1_slots.specs.Cases.{Case, alternatives_of, are_of_cases}
use Rattle.asn1_slots.specs.TagIndices.{BeginsAt, IsIndexOf}

-- the leaves of a tree alone
alone : (tree : TagTree) → leaves_of (shapes (tree ∷ [])) ≡ leaves (shape tree)
alone tree = append-nil (leaves (shape tree))

-- the tree at an index, alone, has its leaves
alone_at : (trees : List TagTree) (index : ℕ) (x : TagTree) (one : List TagTree) → x ≡ get_or trees index x → one ≡ x ∷ [] →
    leaves_of (shapes one) ≡ leaves_of (shapes (get_or trees index x ∷ []))
alone_at trees index x one at is = ap (λ xs. leaves_of (shapes xs)) is ∙ ap (λ y. leaves_of (shapes (y ∷ []))) at

-- where it has the tag, the tag is at the index
has_there : (trees : List TagTree) (index : ℕ) (d : TagTree) (t : Tag) → index < length trees →
    Contains (leaves_of (shapes (get_or trees index d ∷ []))) t → BeginsAt (shapes trees) index t
has_there [] index d t low has = absurd (omega (arith, low))
has_there (x ∷ trees) zero d t low has = subst (λ ts. Contains ts t) (alone x) has
has_there (x ∷ trees) (suc index) d t low has = has_there trees index d t (omega (arith, low)) has

pub has_at : (trees : List TagTree) (index : ℕ) (x : TagTree) (one : List TagTree) (t : Tag) → index < length trees →
    x ≡ get_or trees index x → one ≡ x ∷ [] → Contains (leaves_of (shapes one)) t → BeginsAt (shapes trees) index t
has_at trees index x one t low at is has =
    has_there trees index x t low (subst (λ ts. Contains ts t) (alone_at trees index x one at is) has)

-- and only there
is_there : (trees : List TagTree) (index : ℕ) (d : TagTree) (t : Tag) → index < length trees →
    BeginsAt (shapes trees) index t → Contains (leaves_of (shapes (get_or trees index d ∷ []))) t
is_there [] index d t low at = absurd at
is_there (x ∷ trees) zero d t low at = subst (λ ts. Contains ts t) (sym (alone x)) at
is_there (x ∷ trees) (suc index) d t low at = is_there trees index d t (omega (arith, low)) at

-- there is none after the last tree
within : (trees : List TagTree) (index : ℕ) (t : Tag) → BeginsAt (shapes trees) index t → index < length trees
within [] index t at = absurd at
within (x ∷ trees) zero t at = omega arith
within (x ∷ trees) (suc index) t at = omega (arith, within trees index t at)

-- No tree before this index has the tag.
abbrev pub NoneBefore : List TagTree → ℕ → Tag → Type 0
NoneBefore trees index t = (k : ℕ) → k < index → BeginsAt (shapes trees) k t → ⊥

-- nor has the one at this index
pub nor_this : (trees : List TagTree) (index : ℕ) (x : TagTree) (one : List TagTree) (t : Tag) → NoneBefore trees index t →
    x ≡ get_or trees index x → one ≡ x ∷ [] → ¬ Contains (leaves_of (shapes one)) t → NoneBefore trees (index + 1) t
nor_this trees index x one t before here is lacks k low at = by_index (k == index) refl
  where
    by_index : (b : Bool) → (k == index) ≡ b → ⊥
    by_index true compared =
        let same : k ≡ index = grind (arith, nat_tests) in
        let there : BeginsAt (shapes trees) index t = subst (λ i. BeginsAt (shapes trees) i t) same at in
        lacks (subst (λ ts. Contains ts t) (sym (alone_at trees index x one here is)) (is_there trees index x t (within trees index t there) there))
    by_index false compared = before k (grind (arith, nat_tests)) at

-- nor has any
pub none_at_all : (trees : List TagTree) (index : ℕ) (t : Tag) → NoneBefore trees index t → length trees ≤ index →
    (k : ℕ) → BeginsAt (shapes trees) k t → ⊥
none_at_all trees index t before end k at = before k (omega (arith, end, within trees k t at)) at

-- the tree at an index has the leaf that comes after this many others of its own
leaf_there : (trees : List TagTree) (index : ℕ) (d : TagTree) (position left : ℕ) (t : Tag) → index < length trees →
    position ≡ length (leaves_of (shapes (take index trees))) + left → left < length (leaves_of (shapes (get_or trees index d ∷ []))) →
    slice_get (leaves_of (shapes trees)) position ≡ Some t → BeginsAt (shapes trees) index t
leaf_there [] index d position left t low is few found = absurd (omega (arith, low))
leaf_there (x ∷ trees) zero d position left t low is few found =
    let here : left < length (leaves (shape x)) = subst (λ ts. left < length ts) (alone x) few in
    let same : position ≡ left = omega (arith, is) in
    let got : get_or (leaves (shape x) ++ leaves_of (shapes trees)) left t ≡ t = subst (λ i. get_or (leaves (shape x) ++ leaves_of (shapes trees)) i t ≡ t) same (get_or_from_slice_get (leaves (shape x) ++ leaves_of (shapes trees)) position t t found) in
    (left, here, sym (get_or_append_left (leaves (shape x)) (leaves_of (shapes trees)) t left here) ∙ got)
leaf_there (x ∷ trees) (suc index) d position left t low is few found =
    let more = length-append (leaves (shape x)) (leaves_of (shapes (take index trees))) in
    let rest = length-append (leaves (shape x)) (leaves_of (shapes trees)) in
    let lower : ℕ = length (leaves_of (shapes (take index trees))) + left in
    let there : length (leaves (shape x)) + lower ≡ position = omega (arith, is, more) in
    let got : get_or (leaves (shape x) ++ leaves_of (shapes trees)) (length (leaves (shape x)) + lower) t ≡ t = subst (λ i. get_or (leaves (shape x) ++ leaves_of (shapes trees)) i t ≡ t) (sym there) (get_or_from_slice_get (leaves (shape x) ++ leaves_of (shapes trees)) position t t found) in
    let few_left : lower < length (leaves_of (shapes trees)) = omega (arith, there, rest, slice_get_within (leaves (shape x) ++ leaves_of (shapes trees)) position t found) in
    leaf_there trees index d lower left t (omega (arith, low)) refl few
    (slice_get-get_or (leaves_of (shapes trees)) lower t few_left ∙ ap Some (sym (get_or-append-add (leaves (shape x)) (leaves_of (shapes trees)) lower t) ∙ got))

pub leaf_is_at : (trees : List TagTree) (index : ℕ) (x : TagTree) (one : List TagTree) (position left : ℕ) (t : Tag) → index < length trees →
    x ≡ get_or trees index x → one ≡ x ∷ [] → position ≡ length (leaves_of (shapes (take index trees))) + left → left < length (leaves_of (shapes one)) →
    slice_get (leaves_of (shapes trees)) position ≡ Some t → BeginsAt (shapes trees) index t
leaf_is_at trees index x one position left t low at is upto few found =
    leaf_there trees index x position left t low upto (subst (λ ts. left < length ts) (alone_at trees index x one at is) few) found

-- the leaves of the trees up to an index, and of one more
pub one_more_tree : (trees : List TagTree) (index : ℕ) (x : TagTree) (one : List TagTree) (position left count : ℕ) → index < length trees →
    x ≡ get_or trees index x → one ≡ x ∷ [] → position ≡ length (leaves_of (shapes (take index trees))) + left → count ≡ length (leaves_of (shapes one)) →
    count ≤ left → position ≡ length (leaves_of (shapes (take (index + 1) trees))) + (left - count)
one_more_tree trees index x one position left count low at is upto counted few =
    omega (arith, count_more trees index x low, ap length (alone_at trees index x one at is), ap length (alone (get_or trees index x)), upto, counted, few)

-- a leaf that comes after those of all trees is none
pub no_leaf : (trees : List TagTree) (index position left : ℕ) (t : Tag) → length trees ≤ index →
    position ≡ length (leaves_of (shapes (take index trees))) + left → slice_get (leaves_of (shapes trees)) position ≡ Some t → ⊥
no_leaf trees index position left t end is found =
    let all : length (leaves_of (shapes (take index trees))) ≡ length (leaves_of (shapes trees)) = ap (λ ts. length (leaves_of (shapes ts))) (take_all index trees end) in
    omega (arith, all, is, slice_get_within (leaves_of (shapes trees)) position t found)

-- The table of a CHOICE has the trees of its alternatives.
module _ {V : Type 0} (m : Meaning V) (alts : Alternatives) (pick : V → OneOf (all_of alts)) (agrees : AgreesWithChoice alts pick m) where
  tree_is : (form : TreeForm) → ((t : Tag) → tree_under form t ≡ m.tree t) → tree_under form CHOICE ≡ choice (trees_of (all_of alts))
  tree_is form says = says CHOICE ∙ agrees.tree CHOICE

  pub trees_are : (form : TreeForm) (nodes : Bor (List TagTree)) → ((t : Tag) → tree_under form t ≡ m.tree t) → form ≡ Choice nodes →
      shapes nodes.now ≡ trees_of (all_of alts)
  trees_are form nodes says is =
      let same : choice (shapes nodes.now) ≡ choice (trees_of (all_of alts)) = subst (λ f. tree_under f CHOICE ≡ choice (trees_of (all_of alts))) is (tree_is form says) in
      cc

  -- and is no other table
  pub no_leaf_alone : (form : TreeForm) (t : Tag) (k : ℕ) → ((t : Tag) → tree_under form t ≡ m.tree t) → form ≡ Leaf → BeginsAt (trees_of (all_of alts)) k t → ⊥
  no_leaf_alone form t k says is at =
      let wrong : leaf CHOICE ≡ choice (trees_of (all_of alts)) = subst (λ f. tree_under f CHOICE ≡ choice (trees_of (all_of alts))) is (tree_is form says) in
      cc

  pub no_trees : (form : TreeForm) (t : Tag) (k : ℕ) → ((t : Tag) → tree_under form t ≡ m.tree t) → form ≡ Open → BeginsAt (trees_of (all_of alts)) k t → ⊥
  no_trees form t k says is at =
      let same : choice none ≡ choice (trees_of (all_of alts)) = subst (λ f. tree_under f CHOICE ≡ choice (trees_of (all_of alts))) is (tree_is form says) in
      let nothing : trees_of (all_of alts) ≡ none = cc in
      subst (λ ts. BeginsAt ts k t) nothing at

-- what a count of leaves says
pub counted : (count number : ℕ) (answer : Option ℕ) → answer ≡ Some count → SomeIff answer (number < 2 ^ 64) number → count ≡ number
counted count number answer is some = (subst (λ o. SomeIff o (number < 2 ^ 64) number) is some).1

-- and what it says that there is none
pub not_counted : (left number : ℕ) (answer : Option ℕ) → answer ≡ None → SomeIff answer (number < 2 ^ 64) number → left < 2 ^ 64 → left < number
not_counted left number answer is too_many fits =
    let many : ¬ (number < 2 ^ 64) = subst (λ o. SomeIff o (number < 2 ^ 64) number) is too_many in
    omega (arith, many, fits)

-- a tag at an index is a leaf
pub is_leaf : (trees : Trees) (index : ℕ) (t : Tag) → BeginsAt trees index t → Contains (leaves_of trees) t
is_leaf none index t at = absurd at
is_leaf (more tree trees) zero t at = Contains-append_left (leaves tree) (leaves_of trees) t at
is_leaf (more tree trees) (suc index) t at = Contains-append_right (leaves tree) (leaves_of trees) t (is_leaf trees index t at)

-- the index of a tag that is found among the leaves
pub found_at : (trees : List TagTree) (tags : List Tag) (t : Tag) (position : ℕ) (answer : Option ℕ) → tags ≡ leaves_of (shapes trees) →
    Some position ≡ position_of t tags →
    ((u : Tag) → slice_get (leaves_of (shapes trees)) position ≡ Some u → MatchOption answer ⊥ (λ k. BeginsAt (shapes trees) k u)) →
    IsIndexOf t (shapes trees) answer
found_at trees tags t position answer all at begins =
    let found = position-found (λ s. tag_eq s t) tags position t (sym at) in
    let same : found.0 ≡ t = tag_eq-true found.0 t found.2 in
    let there : slice_get (leaves_of (shapes trees)) position ≡ Some t = subst (λ ts. slice_get ts position ≡ Some t) all (found.1 ∙ ap Some same) in
    is_index answer (begins t there)
  where
    is_index : (answer : Option ℕ) → MatchOption answer ⊥ (λ k. BeginsAt (shapes trees) k t) → IsIndexOf t (shapes trees) answer
    is_index None wrong = absurd wrong
    is_index (Some k) at = at

-- one that is not found is at none
pub not_found : (trees : List TagTree) (tags : List Tag) (t : Tag) → tags ≡ leaves_of (shapes trees) → None ≡ position_of t tags →
    (k : ℕ) → BeginsAt (shapes trees) k t → ⊥
not_found trees tags t all missing k at =
    let has : has t tags ≡ true = subst (λ ts. has t ts ≡ true) (sym all) (has-from_Contains t (leaves_of (shapes trees)) (is_leaf (shapes trees) k t at)) in
    let wrong = missing ∙ position_of-some t tags has in
    cc

-- the facts if the alternatives are those of the cases
pub where_they_are : {V : Type 0} (P : Type 0) (alternatives : Alternatives) (cases : List (Case V)) →
    (trees_of (all_of alternatives) ≡ trees_of (alternatives_of cases) → P) → When (are_of_cases alternatives cases) P
where_they_are P alternatives cases holds =
    by_order (structures_cmp (trees_of (all_of alternatives)) (trees_of (alternatives_of cases))) (λ same.
    let equal = structure_cmp-Equal (choice (trees_of (all_of alternatives))) (choice (trees_of (alternatives_of cases))) same in
    let trees : trees_of (all_of alternatives) ≡ trees_of (alternatives_of cases) = cc in
    holds trees)
  where
    by_order : (o : Ordering) → (o ≡ Equal → P) → When (is_eq o) P
    by_order Less f = tt
    by_order Equal f = f refl
    by_order Greater f = tt
