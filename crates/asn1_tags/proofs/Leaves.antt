-- Facts about the leaves of trees, for the walks over them.
use mathlib.Core.Former.{Count}
use Rattle.std.proofs.Common.{◌≡◌, ℕ, Bool, true, false, ◌||◌, ◌&&◌, not, List, [], ◌∷◌, ◌++◌, ◌+◌, ◌-◌, ◌<◌, ◌≤◌, ◌==◌, Contains, length, get_or, take, drop, length-append, append_assoc, refl, sym, ap, ◌∙◌, arith}
use Rattle.std.specs.Borrow.{Bor}
use Rattle.std.proofs.lemmas.List.{take_more, take_rest, drop_more, append-nil, take-append-drop}
use Rattle.std.proofs.lemmas.List.Folds.{list_any-append}
use Rattle.std.proofs.lemmas.Bool.{false≢true}
use Rattle.std.proofs.lemmas.List.Elements.{Contains-append_left}
use Rattle.std.proofs.lemmas.Bool.Decides.{nat_tests}
use Rattle.std.proofs.lemmas.Grind.{common_steps}
use Rattle.asn1_tags.specs.Tags.{has, tag_eq, distinct}
use Rattle.asn1_tags.specs.Walks.{any_begins_with, begins_with, have_common_tag}
use Rattle.asn1_tags.specs.declared.tags.Tag.{Tag}
use Rattle.asn1_tags.specs.declared.trees.TagTree.{TagTree, Leaf, Choice, Choice', Row_of-TagTree, end_of-TagTree, more_of-TagTree, items-the_row-TagTree, items_hidden-the_row-TagTree-0}
use Rattle.asn1_tags.specs.Trees.{Tree, Trees, leaf, choice, none, more, shape, row_shapes, shapes, leaves, leaves_of, is_open, is_any_open, is_nothing}

row_shapes_is : (n : _) (row : Row_of-TagTree n) → row_shapes row ≡ shapes (items-the_row-TagTree n row)
unfolding shape row_shapes
row_shapes_is n end_of-TagTree = refl
row_shapes_is n (more_of-TagTree t rest) = ap (more (shape t)) (row_shapes_is _ rest)

abbrev row_of : TagTree → (n : Count) × Row_of-TagTree n
row_of (Choice' p n row) = (_, row)
row_of _ = (_, end_of-TagTree)

-- the shape of a leaf
pub shape-Leaf : (t : Tag) → shape (Leaf t) ≡ leaf t
unfolding shape
shape-Leaf t = refl

-- the shape of a choice
pub shape-Choice : (s : Bor (List TagTree)) → shape (Choice s) ≡ choice (shapes s.now)
unfolding shape row_shapes
shape-Choice s =
    let row = row_of (Choice s) in
    ap choice (row_shapes_is row.0 row.1 ∙ ap shapes (items_hidden-the_row-TagTree-0 s.now))

-- the leaves of trees that follow one another
pub leaves_of-append : (ts us : List TagTree) → leaves_of (shapes (ts ++ us)) ≡ leaves_of (shapes ts) ++ leaves_of (shapes us)
leaves_of-append [] us = refl
leaves_of-append (t ∷ ts) us =
    ap (λ ls. leaves (shape t) ++ ls) (leaves_of-append ts us) ∙ sym (append_assoc (leaves (shape t)) (leaves_of (shapes ts)) (leaves_of (shapes us)))

-- one more tree
pub leaves_of-take : (ts : List TagTree) (i : ℕ) (d : TagTree) → i < length ts →
    leaves_of (shapes (take (i + 1) ts)) ≡ leaves_of (shapes (take i ts)) ++ leaves (shape (get_or ts i d))
leaves_of-take ts i d lt =
    ap (λ us. leaves_of (shapes us)) (take_more ts i d lt)
    ∙ leaves_of-append (take i ts) (get_or ts i d ∷ [])
    ∙ ap (λ ls. leaves_of (shapes (take i ts)) ++ ls) (append-nil (leaves (shape (get_or ts i d))))

-- one tree fewer
pub leaves_of-drop : (ts : List TagTree) (i : ℕ) (d : TagTree) → i < length ts →
    leaves_of (shapes (drop i ts)) ≡ leaves (shape (get_or ts i d)) ++ leaves_of (shapes (drop (i + 1) ts))
leaves_of-drop ts i d lt = ap (λ us. leaves_of (shapes us)) (drop_more ts i d lt)

-- the leaves before an index and from it on
pub leaves_of-split : (ts : List TagTree) (i : ℕ) → leaves_of (shapes ts) ≡ leaves_of (shapes (take i ts)) ++ leaves_of (shapes (drop i ts))
leaves_of-split ts i = ap (λ us. leaves_of (shapes us)) (sym (take-append-drop i ts)) ∙ leaves_of-append (take i ts) (drop i ts)

has-append : (t : Tag) (xs ys : List Tag) → has t (xs ++ ys) ≡ (has t xs || has t ys)
has-append t xs ys = list_any-append (λ s. tag_eq s t) xs ys

-- a walk that looks for a tag
pub has_more : (t : Tag) (ts : List TagTree) (i : ℕ) (d : TagTree) → i < length ts →
    has t (leaves_of (shapes (take (i + 1) ts))) ≡ (has t (leaves_of (shapes (take i ts))) || has t (leaves (shape (get_or ts i d))))
has_more t ts i d lt = ap (has t) (leaves_of-take ts i d lt) ∙ has-append t (leaves_of (shapes (take i ts))) (leaves (shape (get_or ts i d)))

-- a tree that has the tag settles it
pub has_at : (t : Tag) (ts : List TagTree) (i : ℕ) (d : TagTree) → i < length ts →
    has t (leaves (shape (get_or ts i d))) ≡ true → has t (leaves_of (shapes ts)) ≡ true
has_at t ts i d lt h =
    let e1 = ap (has t) (leaves_of-split ts i) in
    let e2 = has-append t (leaves_of (shapes (take i ts))) (leaves_of (shapes (drop i ts))) in
    let e3 = ap (has t) (leaves_of-drop ts i d lt) in
    let e4 = has-append t (leaves (shape (get_or ts i d))) (leaves_of (shapes (drop (i + 1) ts))) in
    grind (arith, common_steps)

-- a walk that counts
pub count_more : (ts : List TagTree) (i : ℕ) (d : TagTree) → i < length ts →
    length (leaves_of (shapes (take (i + 1) ts))) ≡ length (leaves_of (shapes (take i ts))) + length (leaves (shape (get_or ts i d)))
count_more ts i d lt = ap length (leaves_of-take ts i d lt) ∙ length-append (leaves_of (shapes (take i ts))) (leaves (shape (get_or ts i d)))

pub count_upto : (ts : List TagTree) (i : ℕ) (d : TagTree) → i < length ts →
    length (leaves_of (shapes (take i ts))) + length (leaves (shape (get_or ts i d))) ≤ length (leaves_of (shapes ts))
count_upto ts i d lt =
    let e1 = ap length (leaves_of-split ts (i + 1)) in
    let e2 = length-append (leaves_of (shapes (take (i + 1) ts))) (leaves_of (shapes (drop (i + 1) ts))) in
    let e3 = count_more ts i d lt in
    omega arith

have_common_tag-append : (us xs ys : List Tag) → have_common_tag (xs ++ ys) us ≡ (have_common_tag xs us || have_common_tag ys us)
have_common_tag-append us xs ys = list_any-append (λ t. has t us) xs ys

-- a walk that looks for a tag of another list
pub meet_more : (us : List Tag) (ts : List TagTree) (i : ℕ) (d : TagTree) → i < length ts →
    have_common_tag (leaves_of (shapes (take (i + 1) ts))) us ≡ (have_common_tag (leaves_of (shapes (take i ts))) us || have_common_tag (leaves (shape (get_or ts i d))) us)
meet_more us ts i d lt =
    ap (λ ls. have_common_tag ls us) (leaves_of-take ts i d lt) ∙ have_common_tag-append us (leaves_of (shapes (take i ts))) (leaves (shape (get_or ts i d)))

pub meet_at : (us : List Tag) (ts : List TagTree) (i : ℕ) (d : TagTree) → i < length ts →
    have_common_tag (leaves (shape (get_or ts i d))) us ≡ true → have_common_tag (leaves_of (shapes ts)) us ≡ true
meet_at us ts i d lt h =
    let e1 = ap (λ ls. have_common_tag ls us) (leaves_of-split ts i) in
    let e2 = have_common_tag-append us (leaves_of (shapes (take i ts))) (leaves_of (shapes (drop i ts))) in
    let e3 = ap (λ ls. have_common_tag ls us) (leaves_of-drop ts i d lt) in
    let e4 = have_common_tag-append us (leaves (shape (get_or ts i d))) (leaves_of (shapes (drop (i + 1) ts))) in
    grind (arith, common_steps)

shuffle : (a b d y s : Bool) → (not (a || b) && (d && (y && not s))) ≡ ((not a && d) && (y && not (b || s)))
shuffle true b d y s = refl
shuffle false true true true s = refl
shuffle false true true false s = refl
shuffle false true false y s = refl
shuffle false false d y s = refl

and_true : (b : Bool) → b ≡ (b && true)
and_true true = refl
and_true false = refl

pub distinct-append : (xs ys : List Tag) → distinct (xs ++ ys) ≡ (distinct xs && (distinct ys && not (have_common_tag xs ys)))
distinct-append [] ys = and_true (distinct ys)
distinct-append (x ∷ xs) ys =
    ap (λ b. not b && distinct (xs ++ ys)) (has-append x xs ys)
    ∙ ap (λ b. not (has x xs || has x ys) && b) (distinct-append xs ys)
    ∙ shuffle (has x xs) (has x ys) (distinct xs) (distinct ys) (have_common_tag xs ys)

-- a walk that looks for a tag that occurs twice: the tree at i, and those after it
distinct_rest : (ts : List TagTree) (i : ℕ) (d : TagTree) → i < length ts →
    distinct (leaves_of (shapes (drop i ts)))
    ≡ (distinct (leaves (shape (get_or ts i d)))
    && (distinct (leaves_of (shapes (drop (i + 1) ts))) && not (have_common_tag (leaves (shape (get_or ts i d))) (leaves_of (shapes (drop (i + 1) ts))))))
distinct_rest ts i d lt =
    ap distinct (leaves_of-drop ts i d lt) ∙ distinct-append (leaves (shape (get_or ts i d))) (leaves_of (shapes (drop (i + 1) ts)))

pub distinct_stop : (ts : List TagTree) (i : ℕ) (d : TagTree) → i < length ts →
    distinct (leaves_of (shapes ts)) ≡ distinct (leaves_of (shapes (drop i ts))) →
    distinct (leaves (shape (get_or ts i d))) ≡ false → distinct (leaves_of (shapes ts)) ≡ false
distinct_stop ts i d lt e h = let r = distinct_rest ts i d lt in grind (arith, common_steps)

pub distinct_clash : (ts : List TagTree) (i : ℕ) (d : TagTree) → i < length ts →
    distinct (leaves_of (shapes ts)) ≡ distinct (leaves_of (shapes (drop i ts))) →
    have_common_tag (leaves (shape (get_or ts i d))) (leaves_of (shapes (take (length ts - (i + 1)) (drop (i + 1) ts)))) ≡ true →
    distinct (leaves_of (shapes ts)) ≡ false
distinct_clash ts i d lt e h =
    let r = distinct_rest ts i d lt in
    let k : have_common_tag (leaves (shape (get_or ts i d))) (leaves_of (shapes (drop (i + 1) ts))) ≡ true = rw (take_rest ts (i + 1)) at h in
    grind (arith, common_steps)

pub distinct_more : (ts : List TagTree) (i : ℕ) (d : TagTree) → i < length ts →
    distinct (leaves_of (shapes ts)) ≡ distinct (leaves_of (shapes (drop i ts))) →
    distinct (leaves (shape (get_or ts i d))) ≡ true →
    have_common_tag (leaves (shape (get_or ts i d))) (leaves_of (shapes (take (length ts - (i + 1)) (drop (i + 1) ts)))) ≡ false →
    distinct (leaves_of (shapes ts)) ≡ distinct (leaves_of (shapes (drop (i + 1) ts)))
distinct_more ts i d lt e h apart =
    let r = distinct_rest ts i d lt in
    let k : have_common_tag (leaves (shape (get_or ts i d))) (leaves_of (shapes (drop (i + 1) ts))) ≡ false = rw (take_rest ts (i + 1)) at apart in
    grind (arith, common_steps)

-- the leaves of one tree alone
pub leaves_of-one : (t : TagTree) → leaves_of (shapes (t ∷ [])) ≡ leaves (shape t)
leaves_of-one t = append-nil (leaves (shape t))

-- no trees
pub is_nothing-shapes : (ts : List TagTree) → is_nothing (shapes ts) ≡ (length ts == 0)
is_nothing-shapes [] = refl
is_nothing-shapes (t ∷ ts) = grind (arith, nat_tests)

is_any_open-append : (ts us : List TagTree) → is_any_open (shapes (ts ++ us)) ≡ (is_any_open (shapes ts) || is_any_open (shapes us))
is_any_open-append [] us = refl
is_any_open-append (t ∷ ts) us =
    ap (λ b. is_open (shape t) || b) (is_any_open-append ts us) ∙ or_assoc (is_open (shape t)) (is_any_open (shapes ts)) (is_any_open (shapes us))
  where
    or_assoc : (a b c : Bool) → (a || (b || c)) ≡ ((a || b) || c)
    or_assoc true b c = refl
    or_assoc false b c = refl

-- a walk that looks for a choice of nothing
pub is_any_open_more : (ts : List TagTree) (i : ℕ) (d : TagTree) → i < length ts →
    is_any_open (shapes (take (i + 1) ts)) ≡ (is_any_open (shapes (take i ts)) || is_open (shape (get_or ts i d)))
is_any_open_more ts i d lt =
    ap (λ us. is_any_open (shapes us)) (take_more ts i d lt)
    ∙ (is_any_open-append (take i ts) (get_or ts i d ∷ []) ∙ ap (λ b. is_any_open (shapes (take i ts)) || b) (or_false (is_open (shape (get_or ts i d)))))
  where
    or_false : (b : Bool) → (b || false) ≡ b
    or_false true = refl
    or_false false = refl

-- a tree that has one settles it
pub is_any_open_at : (ts : List TagTree) (i : ℕ) (d : TagTree) → i < length ts → is_open (shape (get_or ts i d)) ≡ true → is_any_open (shapes ts) ≡ true
is_any_open_at ts i d lt h =
    let e1 = ap (λ us. is_any_open (shapes us)) (sym (take-append-drop i ts)) in
    let e2 = is_any_open-append (take i ts) (drop i ts) in
    let e3 = ap (λ us. is_any_open (shapes us)) (drop_more ts i d lt) in
    grind (arith, common_steps)

first_false : (a b : Bool) → (a || b) ≡ false → a ≡ false
first_false false b h = refl
first_false true b h = h

second_false : (a b : Bool) → (a || b) ≡ false → b ≡ false
second_false false b h = h
second_false true b h = cc

mutual
  -- a tree without a choice of nothing in it has a leaf
  pub leaf_of : (t : Tree) → is_open t ≡ false → (tag : Tag) × Contains (leaves t) tag
  leaf_of (leaf t) shut = (t, (0, omega arith, refl))
  leaf_of (choice ts) shut = leaf_of_some ts (first_false (is_nothing ts) (is_any_open ts) shut) (second_false (is_nothing ts) (is_any_open ts) shut)

  leaf_of_some : (ts : Trees) → is_nothing ts ≡ false → is_any_open ts ≡ false → (tag : Tag) × Contains (leaves_of ts) tag
  leaf_of_some none some shut = absurd (false≢true (sym some))
  leaf_of_some (more t ts) some shut =
      let first = leaf_of t (first_false (is_open t) (is_any_open ts) shut) in
      (first.0, Contains-append_left (leaves t) (leaves_of ts) first.0 first.1)

-- a walk that keeps each leaf
pub flat_more : (ts : List TagTree) (i : ℕ) (d : TagTree) (xs : List Tag) → i < length ts →
    xs ++ leaves_of (shapes (take (i + 1) ts)) ≡ (xs ++ leaves_of (shapes (take i ts))) ++ leaves (shape (get_or ts i d))
flat_more ts i d xs lt =
    ap (λ ls. xs ++ ls) (leaves_of-take ts i d lt) ∙ sym (append_assoc xs (leaves_of (shapes (take i ts))) (leaves (shape (get_or ts i d))))

pub ruleset flat_steps = (flat_more, append-nil)

-- one tree as several
pub ruleset alone = (leaves_of-one)

or_swap : (a b c d : Bool) → ((a || b) || (c || d)) ≡ ((a || c) || (b || d))
or_swap true b c d = refl
or_swap false true true d = refl
or_swap false true false d = refl
or_swap false false c d = refl

-- a walk that looks for a tree that can begin with a tag
pub begins_more : (t : Tag) (ts : List TagTree) (i : ℕ) (d : TagTree) → i < length ts →
    any_begins_with t (shapes (take (i + 1) ts)) ≡ (any_begins_with t (shapes (take i ts)) || begins_with t (shape (get_or ts i d)))
begins_more t ts i d lt =
    ap (λ b. b || has t (leaves_of (shapes (take (i + 1) ts)))) (is_any_open_more ts i d lt)
    ∙ ap (λ b. (is_any_open (shapes (take i ts)) || is_open (shape (get_or ts i d))) || b) (has_more t ts i d lt)
    ∙ or_swap (is_any_open (shapes (take i ts))) (is_open (shape (get_or ts i d))) (has t (leaves_of (shapes (take i ts)))) (has t (leaves (shape (get_or ts i d))))

-- a tree that can settles it
pub begins_at : (t : Tag) (ts : List TagTree) (i : ℕ) (d : TagTree) → i < length ts → begins_with t (shape (get_or ts i d)) ≡ true → any_begins_with t (shapes ts) ≡ true
begins_at t ts i d lt h = by (is_open (shape (get_or ts i d))) refl h
  where
    or_true : (b : Bool) → (b || true) ≡ true
    or_true true = refl
    or_true false = refl

    by : (b : Bool) → is_open (shape (get_or ts i d)) ≡ b → (b || has t (leaves (shape (get_or ts i d)))) ≡ true → any_begins_with t (shapes ts) ≡ true
    by true e h = ap (λ b. b || has t (leaves_of (shapes ts))) (is_any_open_at ts i d lt e)
    by false e h = ap (λ b. is_any_open (shapes ts) || b) (has_at t ts i d lt h) ∙ or_true (is_any_open (shapes ts))

-- steps of the walk that looks for a tree that can begin with a tag
pub ruleset beginnings = (shape-Leaf, shape-Choice, is_nothing-shapes, begins_more, begins_at)

-- steps of the walk that looks for a choice of nothing
pub ruleset openings = (shape-Leaf, shape-Choice, is_nothing-shapes, is_any_open_more, is_any_open_at)

-- the shape of a tree, by its cases
pub ruleset tree_shapes = (shape-Leaf, shape-Choice)

-- steps of walks that look and count
pub ruleset walks = (shape-Leaf, shape-Choice, has_more, has_at, count_more, count_upto, meet_more, meet_at)

-- steps of the walk that looks for a tag that occurs twice
pub ruleset repeats = (shape-Leaf, shape-Choice, distinct_stop, distinct_clash, distinct_more)
