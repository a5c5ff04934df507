-- Sets of tags, and the tags of trees.
use Rattle.std.specs.Prelude.{◌≡◌, Bool, true, false, ◌||◌, List, ◌++◌, Contains, refl, if◌then◌else◌}
use Rattle.std.proofs.Common.{arith}
use Rattle.std.proofs.lemmas.List.Elements.{Contains-append_left, Contains-append_right}
use Rattle.asn1_tags.specs.declared.tags.Tag.{Tag}
use Rattle.asn1_tags.specs.Trees.{Tree, Trees, choice, more, is_open, is_any_open, leaves, leaves_of}
use Rattle.asn1_model.specs.OneRecord.{only_in}
use Rattle.asn1_model.specs.Tags.{Tags, every, among, only, Has, LiesIn, ShareNone, tree_tags}

pub lies_has : (a b : Tags) → LiesIn a b → (t : Tag) → Has a t → Has b t
lies_has every every h t has = tt
lies_has every (among us) h t has = absurd h
lies_has (among ts) b h t has = h t has

pub lies_itself : (a : Tags) → LiesIn a a
lies_itself every = tt
lies_itself (among ts) = λ t h. h

lies_every : (a : Tags) → LiesIn a every
lies_every every = tt
lies_every (among ts) = λ t h. tt

-- a set that shares no tag with another shares none with its subsets
pub apart_within : (a b c : Tags) → ShareNone a c → LiesIn b c → ShareNone a b
apart_within a b c apart lies = λ t of_a of_b. apart t of_a (lies_has b c lies t of_b)

-- a tag that is the only one of a set
pub only_has : (t : Tag) → Has (only t) t
only_has t = (0, omega arith, refl)

-- of two trees, by whether either is open and by the leaves of both
in_either_left : (a : Tags) (b d : Bool) (us vs : List Tag) → LiesIn a (if b then every else among us) → LiesIn a (if (b || d) then every else among (us ++ vs))
in_either_left a true d us vs h = lies_every a
in_either_left a false true us vs h = lies_every a
in_either_left every false false us vs h = absurd h
in_either_left (among ts) false false us vs h = λ t e. Contains-append_left us vs t (h t e)

in_either_right : (a : Tags) (b d : Bool) (us vs : List Tag) → LiesIn a (if d then every else among vs) → LiesIn a (if (b || d) then every else among (us ++ vs))
in_either_right a true d us vs h = lies_every a
in_either_right a false true us vs h = lies_every a
in_either_right every false false us vs h = absurd h
in_either_right (among ts) false false us vs h = λ t e. Contains-append_right us vs t (h t e)

-- the tags of one of several trees are tags of a choice of them
pub in_first_tree : (a : Tags) (t : Tree) (ts : Trees) → LiesIn a (tree_tags t) → LiesIn a (tree_tags (choice (more t ts)))
in_first_tree a t ts h = in_either_left a (is_open t) (is_any_open ts) (leaves t) (leaves_of ts) h

pub in_later_trees : (a : Tags) (t u : Tree) (us : Trees) → LiesIn a (tree_tags (choice (more u us))) → LiesIn a (tree_tags (choice (more t (more u us))))
in_later_trees a t u us h = in_either_right a (is_open t) (is_any_open (more u us)) (leaves t) (leaves_of (more u us)) h

-- the same of one tag
pub has_first : (t : Tree) (ts : Trees) (tag : Tag) → Has (tree_tags t) tag → Has (tree_tags (choice (more t ts))) tag
has_first t ts tag h = in_first_tree (only tag) t ts (only_in (tree_tags t) tag h) tag (only_has tag)

pub has_later : (t u : Tree) (us : Trees) (tag : Tag) → Has (tree_tags (choice (more u us))) tag → Has (tree_tags (choice (more t (more u us)))) tag
has_later t u us tag h = in_later_trees (only tag) t u us (only_in (tree_tags (choice (more u us))) tag h) tag (only_has tag)

-- a leaf of a tree is one of its tags
pub has_leaf : (tree : Tree) (t : Tag) → Contains (leaves tree) t → Has (tree_tags tree) t
has_leaf tree t h = by_open (is_open tree)
  where
    by_open : (b : Bool) → Has (if b then every else among (leaves tree)) t
    by_open true = tt
    by_open false = h

-- and each tag of a tree that is not open is a leaf
pub leaf_has : (tree : Tree) (t : Tag) → is_open tree ≡ false → Has (tree_tags tree) t → Contains (leaves tree) t
leaf_has tree t closed h = by_open (is_open tree) closed h
  where
    by_open : (b : Bool) → b ≡ false → Has (if b then every else among (leaves tree)) t → Contains (leaves tree) t
    by_open true e h = cc
    by_open false e h = h
