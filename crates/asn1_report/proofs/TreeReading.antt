-- The steps by which a tree is read, and the trees of a choice one after another.
use Rattle.std.proofs.Common.{◌≡◌, ℕ, suc, ◌+◌, ◌-◌, ◌≤◌, false, List, [], ◌∷◌, ◌++◌, length, get_or, take, drop, Result, Ok, Err, Option, Some, None, refl, sym, ap, ◌∙◌, subst, append_assoc, arith}
use Rattle.std.specs.Prelude.{All, IfOk, MatchOption}
use Rattle.std.specs.Fmt.{decimal}
use Rattle.std.proofs.lemmas.List.{append-nil, take_all}
use Rattle.std.proofs.lemmas.List.Elements.{All-nil, All-append, All-head}
use Rattle.asn1_tags.specs.declared.tags.Tag.{Tag}
use Rattle.asn1_tags.specs.Trees.{Tree, Trees, leaf, choice, none, more, leaves, leaves_of, is_nothing}
use Rattle.asn1_clash.specs.declared.flat_tree.FlatTree.{FlatTree}
use Rattle.asn1_report.specs.NamesAndNumbers.{begins_with_digit, BeginsWithNumber}
use Rattle.asn1_report.specs.Spelling.{letter_of, spelling, spelling_of, spelling_after, brackets, brackets_of, BeginsWithTree, BeginsWithTrees, ReadsTree, ReadsChoice}
use Rattle.asn1_report.proofs.Beginnings.{follows_in_choice, not_false, one_tree_begins, tag_no_bracket}
use Rattle.asn1_report.proofs.Respellings.{HasSmallNumber, small_front, small_back}
use Rattle.asn1_report.proofs.TreeLemmas.{AddsAll, adds_nothing, adds_one, adds_choice, join, leaves_of-join}

-- a text begins with no tree
abbrev pub BeginsWithNoTree : ℕ → List ℕ → Type 0
BeginsWithNoTree depth text = (tree : Tree) (rest : List ℕ) → ¬ BeginsWithTree depth text tree rest

-- nor with the trees of a choice and the bracket that closes it
abbrev pub BeginsWithNoTrees : ℕ → List ℕ → Type 0
BeginsWithNoTrees depth text = (trees : Trees) (rest : List ℕ) → ¬ BeginsWithTrees depth text trees rest

-- a text that has a first byte is that byte and the others
pub first_byte : (text : List ℕ) (byte : ℕ) → 1 ≤ length text → get_or text 0 0 ≡ byte → text ≡ byte ∷ take (length text - 1) (drop 1 text)
first_byte [] byte some first = absurd (omega arith)
first_byte (other ∷ bytes) byte some first = λ i. first i ∷ sym (take_all (suc (length bytes) - 1) bytes (omega arith)) i

-- where no number follows the letter, there is no tag
pub no_tag_without_number : (text digits : List ℕ) (letter : ℕ) → text ≡ letter ∷ digits → ((number : ℕ) (left : List ℕ) → ¬ BeginsWithNumber digits number left) →
    (tag : Tag) (left : List ℕ) → ¬ BeginsWithTree 0 text (leaf tag) left
no_tag_without_number text digits letter parts no_number tag left begins =
    let spelled : letter ∷ digits ≡ letter_of tag.class ∷ (decimal tag.value ++ left) = sym parts ∙ begins.spelled in
    no_number tag.value left (record {
      spelled = cc;
      small = All-head HasSmallNumber tag [] begins.small;
      whole = not_false (begins_with_digit left) begins.whole;
    })

-- a tree that begins with a bracket is a choice, whose trees follow
choice_begins : {depth : ℕ} {inside rest : List ℕ} {trees : Trees} → BeginsWithTree (depth + 1) (40 ∷ inside) (choice trees) rest → BeginsWithTrees depth inside trees rest
choice_begins {depth} {inside} {rest} {trees} begins =
    let spelled : 40 ∷ inside ≡ 40 ∷ ((spelling_of trees ++ 41 ∷ []) ++ rest) = begins.spelled in
    let bytes : inside ≡ (spelling_of trees ++ 41 ∷ []) ++ rest = cc in
    record {
      spelled = bytes ∙ append_assoc (spelling_of trees) (41 ∷ []) rest;
      shallow = omega (arith, begins.shallow);
      small = begins.small;
    }

begins_with_choice : {depth : ℕ} {inside rest : List ℕ} {trees : Trees} → BeginsWithTrees depth inside trees rest → BeginsWithTree (depth + 1) (40 ∷ inside) (choice trees) rest
begins_with_choice {depth} {inside} {rest} {trees} begins = record {
  spelled = ap (λ text. 40 ∷ text) (begins.spelled ∙ sym (append_assoc (spelling_of trees) (41 ∷ []) rest));
  shallow = omega (arith, begins.shallow);
  small = begins.small;
  whole = refl;
}

no_choice : (depth : ℕ) (inside : List ℕ) → BeginsWithNoTrees depth inside → BeginsWithNoTree (depth + 1) (40 ∷ inside)
no_choice depth inside no_trees (leaf tag) rest begins = tag_no_bracket tag.class 40 (decimal tag.value ++ rest) inside (omega arith) (sym begins.spelled)
no_choice depth inside no_trees (choice trees) rest begins = no_trees trees rest (choice_begins begins)

-- what is read of the trees of a choice is read of the choice
pub choice_read : {A E : Type 0} (r : Result (Option A) E) (now : A → List ℕ) (depth less : ℕ) (text inside : List ℕ) (old new : FlatTree) →
    depth ≡ less + 1 → text ≡ 40 ∷ inside →
    IfOk r (λ left. MatchOption left (BeginsWithNoTrees less inside) (λ left. ReadsChoice less inside (now left) old new)) →
    IfOk r (λ left. MatchOption left (BeginsWithNoTree depth text) (λ left. ReadsTree depth text (now left) old new))
choice_read (Err e) now depth less text inside old new deep opens said = tt
choice_read (Ok None) now depth less text inside old new deep opens said =
    subst (λ d. BeginsWithNoTree d text) (sym deep) (subst (BeginsWithNoTree (less + 1)) (sym opens) (no_choice less inside said))
choice_read (Ok (Some left)) now depth less text inside old new deep opens said =
    let begins = begins_with_choice said.begins in
    record {
      tree = choice said.trees;
      begins = record { spelled = opens ∙ begins.spelled; shallow = omega (arith, begins.shallow); small = begins.small; whole = refl };
      added = said.added;
    }

-- where no bracket may be open, a text that begins with one begins with no tree
pub too_deep : (depth : ℕ) (text inside : List ℕ) → depth ≡ 0 → text ≡ 40 ∷ inside → BeginsWithNoTree depth text
too_deep depth text inside is_zero opens (leaf tag) rest begins =
    tag_no_bracket tag.class 40 (decimal tag.value ++ rest) inside (omega arith) (sym begins.spelled ∙ opens)
too_deep depth text inside is_zero opens (choice trees) rest begins = absurd (omega (arith, begins.shallow))

-- the texts of trees, with a space after each
abbrev spelling_before : Trees → List ℕ
spelling_before none = []
spelling_before (more tree trees) = spelling tree ++ 32 ∷ spelling_before trees

after_space : (ts : Trees) (t : Tree) → 32 ∷ spelling_of (join ts (more t none)) ≡ spelling_after (join ts (more t none))
after_space none t = refl
after_space (more s ts) t = refl

spelled_before_last : (ts : Trees) (t : Tree) → spelling_before ts ++ spelling t ≡ spelling_of (join ts (more t none))
spelled_before_last none t = sym (append-nil (spelling t))
spelled_before_last (more s ts) t =
    append_assoc (spelling s) (32 ∷ spelling_before ts) (spelling t)
    ∙ ap (λ text. spelling s ++ text) (ap (λ text. 32 ∷ text) (spelled_before_last ts t) ∙ after_space ts t)

spelling_before-join : (ts : Trees) (t : Tree) → spelling_before (join ts (more t none)) ≡ spelling_before ts ++ (spelling t ++ 32 ∷ [])
spelling_before-join none t = refl
spelling_before-join (more s ts) t =
    ap (λ text. spelling s ++ 32 ∷ text) (spelling_before-join ts t)
    ∙ sym (append_assoc (spelling s) (32 ∷ spelling_before ts) (spelling t ++ 32 ∷ []))

brackets_of-join : (depth : ℕ) (ts : Trees) (t : Tree) → brackets_of ts ≤ depth → brackets t ≤ depth → brackets_of (join ts (more t none)) ≤ depth
brackets_of-join depth none t few deep = omega arith
brackets_of-join depth (more s ts) t few deep = let rest = brackets_of-join depth ts t (omega arith) deep in omega arith

small-join : (ts : Trees) (t : Tree) → All HasSmallNumber (leaves_of ts) → All HasSmallNumber (leaves t) → All HasSmallNumber (leaves_of (join ts (more t none)))
small-join ts t front last =
    subst (All HasSmallNumber) (ap (λ back. leaves_of ts ++ back) (sym (append-nil (leaves t))) ∙ sym (leaves_of-join ts (more t none)))
    (All-append HasSmallNumber (leaves_of ts) (leaves t) front last)

-- a text goes on with one tree or more of a choice, and the bracket that closes it
record GoesOn (depth : ℕ) (text left : List ℕ) : Type 0 where
  first : Tree
  others : Trees
  begins : BeginsWithTrees depth text (more first others) left

-- Trees of a choice were read and added, and the space after each; this is left. There is no other way to begin.
pub record TreesReadSoFar (depth : ℕ) (inside text : List ℕ) (old new : FlatTree) : Type 0 where
  trees : Trees
  stand : AddsAll old new trees
  spelled : inside ≡ spelling_before trees ++ text
  shallow : brackets_of trees ≤ depth
  small : All HasSmallNumber (leaves_of trees)
  only : (all : Trees) (left : List ℕ) → BeginsWithTrees depth inside all left → GoesOn depth text left

pub read_nothing : (depth : ℕ) (inside : List ℕ) (kept : FlatTree) → ((left : List ℕ) → inside ≡ 41 ∷ left → ⊥) → TreesReadSoFar depth inside inside kept kept
read_nothing depth inside kept not_closed = record {
  trees = none;
  stand = adds_nothing kept;
  spelled = refl;
  shallow = omega arith;
  small = All-nil HasSmallNumber;
  only = some;
}
  where
    some : (all : Trees) (left : List ℕ) → BeginsWithTrees depth inside all left → GoesOn depth inside left
    some none left begins = absurd (not_closed left begins.spelled)
    some (more first others) left begins = record { first = first; others = others; begins = begins }

-- the first of some trees
first_begins : {depth : ℕ} {text left : List ℕ} {t : Tree} {us : Trees} → BeginsWithTrees depth text (more t us) left → BeginsWithTree depth text t (spelling_after us ++ 41 ∷ left)
first_begins {depth} {text} {left} {t} {us} begins = record {
  spelled = begins.spelled ∙ append_assoc (spelling t) (spelling_after us) (41 ∷ left);
  shallow = omega (arith, begins.shallow);
  small = small_front (leaves t) (leaves_of us) begins.small;
  whole = follows_in_choice t us left;
}

-- after the first of some trees and a space the others follow
others_begin : (depth : ℕ) (next left : List ℕ) (us : Trees) → brackets_of us ≤ depth → All HasSmallNumber (leaves_of us) →
    spelling_after us ++ 41 ∷ left ≡ 32 ∷ next → GoesOn depth next left
others_begin depth next left none shallow small same = let first : ◌≡◌ {A = ℕ} 41 32 = cc in absurd (omega arith)
others_begin depth next left (more first others) shallow small same =
    let bytes : (spelling first ++ spelling_after others) ++ 41 ∷ left ≡ next = cc in
    record { first = first; others = others; begins = record { spelled = sym bytes; shallow = shallow; small = small } }

-- one more tree, and the space after it
pub read_one : (depth : ℕ) (inside text left next : List ℕ) (old mid new : FlatTree) →
    TreesReadSoFar depth inside text old mid → left ≡ 32 ∷ next → ReadsTree depth text left mid new → TreesReadSoFar depth inside next old new
read_one depth inside text left next old mid new before space one = record {
  trees = join before.trees (more one.tree none);
  stand = adds_one old mid new before.trees one.tree before.stand one.added;
  spelled =
      before.spelled
      ∙ (ap (λ back. spelling_before before.trees ++ back) (one.begins.spelled ∙ (ap (λ back. spelling one.tree ++ back) space ∙ sym (append_assoc (spelling one.tree) (32 ∷ []) next)))
      ∙ (sym (append_assoc (spelling_before before.trees) (spelling one.tree ++ 32 ∷ []) next)
      ∙ ap (λ front. front ++ next) (sym (spelling_before-join before.trees one.tree))));
  shallow = brackets_of-join depth before.trees one.tree before.shallow one.begins.shallow;
  small = small-join before.trees one.tree before.small one.begins.small;
  only = λ all rest begins. go_on rest (before.only all rest begins);
}
  where
    go_on : (rest : List ℕ) → GoesOn depth text rest → GoesOn depth next rest
    go_on rest goes =
        let same = one_tree_begins (first_begins goes.begins) one.begins in
        others_begin depth next rest goes.others (omega (arith, goes.begins.shallow))
        (small_back (leaves goes.first) (leaves_of goes.others) goes.begins.small) (same.1 ∙ space)

some_joined : (ts : Trees) (t : Tree) → is_nothing (join ts (more t none)) ≡ false
some_joined none t = refl
some_joined (more s ts) t = refl

-- the last tree, and the bracket after it
pub read_last : (depth : ℕ) (inside text left rest : List ℕ) (old mid new : FlatTree) →
    TreesReadSoFar depth inside text old mid → left ≡ 41 ∷ rest → ReadsTree depth text left mid new → ReadsChoice depth inside rest old new
read_last depth inside text left rest old mid new before bracket one = record {
  trees = join before.trees (more one.tree none);
  begins = record {
    spelled =
        before.spelled
        ∙ (ap (λ back. spelling_before before.trees ++ back) (one.begins.spelled ∙ ap (λ back. spelling one.tree ++ back) bracket)
        ∙ (sym (append_assoc (spelling_before before.trees) (spelling one.tree) (41 ∷ rest))
        ∙ ap (λ front. front ++ 41 ∷ rest) (spelled_before_last before.trees one.tree)));
    shallow = brackets_of-join depth before.trees one.tree before.shallow one.begins.shallow;
    small = small-join before.trees one.tree before.small one.begins.small;
  };
  added =
      adds_choice old new (join before.trees (more one.tree none)) (adds_one old mid new before.trees one.tree before.stand one.added)
      (some_joined before.trees one.tree);
}

-- no tree follows
pub read_no_tree : (depth : ℕ) (inside text : List ℕ) (old mid : FlatTree) → TreesReadSoFar depth inside text old mid → BeginsWithNoTree depth text →
    BeginsWithNoTrees depth inside
read_no_tree depth inside text old mid before no_tree trees rest begins =
    let goes = before.only trees rest begins in
    no_tree goes.first (spelling_after goes.others ++ 41 ∷ rest) (first_begins goes.begins)

-- a tree follows, and after it neither a space nor a bracket
pub read_no_end : (depth : ℕ) (inside text left : List ℕ) (old mid new : FlatTree) → TreesReadSoFar depth inside text old mid → ReadsTree depth text left mid new →
    ((next : List ℕ) → left ≡ 32 ∷ next → ⊥) → ((next : List ℕ) → left ≡ 41 ∷ next → ⊥) → BeginsWithNoTrees depth inside
read_no_end depth inside text left old mid new before one no_space no_bracket trees rest begins =
    let goes = before.only trees rest begins in
    let same = one_tree_begins one.begins (first_begins goes.begins) in
    by_others goes.others same.1
  where
    by_others : (others : Trees) → left ≡ spelling_after others ++ 41 ∷ rest → ⊥
    by_others none same = no_bracket rest same
    by_others (more t ts) same = no_space ((spelling t ++ spelling_after ts) ++ 41 ∷ rest) same
