-- A text is a tree if and only if it begins with that tree and nothing is left.
use Rattle.std.proofs.Common.{◌≡◌, ℕ, Bool, true, false, ◌==◌, List, [], ◌∷◌, length, Option, Some, None, refl, sym, ap, subst, ◌∙◌, arith}
use Rattle.std.specs.Prelude.{IsSomeAnd, MatchBool}
use Rattle.std.proofs.lemmas.List.{append-nil}
use Rattle.std.proofs.lemmas.Bool.{eqb-true, false≢true}
use Rattle.asn1_tags.specs.Trees.{Tree}
use Rattle.asn1_clash.specs.Views.{Adds}
use Rattle.asn1_clash.specs.declared.flat_tree.FlatTree.{FlatTree}
use Rattle.asn1_report.specs.Grammar.{tree_of}
use Rattle.asn1_report.specs.Spelling.{spelling, BeginsWithTree, ReadsTree}
use Rattle.asn1_report.proofs.Beginnings.{one_tree_begins, nothing_may_follow}
use Rattle.asn1_report.proofs.TreeReading.{BeginsWithNoTree}
use Rattle.asn1_report.proofs.Respellings.{tree_fits, tree_respelled}
use Rattle.asn1_report.proofs.Spellings.{tree_spelled}

-- a text that begins with a tree, and goes on with nothing, is that tree
tree_from_whole : (depth : ℕ) (text : List ℕ) (tree : Tree) → BeginsWithTree depth text tree [] → tree_of depth text ≡ Some tree
tree_from_whole depth text tree begins =
    ap (tree_of depth) (begins.spelled ∙ append-nil (spelling tree)) ∙ tree_respelled depth tree begins.shallow begins.small

whole_from_tree : (depth : ℕ) (text : List ℕ) (tree : Tree) → tree_of depth text ≡ Some tree → BeginsWithTree depth text tree []
whole_from_tree depth text tree is =
    let fits = tree_fits depth text tree is in
    record {
      spelled = tree_spelled depth text tree is ∙ sym (append-nil (spelling tree));
      shallow = fits.0;
      small = fits.1;
      whole = nothing_may_follow tree;
    }

-- a text that begins with no tree is none
pub no_tree_of : (depth : ℕ) (text : List ℕ) → BeginsWithNoTree depth text → tree_of depth text ≡ None
no_tree_of depth text no_tree = by_result (tree_of depth text) refl
  where
    by_result : (r : Option Tree) → tree_of depth text ≡ r → r ≡ None
    by_result None is = refl
    by_result (Some tree) is = absurd (no_tree tree [] (whole_from_tree depth text tree is))

-- a text that begins with a tree, and goes on, is none
no_tree_with_more : (depth : ℕ) (text : List ℕ) (tree : Tree) (byte : ℕ) (bytes : List ℕ) → BeginsWithTree depth text tree (byte ∷ bytes) → tree_of depth text ≡ None
no_tree_with_more depth text tree byte bytes begins = by_result (tree_of depth text) refl
  where
    by_result : (r : Option Tree) → tree_of depth text ≡ r → r ≡ None
    by_result None is = refl
    by_result (Some other) is = let same = (one_tree_begins begins (whole_from_tree depth text other is)).1 in cc

-- whether a text is a tree is whether nothing is left after the tree with which it begins
pub whole_read : (b : Bool) (depth : ℕ) (text left : List ℕ) (old new : FlatTree) → b ≡ (length left == 0) → ReadsTree depth text left old new →
    MatchBool b (IsSomeAnd (tree_of depth text) (Adds old new)) (tree_of depth text ≡ None)
whole_read true depth text [] old new is reads =
    let P : Option Tree → Type 0 = λ r. IsSomeAnd r (Adds old new) in
    subst P (sym (tree_from_whole depth text reads.tree reads.begins)) reads.added
whole_read true depth text (byte ∷ bytes) old new is reads = let none_left : ◌≡◌ {A = ℕ} (length (byte ∷ bytes)) 0 = eqb-true (length (byte ∷ bytes)) 0 (sym is) in absurd (omega arith)
whole_read false depth text [] old new is reads = absurd (false≢true is)
whole_read false depth text (byte ∷ bytes) old new is reads = no_tree_with_more depth text reads.tree byte bytes reads.begins
