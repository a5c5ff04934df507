-- A text that is read as a tree is the text of that tree.
use Rattle.std.proofs.Common.{◌≡◌, ℕ, zero, suc, ◌+◌, ◌-◌, ◌<◌, Bool, true, false, cond, ◌&&◌, ◌==◌, List, [], ◌∷◌, ◌++◌, length, get_or, take, Option, Some, None, option_map, option_and_then, refl, sym, ap, ◌∙◌, arith}
use Rattle.std.specs.List.{onto_first}
use Rattle.std.specs.Option.{option_map_or}
use Rattle.std.specs.Fmt.{decimal}
use Rattle.std.specs.Io.BufRead.{ends_with_byte}
use Rattle.std.proofs.lemmas.Bool.{eqb-true}
use Rattle.std.proofs.lemmas.Grind.{common_steps}
use Rattle.std.proofs.lemmas.Bool.Decides.{nat_tests}
use Rattle.std.proofs.lemmas.List.{take_all, take_more}
use Rattle.std.proofs.lemmas.Option.{same_Some}
use Rattle.asn1_tags.specs.declared.classes.Class.{Class}
use Rattle.asn1_tags.specs.declared.classes.Class.TheVariants.{Universal, Application, Context, Private}
use Rattle.asn1_tags.specs.declared.tags.Tag.{Tag}
use Rattle.asn1_tags.specs.Trees.{Tree, Trees, leaf, choice, none, more}
use Rattle.asn1_report.specs.NamesAndNumbers.{number_of}
use Rattle.asn1_report.specs.Elements.{depth_after, elements_at, elements_of}
use Rattle.asn1_report.specs.Grammar.{class_of, tag_of, between_brackets, all_trees, tree_of}
use Rattle.asn1_report.proofs.Numbers.{number_decimal}
use Rattle.asn1_report.proofs.Elements.{IsNonempty, nonempty-elements_at}
use Rattle.asn1_report.proofs.TreeLemmas.{no_tree_less}
use Rattle.asn1_report.specs.Spelling.{letter_of, spelling, spelling_of, spelling_after}

-- texts with a space between each two
abbrev joined_after : List (List ℕ) → List ℕ
joined_after [] = []
joined_after (text ∷ texts) = 32 ∷ (text ++ joined_after texts)

abbrev joined : List (List ℕ) → List ℕ
joined [] = []
joined (text ∷ texts) = text ++ joined_after texts

joined-onto_first : (byte : ℕ) (texts : List (List ℕ)) → joined (onto_first byte texts) ≡ byte ∷ joined texts
joined-onto_first byte [] = refl
joined-onto_first byte (text ∷ texts) = refl

joined-cons : (texts : List (List ℕ)) → IsNonempty texts → joined_after texts ≡ 32 ∷ joined texts
joined-cons [] some = absurd some
joined-cons (text ∷ texts) some = refl

-- the elements of a text give it back
joined-elements_at : (depth : ℕ) (text : List ℕ) → joined (elements_at depth text) ≡ text
joined-elements_at depth [] = refl
joined-elements_at depth (byte ∷ bytes) = by_test (byte == 32) refl (depth == 0) (joined-elements_at 0 bytes) (joined-elements_at (depth_after depth byte) bytes)
  where
    by_test : (space : Bool) → (byte == 32) ≡ space → (b : Bool) → joined (elements_at 0 bytes) ≡ bytes → joined (elements_at (depth_after depth byte) bytes) ≡ bytes →
        joined (cond (b && (byte == 32)) ([] ∷ elements_at 0 bytes) (onto_first byte (elements_at (depth_after depth byte) bytes))) ≡ byte ∷ bytes
    by_test true is true anew on =
        ap (λ t. joined (cond t ([] ∷ elements_at 0 bytes) (onto_first byte (elements_at (depth_after depth byte) bytes)))) is
        ∙ (joined-cons (elements_at 0 bytes) (nonempty-elements_at 0 bytes) ∙ (ap (λ t. 32 ∷ t) anew ∙ ap (λ x. x ∷ bytes) (sym (eqb-true byte 32 is))))
    by_test false is true anew on =
        ap (λ t. joined (cond t ([] ∷ elements_at 0 bytes) (onto_first byte (elements_at (depth_after depth byte) bytes)))) is
        ∙ (joined-onto_first byte (elements_at (depth_after depth byte) bytes) ∙ ap (λ t. byte ∷ t) on)
    by_test space is false anew on = joined-onto_first byte (elements_at (depth_after depth byte) bytes) ∙ ap (λ t. byte ∷ t) on

-- a letter that names a class is its letter
class_letter : (letter : ℕ) (class : Class) → class_of letter ≡ Some class → letter ≡ letter_of class
class_letter letter class h = by_tests (letter == 85) (letter == 65) (letter == 67) (letter == 80) refl refl refl refl h
  where
    by_tests : (u a c p : Bool) → (letter == 85) ≡ u → (letter == 65) ≡ a → (letter == 67) ≡ c → (letter == 80) ≡ p →
        cond u (Some Universal) (cond a (Some Application) (cond c (Some Context) (cond p (Some Private) None))) ≡ Some class → letter ≡ letter_of class
    by_tests true a c p is _ _ _ same = let e : Universal ≡ class = cc in eqb-true letter 85 is ∙ ap letter_of e
    by_tests false true c p _ is _ _ same = let e : Application ≡ class = cc in eqb-true letter 65 is ∙ ap letter_of e
    by_tests false false true p _ _ is _ same = let e : Context ≡ class = cc in eqb-true letter 67 is ∙ ap letter_of e
    by_tests false false false true _ _ _ is same = let e : Private ≡ class = cc in eqb-true letter 80 is ∙ ap letter_of e
    by_tests false false false false _ _ _ _ same = cc

tag_spelled : (text : List ℕ) (tag : Tag) → tag_of text ≡ Some tag → text ≡ letter_of tag.class ∷ decimal tag.value
tag_spelled [] tag h = cc
tag_spelled (letter ∷ digits) tag h = with_class (class_of letter) refl h
  where
    with_number : (class : Class) (r : Option ℕ) → class_of letter ≡ Some class → number_of digits ≡ r →
        option_map (λ value. record { class = class; value = value }) r ≡ Some tag → letter ∷ digits ≡ letter_of tag.class ∷ decimal tag.value
    with_number class None named missing whole = cc
    with_number class (Some n) named some whole =
        let e : Some (record { class = class; value = n }) ≡ Some tag = whole in
        let same = same_Some _ _ e in
        (λ i. class_letter letter class named i ∷ number_decimal digits n some i) ∙ ap (λ t. letter_of t.class ∷ decimal t.value) same

    with_class : (r : Option Class) → class_of letter ≡ r →
        option_and_then (λ class. option_map (λ value. record { class = class; value = value }) (number_of digits)) r ≡ Some tag →
        letter ∷ digits ≡ letter_of tag.class ∷ decimal tag.value
    with_class None unnamed whole = cc
    with_class (Some class) named whole = with_number class (number_of digits) named refl whole

-- the last byte of a text is after the others
last_byte : (byte : ℕ) (bytes : List ℕ) → ends_with_byte byte bytes ≡ true → bytes ≡ take (length bytes - 1) bytes ++ byte ∷ []
last_byte byte bytes h =
    let k = length bytes - 1 in
    let some : 0 < length bytes = grind (arith, common_steps, nat_tests) in
    let at : get_or bytes k 0 ≡ byte = grind (arith, common_steps, nat_tests) in
    let whole : take (k + 1) bytes ≡ bytes = take_all (k + 1) bytes (omega arith) in
    sym whole ∙ (take_more bytes k 0 (omega arith) ∙ ap (λ b. take k bytes ++ b ∷ []) at)

brackets_spelled : (text inside : List ℕ) → between_brackets text ≡ Some inside → text ≡ 40 ∷ (inside ++ 41 ∷ [])
brackets_spelled [] inside h = cc
brackets_spelled (byte ∷ bytes) inside h = by_tests (byte == 40) (ends_with_byte 41 bytes) refl refl h
  where
    by_tests : (p q : Bool) → (byte == 40) ≡ p → ends_with_byte 41 bytes ≡ q →
        cond (p && q) (Some (take (length bytes - 1) bytes)) None ≡ Some inside → byte ∷ bytes ≡ 40 ∷ (inside ++ 41 ∷ [])
    by_tests true true opens closes is =
        let same = same_Some _ _ is in
        (λ i. eqb-true byte 40 opens i ∷ last_byte 41 bytes closes i) ∙ ap (λ front. 40 ∷ (front ++ 41 ∷ [])) same
    by_tests true false opens closes is = cc
    by_tests false q opens closes is = cc

-- each tree that the function finds is written as its text
abbrev FindsSpelled : (List ℕ → Option Tree) → Type 0
FindsSpelled tree_in = (text : List ℕ) (tree : Tree) → tree_in text ≡ Some tree → text ≡ spelling tree

after_spelled : (tree_in : List ℕ → Option Tree) → FindsSpelled tree_in → (texts : List (List ℕ)) (trees : Trees) → all_trees tree_in texts ≡ Some trees →
    joined_after texts ≡ spelling_after trees
after_spelled tree_in spelled [] trees is = ap spelling_after (same_Some _ _ is)
after_spelled tree_in spelled (text ∷ texts) trees is =
    with_tree (λ ts found. after_spelled tree_in spelled texts ts found) (tree_in text) refl is
  where
    with_rest : ((ts : Trees) → all_trees tree_in texts ≡ Some ts → joined_after texts ≡ spelling_after ts) →
        (tree : Tree) (r : Option Trees) → all_trees tree_in texts ≡ r → tree_in text ≡ Some tree → option_map (more tree) r ≡ Some trees →
        32 ∷ (text ++ joined_after texts) ≡ spelling_after trees
    with_rest others tree None rest first whole = cc
    with_rest others tree (Some ts) rest first whole =
        (λ i. 32 ∷ (spelled text tree first i ++ others ts rest i)) ∙ ap spelling_after (same_Some _ _ whole)

    with_tree : ((ts : Trees) → all_trees tree_in texts ≡ Some ts → joined_after texts ≡ spelling_after ts) →
        (r : Option Tree) → tree_in text ≡ r → option_and_then (λ tree. option_map (more tree) (all_trees tree_in texts)) r ≡ Some trees →
        32 ∷ (text ++ joined_after texts) ≡ spelling_after trees
    with_tree others None found whole = cc
    with_tree others (Some tree) found whole = with_rest others tree (all_trees tree_in texts) refl found whole

-- without its first byte, the space
without_space : (xs ys : List ℕ) → 32 ∷ xs ≡ 32 ∷ ys → xs ≡ ys
without_space xs ys h = cc

trees_spelled : (tree_in : List ℕ → Option Tree) → FindsSpelled tree_in → (texts : List (List ℕ)) (trees : Trees) → all_trees tree_in texts ≡ Some trees →
    joined texts ≡ spelling_of trees
trees_spelled tree_in spelled [] trees is = ap spelling_of (same_Some _ _ is)
trees_spelled tree_in spelled (text ∷ texts) none is = absurd (no_tree_less (tree_in text) (all_trees tree_in texts) is)
trees_spelled tree_in spelled (text ∷ texts) (more t ts) is =
    without_space _ _ (after_spelled tree_in spelled (text ∷ texts) (more t ts) is)

elements_joined : (inside : List ℕ) → joined (elements_of inside) ≡ inside
elements_joined [] = refl
elements_joined (byte ∷ bytes) = joined-elements_at 0 (byte ∷ bytes)

leaf_spelled : (text : List ℕ) (tree : Tree) → option_map leaf (tag_of text) ≡ Some tree → text ≡ spelling tree
leaf_spelled text tree is = with_tag (tag_of text) refl is
  where
    with_tag : (r : Option Tag) → tag_of text ≡ r → option_map leaf r ≡ Some tree → text ≡ spelling tree
    with_tag None found whole = cc
    with_tag (Some tag) found whole = tag_spelled text tag found ∙ ap spelling (same_Some _ _ whole)

-- what is read as a tree is its text
pub tree_spelled : (depth : ℕ) → FindsSpelled (tree_of depth)
unfolding tree_of
tree_spelled zero text tree is = leaf_spelled text tree is
tree_spelled (suc depth) text tree is = with_inside (tree_spelled depth) (between_brackets text) refl is
  where
    with_trees : FindsSpelled (tree_of depth) → (inside : List ℕ) (r : Option Trees) → between_brackets text ≡ Some inside →
        all_trees (tree_of depth) (elements_of inside) ≡ r → option_map choice r ≡ Some tree → text ≡ spelling tree
    with_trees spelled inside None has found whole = cc
    with_trees spelled inside (Some ts) has found whole =
        brackets_spelled text inside has
        ∙ (ap (λ bytes. 40 ∷ (bytes ++ 41 ∷ [])) (sym (elements_joined inside) ∙ trees_spelled (tree_of depth) spelled (elements_of inside) ts found)
        ∙ ap spelling (same_Some _ _ whole))

    with_inside : FindsSpelled (tree_of depth) → (r : Option (List ℕ)) → between_brackets text ≡ r →
        option_map_or (λ inside. option_map choice (all_trees (tree_of depth) (elements_of inside))) r (option_map leaf (tag_of text)) ≡ Some tree →
        text ≡ spelling tree
    with_inside spelled None has whole = leaf_spelled text tree whole
    with_inside spelled (Some inside) has whole = with_trees spelled inside (all_trees (tree_of depth) (elements_of inside)) has refl whole
