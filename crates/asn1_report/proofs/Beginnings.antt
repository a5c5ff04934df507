-- A text begins with at most one tree.
use Rattle.std.proofs.Common.{◌≡◌, ℕ, ◌<◌, ◌^◌, ◌≤◌, Bool, true, false, not, List, [], ◌∷◌, ◌++◌, refl, sym, ap, ◌∙◌, append_assoc, arith}
use Rattle.std.specs.Prelude.{All}
use Rattle.std.specs.Fmt.{decimal}
use Rattle.std.proofs.lemmas.List.{append_cancel_left}
use Rattle.std.proofs.lemmas.List.Elements.{All-head}
use Rattle.std.proofs.lemmas.Option.{same_Some}
use Rattle.asn1_tags.specs.declared.classes.Class.{Class}
use Rattle.asn1_tags.specs.declared.tags.Tag.{Tag}
use Rattle.asn1_tags.specs.Trees.{Tree, Trees, leaf, choice, none, more, leaves, leaves_of}
use Rattle.asn1_report.specs.Grammar.{class_of}
use Rattle.asn1_report.specs.NamesAndNumbers.{begins_with_digit, BeginsWithNumber}
use Rattle.asn1_report.specs.Spelling.{letter_of, spelling, spelling_of, spelling_after, may_follow, BeginsWithTree}
use Rattle.asn1_report.proofs.Numbers.{number-value}
use Rattle.asn1_report.proofs.Respellings.{HasSmallNumber, class_of-letter, letter_above_brackets, small_front, small_back}

number_once : (m n : ℕ) (a b : List ℕ) → m < 2 ^ 32 → n < 2 ^ 32 → begins_with_digit a ≡ false → begins_with_digit b ≡ false →
    decimal m ++ a ≡ decimal n ++ b → (m ≡ n) × (a ≡ b)
number_once m n a b m_small n_small a_other b_other same =
    let first : BeginsWithNumber (decimal m ++ a) m a = record { spelled = refl; small = m_small; whole = a_other } in
    let second : BeginsWithNumber (decimal m ++ a) n b = record { spelled = same; small = n_small; whole = b_other } in
    let number : m ≡ n = sym (number-value (decimal m ++ a) m a first) ∙ number-value (decimal m ++ a) n b second in
    (number, append_cancel_left (decimal m) a b (same ∙ ap (λ k. decimal k ++ b) (sym number)))

-- two letters that are the same name the same class
letter_once : (c d : Class) → letter_of c ≡ letter_of d → c ≡ d
letter_once c d same = same_Some c d (sym (class_of-letter c) ∙ (ap class_of same ∙ class_of-letter d))

-- a tag begins with a letter, above the brackets
pub tag_no_bracket : (class : Class) (bracket : ℕ) (bytes others : List ℕ) → bracket ≤ 41 → letter_of class ∷ bytes ≡ bracket ∷ others → ⊥
tag_no_bracket class bracket bytes others low same =
    let first : letter_of class ≡ bracket = cc in
    omega (arith, letter_above_brackets class)

-- no tree's text begins with a bracket that closes
pub tree_not_closing : (tree : Tree) (others left : List ℕ) → spelling tree ++ others ≡ 41 ∷ left → ⊥
tree_not_closing (leaf tag) others left same = tag_no_bracket tag.class 41 (decimal tag.value ++ others) left (omega arith) same
tree_not_closing (choice trees) others left same = let first : ◌≡◌ {A = ℕ} 40 41 = cc in omega arith

pub not_false : (b : Bool) → not b ≡ true → b ≡ false
not_false true h = sym h
not_false false h = refl

-- nothing may come after each tree
pub nothing_may_follow : (tree : Tree) → may_follow tree [] ≡ true
nothing_may_follow (leaf tag) = refl
nothing_may_follow (choice trees) = refl

-- after a tree of a choice comes a space or a bracket
pub follows_in_choice : (tree : Tree) (trees : Trees) (left : List ℕ) → may_follow tree (spelling_after trees ++ 41 ∷ left) ≡ true
follows_in_choice (leaf tag) none left = refl
follows_in_choice (leaf tag) (more t ts) left = refl
follows_in_choice (choice us) trees left = refl

tag_once : (s t : Tag) (a b : List ℕ) → s.value < 2 ^ 32 → t.value < 2 ^ 32 → begins_with_digit a ≡ false → begins_with_digit b ≡ false →
    letter_of s.class ∷ (decimal s.value ++ a) ≡ letter_of t.class ∷ (decimal t.value ++ b) → (s ≡ t) × (a ≡ b)
tag_once s t a b s_small t_small a_other b_other same =
    let letters : letter_of s.class ≡ letter_of t.class = cc in
    let others : decimal s.value ++ a ≡ decimal t.value ++ b = cc in
    let class = letter_once s.class t.class letters in
    let number = number_once s.value t.value a b s_small t_small a_other b_other others in
    (λ i. record { class = class i; value = number.0 i }, number.1)

mutual
  tree_once : (s t : Tree) (a b : List ℕ) → All HasSmallNumber (leaves s) → All HasSmallNumber (leaves t) →
      spelling s ++ a ≡ spelling t ++ b → may_follow s a ≡ true → may_follow t b ≡ true → (s ≡ t) × (a ≡ b)
  tree_once (leaf s) (leaf t) a b s_small t_small same s_whole t_whole =
      let once =
      tag_once s t a b (All-head HasSmallNumber s [] s_small) (All-head HasSmallNumber t [] t_small)
      (not_false (begins_with_digit a) s_whole) (not_false (begins_with_digit b) t_whole) same in
      (ap leaf once.0, once.1)
  tree_once (leaf s) (choice ts) a b s_small t_small same s_whole t_whole = absurd (tag_no_bracket s.class 40 _ _ (omega arith) same)
  tree_once (choice ss) (leaf t) a b s_small t_small same s_whole t_whole = absurd (tag_no_bracket t.class 40 _ _ (omega arith) (sym same))
  tree_once (choice ss) (choice ts) a b s_small t_small same s_whole t_whole =
      let inside : (spelling_of ss ++ 41 ∷ []) ++ a ≡ (spelling_of ts ++ 41 ∷ []) ++ b = cc in
      let once = trees_once ss ts a b s_small t_small (sym (append_assoc (spelling_of ss) (41 ∷ []) a) ∙ (inside ∙ append_assoc (spelling_of ts) (41 ∷ []) b)) in
      (ap choice once.0, once.1)

  trees_once : (ss ts : Trees) (a b : List ℕ) → All HasSmallNumber (leaves_of ss) → All HasSmallNumber (leaves_of ts) →
      spelling_of ss ++ 41 ∷ a ≡ spelling_of ts ++ 41 ∷ b → (ss ≡ ts) × (a ≡ b)
  trees_once none none a b s_small t_small same = (refl, cc)
  trees_once none (more t ts) a b s_small t_small same =
      absurd (tree_not_closing t (spelling_after ts ++ 41 ∷ b) a (sym (append_assoc (spelling t) (spelling_after ts) (41 ∷ b)) ∙ sym same))
  trees_once (more s ss) none a b s_small t_small same =
      absurd (tree_not_closing s (spelling_after ss ++ 41 ∷ a) b (sym (append_assoc (spelling s) (spelling_after ss) (41 ∷ a)) ∙ same))
  trees_once (more s ss) (more t ts) a b s_small t_small same =
      let first =
      tree_once s t (spelling_after ss ++ 41 ∷ a) (spelling_after ts ++ 41 ∷ b) (small_front (leaves s) (leaves_of ss) s_small) (small_front (leaves t) (leaves_of ts) t_small)
      (sym (append_assoc (spelling s) (spelling_after ss) (41 ∷ a)) ∙ (same ∙ append_assoc (spelling t) (spelling_after ts) (41 ∷ b)))
      (follows_in_choice s ss a) (follows_in_choice t ts b) in
      let others = after_once ss ts a b (small_back (leaves s) (leaves_of ss) s_small) (small_back (leaves t) (leaves_of ts) t_small) first.1 in
      (λ i. more (first.0 i) (others.0 i), others.1)

  after_once : (ss ts : Trees) (a b : List ℕ) → All HasSmallNumber (leaves_of ss) → All HasSmallNumber (leaves_of ts) →
      spelling_after ss ++ 41 ∷ a ≡ spelling_after ts ++ 41 ∷ b → (ss ≡ ts) × (a ≡ b)
  after_once none none a b s_small t_small same = (refl, cc)
  after_once none (more t ts) a b s_small t_small same = let first : ◌≡◌ {A = ℕ} 41 32 = cc in absurd (omega arith)
  after_once (more s ss) none a b s_small t_small same = let first : ◌≡◌ {A = ℕ} 32 41 = cc in absurd (omega arith)
  after_once (more s ss) (more t ts) a b s_small t_small same =
      let longer : (spelling s ++ spelling_after ss) ++ 41 ∷ a ≡ (spelling t ++ spelling_after ts) ++ 41 ∷ b = cc in
      let first =
      tree_once s t (spelling_after ss ++ 41 ∷ a) (spelling_after ts ++ 41 ∷ b) (small_front (leaves s) (leaves_of ss) s_small) (small_front (leaves t) (leaves_of ts) t_small)
      (sym (append_assoc (spelling s) (spelling_after ss) (41 ∷ a)) ∙ (longer ∙ append_assoc (spelling t) (spelling_after ts) (41 ∷ b)))
      (follows_in_choice s ss a) (follows_in_choice t ts b) in
      let others = after_once ss ts a b (small_back (leaves s) (leaves_of ss) s_small) (small_back (leaves t) (leaves_of ts) t_small) first.1 in
      (λ i. more (first.0 i) (others.0 i), others.1)

-- a text begins with at most one tree, whatever the depth
pub one_tree_begins : {depth other : ℕ} {text a b : List ℕ} {s t : Tree} → BeginsWithTree depth text s a → BeginsWithTree other text t b → (s ≡ t) × (a ≡ b)
one_tree_begins {a = a} {b = b} {s = s} {t = t} first second =
    tree_once s t a b first.small second.small (sym first.spelled ∙ second.spelled) first.whole second.whole
