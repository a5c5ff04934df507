-- The text of a tree is read as that tree, and what is read is a tree whose text is read so.
use Rattle.std.proofs.Common.{◌≡◌, ℕ, zero, suc, ◌+◌, ◌-◌, ◌/◌, ◌%◌, ◌^◌, ◌<◌, ◌≤◌, Bool, true, false, cond, not, ◌&&◌, ◌==◌, List, [], ◌∷◌, ◌++◌, length, get_or, take, Option, Some, None, option_map, option_and_then, refl, sym, ap, subst, ◌∙◌, append_assoc, arith, ltb, rules}
use Rattle.std.specs.Prelude.{All}
use Rattle.std.specs.List.{onto_first, list_all}
use Rattle.std.specs.Option.{option_map_or}
use Rattle.std.specs.Char.{is_ascii_digit}
use Rattle.std.specs.Str.Parse.{digits_value}
use Rattle.std.specs.Fmt.{decimal, digits, digits_onto, digit_glyph}
use Rattle.std.specs.Io.BufRead.{ends_with_byte}
use Rattle.std.proofs.Math.Bool.{and-false}
use Rattle.std.proofs.Math.Seq.{take-append_seam}
use Rattle.std.proofs.lemmas.Bool.{ne_eqb, ltb-true, lt-ltb}
use Rattle.std.proofs.lemmas.Bool.Decides.{nat_tests}
use Rattle.std.proofs.lemmas.Fmt.{decimal_digit, first_decimal, digits_decimal, digits_value-decimal, decimal_nonempty}
use Rattle.std.proofs.lemmas.Grind.{common_steps}
use Rattle.std.proofs.lemmas.List.{append-nil, length-append, length_push, get_or_push, get_or_append_left, get_or-append-add}
use Rattle.std.proofs.lemmas.List.Elements.{All-nil, All-cons, All-append, All-head}
use Rattle.std.proofs.lemmas.Option.{same_Some}
use Rattle.std.proofs.lemmas.Str.Parse.{IsNumeralModel, numerals_by_value}
use Rattle.asn1_tags.specs.declared.classes.Class.{Class}
use Rattle.asn1_tags.specs.declared.classes.Class.TheVariants.{Universal, Application, Context, Private}
use Rattle.asn1_tags.specs.declared.tags.Tag.{Tag}
use Rattle.asn1_tags.specs.Trees.{Tree, Trees, leaf, choice, none, more, leaves, leaves_of}
use Rattle.asn1_report.specs.NamesAndNumbers.{is_plain_number, number_of}
use Rattle.asn1_report.specs.Elements.{depth_after, elements_at, elements_of}
use Rattle.asn1_report.specs.Grammar.{class_of, tag_of, between_brackets, all_trees, tree_of}
use Rattle.asn1_report.specs.Spelling.{letter_of, spelling, spelling_of, spelling_after, brackets, brackets_of}
use Rattle.asn1_report.proofs.Elements.{before_first, before_first-onto_first, elements_start}
use Rattle.asn1_report.proofs.TreeLemmas.{tree_of-inside, tree_of-tag}

-- where this many brackets are open before the text, no element ends in it, and as many are open after it
abbrev Passes : ℕ → List ℕ → Type 0
Passes depth text = (rest : List ℕ) → elements_at depth (text ++ rest) ≡ before_first text (elements_at depth rest)

onto_first-before_first : (byte : ℕ) (bytes : List ℕ) (texts : List (List ℕ)) → onto_first byte (before_first bytes texts) ≡ before_first (byte ∷ bytes) texts
onto_first-before_first byte bytes [] = refl
onto_first-before_first byte bytes (text ∷ texts) = refl

before_first-append : (front back : List ℕ) (texts : List (List ℕ)) → before_first front (before_first back texts) ≡ before_first (front ++ back) texts
before_first-append front back [] = refl
before_first-append front back (text ∷ texts) = ap (λ first. first ∷ texts) (sym (append_assoc front back text))

-- a byte that is no space outside all brackets goes onto the first element
byte_passes : (depth after byte : ℕ) (bytes : List ℕ) → ((depth == 0) && (byte == 32)) ≡ false → depth_after depth byte ≡ after →
    elements_at depth (byte ∷ bytes) ≡ onto_first byte (elements_at after bytes)
byte_passes depth after byte bytes inside is =
    ap (λ b. cond b ([] ∷ elements_at 0 bytes) (onto_first byte (elements_at (depth_after depth byte) bytes))) inside
    ∙ ap (λ d. onto_first byte (elements_at d bytes)) is

Passes-nil : (depth : ℕ) → Passes depth []
Passes-nil depth rest = sym (elements_start rest depth)

Passes-cons : (depth byte : ℕ) (bytes : List ℕ) → ((depth == 0) && (byte == 32)) ≡ false → depth_after depth byte ≡ depth → Passes depth bytes → Passes depth (byte ∷ bytes)
Passes-cons depth byte bytes inside same passes rest =
    byte_passes depth depth byte (bytes ++ rest) inside same
    ∙ (ap (onto_first byte) (passes rest) ∙ onto_first-before_first byte bytes (elements_at depth rest))

Passes-append : (depth : ℕ) (front back : List ℕ) → Passes depth front → Passes depth back → Passes depth (front ++ back)
Passes-append depth front back front_passes back_passes rest =
    ap (elements_at depth) (append_assoc front back rest)
    ∙ (front_passes (back ++ rest) ∙ (ap (before_first front) (back_passes rest) ∙ before_first-append front back (elements_at depth rest)))

Passes-brackets : (depth : ℕ) (inside : List ℕ) → Passes (depth + 1) inside → Passes depth (40 ∷ (inside ++ 41 ∷ []))
Passes-brackets depth inside passes rest =
    byte_passes depth (depth + 1) 40 ((inside ++ 41 ∷ []) ++ rest) (and-false (depth == 0)) refl
    ∙ (ap (onto_first 40) closed ∙ onto_first-before_first 40 (inside ++ 41 ∷ []) (elements_at depth rest))
  where
    closed : elements_at (depth + 1) ((inside ++ 41 ∷ []) ++ rest) ≡ before_first (inside ++ 41 ∷ []) (elements_at depth rest)
    closed =
        ap (elements_at (depth + 1)) (append_assoc inside (41 ∷ []) rest)
        ∙ (passes (41 ∷ rest)
        ∙ (ap (before_first inside) (byte_passes (depth + 1) depth 41 rest (and-false (depth + 1 == 0)) (omega arith))
        ∙ before_first-onto_first inside 41 (elements_at depth rest)))

-- each byte is above those of the space and of the brackets, as letters and digits are
abbrev IsAboveBrackets : List ℕ → Type 0
IsAboveBrackets [] = Unit {0}
IsAboveBrackets (byte ∷ bytes) = (41 < byte) × IsAboveBrackets bytes

Passes-above_brackets : (depth : ℕ) (bytes : List ℕ) → IsAboveBrackets bytes → Passes depth bytes
Passes-above_brackets depth [] above = Passes-nil depth
Passes-above_brackets depth (byte ∷ bytes) above =
    Passes-cons depth byte bytes
    (ap (λ b. (depth == 0) && b) (ne_eqb byte 32 (λ e. omega (arith, above.0))) ∙ and-false (depth == 0))
    ((ap (λ b. cond b (depth + 1) (cond (byte == 41) (depth - 1) depth)) (ne_eqb byte 40 (λ e. omega (arith, above.0))))
    ∙ ap (λ b. cond b (depth - 1) depth) (ne_eqb byte 41 (λ e. omega (arith, above.0))))
    (Passes-above_brackets depth bytes above.1)

glyph_above_brackets : (digit : ℕ) → 41 < digit_glyph false digit
glyph_above_brackets digit = by_test (ltb digit 10)
  where
    by_test : (b : Bool) → 41 < cond b (48 + digit) (87 + digit)
    by_test true = omega arith
    by_test false = omega arith

digits_above_brackets : (count n : ℕ) (bytes : List ℕ) → IsAboveBrackets bytes → IsAboveBrackets (digits_onto count 10 false n bytes)
digits_above_brackets zero n bytes above = above
digits_above_brackets (suc count) n bytes above =
    by_test (n / 10 == 0) (glyph_above_brackets (n % 10), above)
    (digits_above_brackets count (n / 10) (digit_glyph false (n % 10) ∷ bytes) (glyph_above_brackets (n % 10), above))
  where
    by_test : (b : Bool) → IsAboveBrackets (digit_glyph false (n % 10) ∷ bytes) → IsAboveBrackets (digits_onto count 10 false (n / 10) (digit_glyph false (n % 10) ∷ bytes)) →
        IsAboveBrackets (cond b (digit_glyph false (n % 10) ∷ bytes) (digits_onto count 10 false (n / 10) (digit_glyph false (n % 10) ∷ bytes)))
    by_test true last others = last
    by_test false last others = others

decimal_above_brackets : (n : ℕ) → IsAboveBrackets (decimal n)
unfolding digits
decimal_above_brackets n = digits_above_brackets 64 n [] tt

pub letter_above_brackets : (class : Class) → 41 < letter_of class
letter_above_brackets Universal = omega arith
letter_above_brackets Application = omega arith
letter_above_brackets Context = omega arith
letter_above_brackets Private = omega arith

-- inside brackets a space ends no element
Passes-space : (depth : ℕ) (bytes : List ℕ) → 0 < depth → Passes depth bytes → Passes depth (32 ∷ bytes)
Passes-space depth bytes deep =
    Passes-cons depth 32 bytes (ap (λ b. b && true) (ne_eqb depth 0 (λ e. omega (arith, deep)))) refl

mutual
  Passes-spelling : (tree : Tree) (depth : ℕ) → Passes depth (spelling tree)
  Passes-spelling (leaf tag) depth =
      Passes-above_brackets depth (letter_of tag.class ∷ decimal tag.value) (letter_above_brackets tag.class, decimal_above_brackets tag.value)
  Passes-spelling (choice trees) depth = Passes-brackets depth (spelling_of trees) (Passes-spelling_of trees (depth + 1) (omega arith))

  Passes-spelling_of : (trees : Trees) (depth : ℕ) → 0 < depth → Passes depth (spelling_of trees)
  Passes-spelling_of none depth deep = Passes-nil depth
  Passes-spelling_of (more tree trees) depth deep =
      Passes-append depth (spelling tree) (spelling_after trees) (Passes-spelling tree depth) (Passes-spelling_after trees depth deep)

  Passes-spelling_after : (trees : Trees) (depth : ℕ) → 0 < depth → Passes depth (spelling_after trees)
  Passes-spelling_after none depth deep = Passes-nil depth
  Passes-spelling_after (more tree trees) depth deep =
      Passes-space depth (spelling tree ++ spelling_after trees) deep
      (Passes-append depth (spelling tree) (spelling_after trees) (Passes-spelling tree depth) (Passes-spelling_after trees depth deep))

-- the text of each of the trees
abbrev spelling_each : Trees → List (List ℕ)
spelling_each none = []
spelling_each (more tree trees) = spelling tree ∷ spelling_each trees

elements-spelling_after : (trees : Trees) (tree : Tree) → elements_at 0 (spelling tree ++ spelling_after trees) ≡ spelling tree ∷ spelling_each trees
elements-spelling_after none tree = Passes-spelling tree 0 [] ∙ ap (λ text. text ∷ []) (append-nil (spelling tree))
elements-spelling_after (more next trees) tree =
    Passes-spelling tree 0 (spelling_after (more next trees))
    ∙ (λ i. append-nil (spelling tree) i ∷ elements-spelling_after trees next i)

-- the text of a tree has a byte
elements_of-spelling : (tree : Tree) (rest : List ℕ) → elements_of (spelling tree ++ rest) ≡ elements_at 0 (spelling tree ++ rest)
elements_of-spelling (leaf tag) rest = refl
elements_of-spelling (choice trees) rest = refl

elements_of-spelling_of : (trees : Trees) → elements_of (spelling_of trees) ≡ spelling_each trees
elements_of-spelling_of none = refl
elements_of-spelling_of (more tree trees) = elements_of-spelling tree (spelling_after trees) ∙ elements-spelling_after trees tree

ends-push : (byte : ℕ) (bytes : List ℕ) → ends_with_byte byte (bytes ++ byte ∷ []) ≡ true
ends-push byte bytes =
    let long = length_push bytes byte in
    let last : get_or (bytes ++ byte ∷ []) (length (bytes ++ byte ∷ []) - 1) 0 ≡ byte = get_or_push bytes byte 0 (length (bytes ++ byte ∷ []) - 1) (omega arith) in
    grind (arith, nat_tests)

take-push : (byte : ℕ) (bytes : List ℕ) → take (length (bytes ++ byte ∷ []) - 1) (bytes ++ byte ∷ []) ≡ bytes
take-push byte bytes =
    let long = length_push bytes byte in
    let less : length (bytes ++ byte ∷ []) - 1 ≡ length bytes = omega arith in
    ap (λ n. take n (bytes ++ byte ∷ [])) less ∙ take-append_seam bytes (byte ∷ [])

between_brackets-inside : (inside : List ℕ) → between_brackets (40 ∷ (inside ++ 41 ∷ [])) ≡ Some inside
between_brackets-inside inside =
    ap (λ b. cond b (Some (take (length (inside ++ 41 ∷ []) - 1) (inside ++ 41 ∷ []))) None) (ends-push 41 inside)
    ∙ ap Some (take-push 41 inside)

own : IsNumeralModel (λ ds. list_all is_ascii_digit ds ≡ true) (digits_value 10)
own = numerals_by_value (λ ds. list_all is_ascii_digit ds ≡ true) (search rules)

-- digits of which the first is above zero are a plain number
plain_from_digits : (ds : List ℕ) → list_all is_ascii_digit ds ≡ true → 0 < length ds → 48 < get_or ds 0 0 → is_plain_number ds ≡ true
plain_from_digits [] all some first = absurd (omega arith)
plain_from_digits (d ∷ []) all some first = grind (arith, common_steps)
plain_from_digits (d ∷ e ∷ ds) all some first = ap (λ b. not b && list_all is_ascii_digit (d ∷ e ∷ ds)) (ne_eqb d 48 (λ is_zero. omega arith)) ∙ all

plain_decimal : (n : ℕ) → n < 2 ^ 32 → is_plain_number (decimal n) ≡ true
plain_decimal zero small = ap is_plain_number (decimal_digit 0 (omega arith))
plain_decimal (suc n) small =
    plain_from_digits (decimal (suc n)) (digits_decimal own (suc n) (omega arith)) (decimal_nonempty (suc n) (omega arith)) (first_decimal (suc n) (omega arith) (omega arith))

-- a number below 2 ^ 32 is read of its decimal text
number_of-decimal : (n : ℕ) → n < 2 ^ 32 → number_of (decimal n) ≡ Some n
number_of-decimal n small =
    let value : digits_value 10 (decimal n) ≡ n = digits_value-decimal own n (omega arith) in
    ap (λ b. cond (b && ltb (digits_value 10 (decimal n)) (2 ^ 32)) (Some (digits_value 10 (decimal n))) None) (plain_decimal n small)
    ∙ (ap (λ m. cond (ltb m (2 ^ 32)) (Some m) None) value ∙ ap (λ b. cond b (Some n) None) (lt-ltb n (2 ^ 32) small))

pub class_of-letter : (class : Class) → class_of (letter_of class) ≡ Some class
class_of-letter Universal = refl
class_of-letter Application = refl
class_of-letter Context = refl
class_of-letter Private = refl

tag_of-spelling : (tag : Tag) → tag.value < 2 ^ 32 → tag_of (spelling (leaf tag)) ≡ Some tag
tag_of-spelling tag small =
    ap (option_and_then (λ class. option_map (λ value. record { class = class; value = value }) (number_of (decimal tag.value)))) (class_of-letter tag.class)
    ∙ ap (option_map (λ value. record { class = tag.class; value = value })) (number_of-decimal tag.value small)

no_brackets : (class : Class) (bytes : List ℕ) → between_brackets (letter_of class ∷ bytes) ≡ None
no_brackets Universal bytes = refl
no_brackets Application bytes = refl
no_brackets Context bytes = refl
no_brackets Private bytes = refl

-- the tag's number is one that is read
abbrev pub HasSmallNumber : Tag → Type 0
HasSmallNumber tag = tag.value < 2 ^ 32

pub small_front : (front back : List Tag) → All HasSmallNumber (front ++ back) → All HasSmallNumber front
small_front front back small k d lt =
    let long = length-append front back in
    subst HasSmallNumber (get_or_append_left front back d k lt) (small k d (omega arith))

pub small_back : (front back : List Tag) → All HasSmallNumber (front ++ back) → All HasSmallNumber back
small_back front back small k d lt =
    let long = length-append front back in
    subst HasSmallNumber (get_or-append-add front back k d) (small (length front + k) d (omega arith))

mutual
  -- a tree's text is read as that tree
  pub tree_respelled : (depth : ℕ) (tree : Tree) → brackets tree ≤ depth → All (λ tag. tag.value < 2 ^ 32) (leaves tree) → tree_of depth (spelling tree) ≡ Some tree
  tree_respelled depth (leaf tag) deep small =
      tree_of-tag depth (spelling (leaf tag)) (no_brackets tag.class (decimal tag.value))
      ∙ ap (option_map leaf) (tag_of-spelling tag (All-head HasSmallNumber tag [] small))
  tree_respelled depth (choice trees) deep small =
      tree_of-inside depth (spelling (choice trees)) (spelling_of trees) (between_brackets-inside (spelling_of trees)) (omega arith)
      ∙ ap (option_map choice) (ap (all_trees (tree_of (depth - 1))) (elements_of-spelling_of trees) ∙ trees_respelled (depth - 1) trees (omega arith) small)

  trees_respelled : (depth : ℕ) (trees : Trees) → brackets_of trees ≤ depth → All (λ tag. tag.value < 2 ^ 32) (leaves_of trees) → all_trees (tree_of depth) (spelling_each trees) ≡ Some trees
  trees_respelled depth none deep small = refl
  trees_respelled depth (more tree trees) deep small =
      ap (option_and_then (λ t. option_map (more t) (all_trees (tree_of depth) (spelling_each trees)))) (tree_respelled depth tree (omega arith) (small_front (leaves tree) (leaves_of trees) small))
      ∙ ap (option_map (more tree)) (trees_respelled depth trees (omega arith) (small_back (leaves tree) (leaves_of trees) small))

-- at most this many of the tree's brackets are open at once, and its tags' numbers are small
abbrev Fits : ℕ → Tree → Type 0
Fits depth tree = (brackets tree ≤ depth) × All HasSmallNumber (leaves tree)

-- each tree that the function finds fits
abbrev FindsFitting : ℕ → (List ℕ → Option Tree) → Type 0
FindsFitting depth tree_in = (text : List ℕ) (tree : Tree) → tree_in text ≡ Some tree → Fits depth tree

number_small : (digits : List ℕ) (n : ℕ) → number_of digits ≡ Some n → n < 2 ^ 32
number_small digits n is = by_tests (is_plain_number digits) (ltb (digits_value 10 digits) (2 ^ 32)) refl is
  where
    by_tests : (p q : Bool) → ltb (digits_value 10 digits) (2 ^ 32) ≡ q → cond (p && q) (Some (digits_value 10 digits)) None ≡ Some n → n < 2 ^ 32
    by_tests true true small same = omega (arith, ltb-true (digits_value 10 digits) (2 ^ 32) small, same_Some _ _ same)
    by_tests true false small same = cc
    by_tests false q small same = cc

tag_small : (text : List ℕ) (tag : Tag) → tag_of text ≡ Some tag → HasSmallNumber tag
tag_small [] tag is = cc
tag_small (letter ∷ digits) tag is = with_class (class_of letter) is
  where
    with_number : (class : Class) (r : Option ℕ) → number_of digits ≡ r → option_map (λ value. record { class = class; value = value }) r ≡ Some tag → HasSmallNumber tag
    with_number class None read whole = cc
    with_number class (Some n) read whole =
        let e : Some (record { class = class; value = n }) ≡ Some tag = whole in
        subst HasSmallNumber (same_Some _ _ e) (number_small digits n read)

    with_class : (r : Option Class) → option_and_then (λ class. option_map (λ value. record { class = class; value = value }) (number_of digits)) r ≡ Some tag →
        HasSmallNumber tag
    with_class None whole = cc
    with_class (Some class) whole = with_number class (number_of digits) refl whole

leaf_fits : (depth : ℕ) (text : List ℕ) (tree : Tree) → option_map leaf (tag_of text) ≡ Some tree → Fits depth tree
leaf_fits depth text tree is = with_tag (tag_of text) refl is
  where
    with_tag : (r : Option Tag) → tag_of text ≡ r → option_map leaf r ≡ Some tree → Fits depth tree
    with_tag None found whole = cc
    with_tag (Some tag) found whole =
        subst (Fits depth) (same_Some _ _ whole) (omega arith, All-cons HasSmallNumber tag [] (tag_small text tag found) (All-nil HasSmallNumber))

-- the same of several trees
abbrev AllFit : ℕ → Trees → Type 0
AllFit depth trees = (brackets_of trees ≤ depth) × All HasSmallNumber (leaves_of trees)

trees_fit : (depth : ℕ) (tree_in : List ℕ → Option Tree) → FindsFitting depth tree_in → (texts : List (List ℕ)) (trees : Trees) →
    all_trees tree_in texts ≡ Some trees → AllFit depth trees
trees_fit depth tree_in fits [] trees is = subst (AllFit depth) (same_Some _ _ is) (omega arith, All-nil HasSmallNumber)
trees_fit depth tree_in fits (text ∷ texts) trees is = with_tree (λ ts found. trees_fit depth tree_in fits texts ts found) (tree_in text) refl is
  where
    with_rest : ((ts : Trees) → all_trees tree_in texts ≡ Some ts → AllFit depth ts) → (tree : Tree) (r : Option Trees) → all_trees tree_in texts ≡ r →
        tree_in text ≡ Some tree → option_map (more tree) r ≡ Some trees → AllFit depth trees
    with_rest others tree None rest first whole = cc
    with_rest others tree (Some ts) rest first whole =
        let one = fits text tree first in
        let all = others ts rest in
        subst (AllFit depth) (same_Some _ _ whole) (omega (arith, one.0, all.0), All-append HasSmallNumber (leaves tree) (leaves_of ts) one.1 all.1)

    with_tree : ((ts : Trees) → all_trees tree_in texts ≡ Some ts → AllFit depth ts) → (r : Option Tree) → tree_in text ≡ r →
        option_and_then (λ tree. option_map (more tree) (all_trees tree_in texts)) r ≡ Some trees → AllFit depth trees
    with_tree others None found whole = cc
    with_tree others (Some tree) found whole = with_rest others tree (all_trees tree_in texts) refl found whole

choice_fits : (depth : ℕ) (r : Option Trees) (tree : Tree) → ((trees : Trees) → r ≡ Some trees → AllFit depth trees) → option_map choice r ≡ Some tree →
    Fits (suc depth) tree
choice_fits depth None tree fit whole = cc
choice_fits depth (Some trees) tree fit whole = let all = fit trees refl in subst (Fits (suc depth)) (same_Some _ _ whole) (omega (arith, all.0), all.1)

-- what is read is a tree with at most `depth` brackets open at once, and with tags' numbers below 2 ^ 32
pub tree_fits : (depth : ℕ) (text : List ℕ) (tree : Tree) → tree_of depth text ≡ Some tree → (brackets tree ≤ depth) × All (λ tag. tag.value < 2 ^ 32) (leaves tree)
unfolding tree_of
tree_fits zero text tree is = leaf_fits zero text tree is
tree_fits (suc depth) text tree is = with_inside (tree_fits depth) (between_brackets text) is
  where
    with_inside : FindsFitting depth (tree_of depth) → (r : Option (List ℕ)) →
        option_map_or (λ inside. option_map choice (all_trees (tree_of depth) (elements_of inside))) r (option_map leaf (tag_of text)) ≡ Some tree →
        Fits (suc depth) tree
    with_inside fits None whole = leaf_fits (suc depth) text tree whole
    with_inside fits (Some inside) whole =
        choice_fits depth (all_trees (tree_of depth) (elements_of inside)) tree (trees_fit depth (tree_of depth) fits (elements_of inside)) whole
