-- No symbol with which a text begins is longer than the one that is found.
use Rattle.std.proofs.Common.{◌≡◌, ℕ, ◌-◌, ◌≤◌, Bool, true, false, cond, ◌||◌, ◌&&◌, not, ◌⊎◌, inl, inr, List, [], ◌∷◌, ◌++◌, length, take, drop, Some, refl, sym, ap, ◌∙◌, arith}
use Rattle.std.specs.Prelude.{nat_eq}
use Rattle.std.specs.List.{find, list_all, starts_with}
use Rattle.std.specs.Str.{bytes_eq}
use Rattle.std.proofs.lemmas.Bool.Decides.{Decides-eqb}
use Rattle.std.proofs.lemmas.Slice.Eq.{bytes_eq-Decides, starts_is}
use Rattle.std.proofs.lemmas.List.{length-append, length-drop, take_rest}
use Rattle.asn1_tokens.specs.Items.{LeavesLeast}
use Rattle.asn1_tokens.specs.Words.{is_among}

-- no text of a table begins a later one
abbrev pub is_longest_first : List (List ℕ) → Bool
is_longest_first [] = true
is_longest_first (y ∷ ys) = list_all (λ later. not (starts_with nat_eq later y)) ys && is_longest_first ys

and_left : (a b : Bool) → (a && b) ≡ true → a ≡ true
and_left true b both = refl
and_left false b both = both

and_right : (a b : Bool) → (a && b) ≡ true → b ≡ true
and_right true b both = both
and_right false b both = absurd cc

is_false : (b : Bool) → not b ≡ true → b ≡ false
is_false true is = absurd cc
is_false false is = refl

-- one of a table is its first, or one of the others
first_or_later : (x y : List ℕ) (ys : List (List ℕ)) → is_among (y ∷ ys) x ≡ true → (y ≡ x) ⊎ (is_among ys x ≡ true)
first_or_later x y ys among =
    elim (bytes_eq y x) as (λ b. bytes_eq y x ≡ b → (b || is_among ys x) ≡ true → (y ≡ x) ⊎ (is_among ys x ≡ true)) [
      | true ↦ λ same among. inl ((bytes_eq-Decides y x).0 same)
      | false ↦ λ other among. inr among
    ] refl among

passes_among : (p : List ℕ → Bool) (xs : List (List ℕ)) (x : List ℕ) → list_all p xs ≡ true → is_among xs x ≡ true → p x ≡ true
passes_among p [] x all among = absurd cc
passes_among p (y ∷ ys) x all among =
    elim (first_or_later x y ys among) as (λ _. p x ≡ true) [
      | inl same ↦ ap p (sym same) ∙ and_left (p y) (list_all p ys) all
      | inr later ↦ passes_among p ys x (and_right (p y) (list_all p ys) all) later
    ]

-- Of two beginnings of a text, the second is no longer if it does not begin with the first.
no_longer : (y after x rest : List ℕ) → y ++ after ≡ x ++ rest → starts_with nat_eq x y ≡ false → length x ≤ length y
no_longer y after [] rest same apart = omega arith
no_longer [] after (d ∷ x) rest same apart = absurd cc
no_longer (c ∷ y) after (d ∷ x) rest same apart =
    let heads : c ≡ d = cc in
    let tails : y ++ after ≡ x ++ rest = cc in
    omega (arith, no_longer y after x rest tails (ap (λ b. b && starts_with nat_eq x y) (sym ((Decides-eqb c d).1 heads)) ∙ apart))

longest_found : (text x rest symbol : List ℕ) (table : List (List ℕ)) → is_longest_first table ≡ true → Some symbol ≡ find (λ known. starts_with nat_eq text known) table →
    is_among table x ≡ true → text ≡ x ++ rest → length x ≤ length symbol
longest_found text x rest symbol [] ordered found among parts = absurd cc
longest_found text x rest symbol (y ∷ ys) ordered found among parts =
    let begins = starts_is Decides-eqb text y (starts_with nat_eq text y) refl in
    elim (starts_with nat_eq text y) as
    (λ b. starts_with nat_eq text y ≡ b → Some symbol ≡ cond b (Some y) (find (λ known. starts_with nat_eq text known) ys) → length x ≤ length symbol) [
      | true ↦ λ first found.
          let is : symbol ≡ y = cc in
          elim (first_or_later x y ys among) as (λ _. length x ≤ length symbol) [
            | inl same ↦ omega (arith, ap length is, ap length same)
            | inr later ↦
                let begins_none = λ (known : List ℕ). not (starts_with nat_eq known y) in
                let apart = passes_among begins_none ys x (and_left (list_all begins_none ys) (is_longest_first ys) ordered) later in
                omega (arith, ap length is, no_longer y (drop (length y) text) x rest (sym (begins.0 first) ∙ parts) (is_false (starts_with nat_eq x y) apart))
          ]
      | false ↦ λ other found.
          elim (first_or_later x y ys among) as (λ _. length x ≤ length symbol) [
            | inl same ↦
                let first : starts_with nat_eq text y ≡ true = begins.1 rest (parts ∙ ap (λ t. t ++ rest) (sym same)) in
                absurd cc
            | inr later ↦ longest_found text x rest symbol ys (and_right (list_all (λ known. not (starts_with nat_eq known y)) ys) (is_longest_first ys) ordered) found later parts
          ]
    ] refl found

pub symbol_longest : (table : List (List ℕ)) (text symbol : List ℕ) → is_longest_first table ≡ true → Some symbol ≡ find (λ known. starts_with nat_eq text known) table →
    LeavesLeast (λ item. is_among table item ≡ true) text (take (length text - length symbol) (drop (length symbol) text))
symbol_longest table text symbol ordered found = λ rest split.
    let longest = longest_found text split.0 rest symbol table ordered found split.2 split.1 in
    omega (arith, longest, ap length (take_rest text (length symbol)), length-drop (length symbol) text, ap length split.1, length-append split.0 rest)
