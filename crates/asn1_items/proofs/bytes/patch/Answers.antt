use Rattle.std.proofs.Common.{◌≡◌, ℕ, ◌+◌, ◌-◌, ◌<◌, ◌^◌, List, [], ◌∷◌, ◌++◌, length, get_or, set, refl, ap, ◌∙◌, arith}
use Rattle.std.proofs.lemmas.List.{get_or-append-add, set-append_right}
use Rattle.std.proofs.lemmas.Nat.{from_be_bytes-to_be_bytes_4}
use Rattle.std.specs.Int.{w32, from_be_bytes}
use Rattle.asn1_items.specs.Numbers.{four_bytes}
use Rattle.asn1_items.proofs.bytes.patch.Goals as goal

one : (before l : List ℕ) (i j v : ℕ) → i ≡ length before + j → set (before ++ l) i v ≡ before ++ set l j v
one before l i j v is = let k : i - length before ≡ j = omega arith in set-append_right before l (length before) i v refl (omega arith) ∙ ap (λ n. before ++ set l n v) k

patched : (before place inside xs : List ℕ) (a b c d start : ℕ) → xs ≡ before ++ (place ++ inside) → length place ≡ 4 → start ≡ length before + 4 →
    set (set (set (set xs (start - 4) a) (start - 3) b) (start - 2) c) (start - 1) d ≡ before ++ (a ∷ b ∷ c ∷ d ∷ inside)
patched before (p ∷ q ∷ r ∷ s ∷ []) inside xs a b c d start is long starts =
    ap (λ l. set (set (set (set l (start - 4) a) (start - 3) b) (start - 2) c) (start - 1) d) is
    ∙ ap (λ l. set (set (set l (start - 3) b) (start - 2) c) (start - 1) d) (one before (p ∷ q ∷ r ∷ s ∷ inside) (start - 4) 0 a (omega arith))
    ∙ ap (λ l. set (set l (start - 2) c) (start - 1) d) (one before (a ∷ q ∷ r ∷ s ∷ inside) (start - 3) 1 b (omega arith))
    ∙ ap (λ l. set l (start - 1) d) (one before (a ∷ b ∷ r ∷ s ∷ inside) (start - 2) 2 c (omega arith))
    ∙ one before (a ∷ b ∷ c ∷ s ∷ inside) (start - 1) 3 d (omega arith)
patched before _ inside xs a b c d start is long starts = absurd (omega arith)

at : (before l : List ℕ) (i j : ℕ) → i ≡ length before + j → get_or (before ++ l) i 0 ≡ get_or l j 0
at before l i j is = ap (λ n. get_or (before ++ l) n 0) is ∙ get_or-append-add before l j 0

number_at : (before inside xs : List ℕ) (start number : ℕ) → number < 2 ^ 32 → xs ≡ before ++ (four_bytes number ++ inside) → start ≡ length before + 4 →
    from_be_bytes w32 (get_or xs (start - 4) 0 ∷ get_or xs (start - 3) 0 ∷ get_or xs (start - 2) 0 ∷ get_or xs (start - 1) 0 ∷ []) ≡ number
number_at before inside xs start number fits is starts =
    let l = before ++ (four_bytes number ++ inside) in
    let bs = four_bytes number ++ inside in
    ap (λ l. from_be_bytes w32 (get_or l (start - 4) 0 ∷ get_or l (start - 3) 0 ∷ get_or l (start - 2) 0 ∷ get_or l (start - 1) 0 ∷ [])) is
    ∙ ap (λ a. from_be_bytes w32 (a ∷ get_or l (start - 3) 0 ∷ get_or l (start - 2) 0 ∷ get_or l (start - 1) 0 ∷ [])) (at before bs (start - 4) 0 (omega arith))
    ∙ ap (λ b. from_be_bytes w32 (get_or bs 0 0 ∷ b ∷ get_or l (start - 2) 0 ∷ get_or l (start - 1) 0 ∷ [])) (at before bs (start - 3) 1 (omega arith))
    ∙ ap (λ c. from_be_bytes w32 (get_or bs 0 0 ∷ get_or bs 1 0 ∷ c ∷ get_or l (start - 1) 0 ∷ [])) (at before bs (start - 2) 2 (omega arith))
    ∙ ap (λ d. from_be_bytes w32 (get_or bs 0 0 ∷ get_or bs 1 0 ∷ get_or bs 2 0 ∷ d ∷ [])) (at before bs (start - 1) 3 (omega arith))
    ∙ from_be_bytes-to_be_bytes_4 number fits

pub returns : goal.returns
returns c = λ before inside number fits is starts. (
  patched before (four_bytes number) inside c.args.bytes.now _ _ _ _ c.args.start is refl starts ∙ ap (λ l. before ++ (get_or l 0 0 ∷ get_or l 1 0 ∷ get_or l 2 0 ∷ get_or l 3 0 ∷ inside)) c.to_be_bytes.ensures,
  c.from_be_bytes-number.ensures ∙ number_at before inside c.args.bytes.now c.args.start number fits is starts,
)
