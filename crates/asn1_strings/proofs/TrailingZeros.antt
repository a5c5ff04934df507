-- Bits without the 0 bits at their end.
use Rattle.std.proofs.Common.{◌≡◌, ◌∙◌, ℕ, suc, ◌<◌, ◌≤◌, Bool, true, false, List, [], ◌∷◌, ◌++◌, length, take, refl, sym, ap, subst}
use Rattle.std.proofs.lemmas.List.{length-take-le}
use Rattle.std.proofs.Math.ListN.{get_or}
use Rattle.std.proofs.Math.Seq.{take-length, take-suc}
use Rattle.asn1_strings.specs.Bits.{EndsInOne, before_zeros, without_trailing_zeros}

-- one 0 bit at the end is left out
pub zero_left_out : (bits : List Bool) → without_trailing_zeros (bits ++ false ∷ []) ≡ without_trailing_zeros bits
zero_left_out [] = refl
zero_left_out (b ∷ bits) = ap (before_zeros b) (zero_left_out bits)

-- the last that is left is 1
ends_before : (b : Bool) (bits : List Bool) → EndsInOne bits → EndsInOne (before_zeros b bits)
ends_before false [] ends = tt
ends_before true [] ends = refl
ends_before false (c ∷ bits) ends = ends
ends_before true (c ∷ bits) ends = ends

pub ends : (bits : List Bool) → EndsInOne (without_trailing_zeros bits)
ends [] = tt
ends (b ∷ bits) = ends_before b (without_trailing_zeros bits) (ends bits)

-- and where it is, nothing is left out
stays : (b c : Bool) (bits : List Bool) → before_zeros b (c ∷ bits) ≡ b ∷ c ∷ bits
stays false c bits = refl
stays true c bits = refl

pub nothing_left_out : (bits : List Bool) → EndsInOne bits → without_trailing_zeros bits ≡ bits
nothing_left_out [] one = refl
nothing_left_out (true ∷ []) one = refl
nothing_left_out (false ∷ []) one = cc
nothing_left_out (b ∷ c ∷ bits) one = ap (before_zeros b) (nothing_left_out (c ∷ bits) one) ∙ stays b c bits

-- a 1 at the end
pub one_at_end : (bits : List Bool) → EndsInOne (bits ++ true ∷ [])
one_at_end [] = refl
one_at_end (b ∷ []) = refl
one_at_end (b ∷ c ∷ bits) = one_at_end (c ∷ bits)

-- a 0 bit at an index is passed over, from the end
pub zero_passed : (bits : List Bool) (n : ℕ) → n < length bits → get_or bits n false ≡ false → without_trailing_zeros (take n bits) ≡ without_trailing_zeros (take (suc n) bits)
zero_passed bits n low is =
    sym (zero_left_out (take n bits)) ∙
    ap without_trailing_zeros (ap (λ b. take n bits ++ b ∷ []) (sym is) ∙ sym (take-suc bits n false low))

-- and a 1 is not
pub stops : (bits : List Bool) (n : ℕ) → n < length bits → get_or bits n false ≡ true → EndsInOne (take (suc n) bits)
stops bits n low is = subst EndsInOne (sym (take-suc bits n false low ∙ ap (λ b. take n bits ++ b ∷ []) is)) (one_at_end (take n bits))

-- so what is left is all that is asked for
pub all_left : (bits : List Bool) (n : ℕ) → EndsInOne (take n bits) → without_trailing_zeros (take n bits) ≡ without_trailing_zeros bits → take n bits ≡ without_trailing_zeros bits
all_left bits n one same = sym (nothing_left_out (take n bits) one) ∙ same

-- as many bits are left as there are, exactly if the last is 1
pub as_many : (bits : List Bool) (n : ℕ) → n ≤ length bits → take n bits ≡ without_trailing_zeros bits → EndsInOne bits → n ≡ length bits
as_many bits n within left one =
    sym (length-take-le n bits within) ∙ ap length (left ∙ nothing_left_out bits one)

pub ends_so : (bits : List Bool) (n : ℕ) → n ≡ length bits → take n bits ≡ without_trailing_zeros bits → EndsInOne bits
ends_so bits n all left =
    subst EndsInOne (sym left ∙ ap (λ k. take k bits) all ∙ take-length bits) (ends bits)
