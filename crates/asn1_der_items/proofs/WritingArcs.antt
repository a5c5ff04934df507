-- The arcs of an OBJECT IDENTIFIER, written number by number.
use Rattle.std.proofs.Common.{◌≡◌, ℕ, suc, ◌+◌, ◌-◌, ◌*◌, ◌≤◌, ◌<◌, ◌^◌, List, [], ◌∷◌, ◌++◌, append_assoc, append-nil, length, get_or, take, drop, refl, sym, ap, subst, ◌∙◌, arith, inl, inr}
use Rattle.std.proofs.Math.Seq.{take-suc}
use Rattle.std.proofs.lemmas.List.{take_all}
use Rattle.std.specs.Prelude.{All}
use Rattle.asn1_items.specs.Numbers.{Appended}
use Rattle.asn1_der_items.specs.Arcs.{AreArcs, AreNumbers, HaveNoOctets}
use Rattle.asn1_der_items.specs.Base128.{IsBase128}

take-next : (xs : List ℕ) (i : ℕ) → i < length xs → take (i + 1) xs ≡ take i xs ++ get_or xs i 0 ∷ []
take-next xs i within = let next : i + 1 ≡ suc i = omega arith in ap (λ k. take k xs) next ∙ take-suc xs i 0 within

-- one more number
numbers_push : (numbers : List ℕ) (n : ℕ) (octets more : List ℕ) → AreNumbers numbers octets → IsBase128 n more → AreNumbers (numbers ++ n ∷ []) (octets ++ more)
numbers_push [] n octets more none is = record { first = more; others = []; is_first = is; are_others = refl; are = ap (λ l. l ++ more) none ∙ sym (append-nil more) }
numbers_push (x ∷ numbers) n octets more are is = record {
  first = are.first;
  others = are.others ++ more;
  is_first = are.is_first;
  are_others = numbers_push numbers n are.others more are.are_others is;
  are = ap (λ l. l ++ more) are.are ∙ append_assoc are.first are.others more;
}

pub next_number : (numbers : List ℕ) (i n : ℕ) (old mid new : List ℕ) → i < length numbers → n ≡ get_or numbers i 0 → Appended (AreNumbers (take i numbers)) old mid → Appended (IsBase128 n) mid new → Appended (AreNumbers (take (i + 1) numbers)) old new
next_number numbers i n old mid new within is before one = record {
  added = before.added ++ one.added;
  is = subst (λ l. AreNumbers l (before.added ++ one.added)) (sym (take-next numbers i within ∙ ap (λ k. take i numbers ++ k ∷ []) (sym is))) (numbers_push (take i numbers) n before.added one.added before.is one.is);
  joined = one.joined ∙ ap (λ l. l ++ one.added) before.joined ∙ append_assoc old before.added one.added;
}

-- the first two arcs as one number, and the others
pub arcs_appended : (list rest : List ℕ) (n : ℕ) (old mid new : List ℕ) → 2 ≤ length list → All (λ arc. arc < 2 ^ 32) list → rest ≡ take (length list - 2) (drop 2 list) → n ≡ get_or list 0 0 * 40 + get_or list 1 0 →
    get_or list 0 0 ≤ 2 → (get_or list 0 0 < 2 → get_or list 1 0 < 40) → Appended (IsBase128 n) old mid → Appended (AreNumbers rest) mid new → Appended (AreArcs list) old new
arcs_appended [] rest n old mid new long fit others is three below one more = absurd (omega arith)
arcs_appended (first ∷ []) rest n old mid new long fit others is three below one more = absurd (omega arith)
arcs_appended (first ∷ second ∷ left) rest n old mid new long fit others is three below one more = record {
  added = one.added ++ more.added;
  is = record {
    first = first;
    second = second;
    rest = left;
    are = refl;
    numbers = record {
      first = one.added;
      others = more.added;
      is_first = subst (λ k. IsBase128 k one.added) is one.is;
      are_others = subst (λ l. AreNumbers l more.added) (others ∙ take_all (length (first ∷ second ∷ left) - 2) left (omega arith)) more.is;
      are = refl;
    };
    first_of_three = three;
    second_below = below;
    fit = fit;
  };
  joined = more.joined ∙ ap (λ l. l ++ more.added) one.joined ∙ append_assoc old one.added more.added;
}

-- arcs that have no octets
pub too_few : (list : List ℕ) → length list < 2 → HaveNoOctets list
too_few [] few = tt
too_few (first ∷ []) few = tt
too_few (first ∷ second ∷ rest) few = absurd (omega arith)

pub first_too_large : (list : List ℕ) → 2 ≤ length list → 2 < get_or list 0 0 → HaveNoOctets list
first_too_large [] long large = tt
first_too_large (first ∷ []) long large = tt
first_too_large (first ∷ second ∷ rest) long large = inl large

pub second_too_large : (list : List ℕ) → 2 ≤ length list → get_or list 0 0 < 2 → 39 < get_or list 1 0 → HaveNoOctets list
second_too_large [] long small large = tt
second_too_large (first ∷ []) long small large = tt
second_too_large (first ∷ second ∷ rest) long small large = inr (small, large)

-- the units of a TeletexString, one after another
pub next_unit : (units : List ℕ) (i octet : ℕ) (old mid new : List ℕ) → i < length units → octet ≡ get_or units i 0 → mid ≡ old ++ take i units → new ≡ mid ++ octet ∷ [] → new ≡ old ++ take (i + 1) units
next_unit units i octet old mid new within is before pushed =
    pushed ∙ ap (λ l. l ++ octet ∷ []) before ∙ append_assoc old (take i units) (octet ∷ [])
    ∙ ap (λ k. old ++ (take i units ++ k ∷ [])) is ∙ ap (λ l. old ++ l) (sym (take-next units i within))
