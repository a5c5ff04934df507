-- Bits with any unused bits, and the same with unused bits that are 0.
use Rattle.std.proofs.Common.{◌≡◌, ℕ, ◌+◌, ◌-◌, ◌*◌, ◌≤◌, ◌<◌, Bool, false, List, [], ◌∷◌, ◌++◌, append-nil, append_assoc, length, length-append, length-drop, take, drop, refl, ap, sym, subst, ◌∙◌, arith}
use Rattle.std.proofs.Math.Seq.{take-append-add, take-append_seam}
use Rattle.std.proofs.lemmas.List.{take-append-drop}
use Rattle.std.proofs.lemmas.List.Concat.{flat_map-append}
use Rattle.std.proofs.lemmas.Bool.{ne_eqb}
use Rattle.std.specs.Prelude.{◌/◌, ◌%◌, nat_eq, not, replicate, slice_index_or, suc, zero}
use Rattle.asn1_items.specs.Bits.{AreBits, bits_of_octet, bits_of_octets}
use Rattle.asn1_ber_items.specs.LooseContents.{AreLooseBits, AreSameBits, IsTruthValue, other_octet, zero_octet}

-- the last octet with this many of its last bits set to 0
abbrev pub IsCleared : ℕ → ℕ → ℕ → Type 0
IsCleared unused octet new = bits_of_octet new ≡ take (8 - unused) (bits_of_octet octet) ++ replicate unused false

pub cleared_1 : (o : ℕ) → IsCleared 1 o (o / 2 * 2)
cleared_1 o =
    let a : o / 2 * 2 / 128 % 2 ≡ o / 128 % 2 = omega arith in
    let b : o / 2 * 2 / 64 % 2 ≡ o / 64 % 2 = omega arith in
    let c : o / 2 * 2 / 32 % 2 ≡ o / 32 % 2 = omega arith in
    let d : o / 2 * 2 / 16 % 2 ≡ o / 16 % 2 = omega arith in
    let e : o / 2 * 2 / 8 % 2 ≡ o / 8 % 2 = omega arith in
    let f : o / 2 * 2 / 4 % 2 ≡ o / 4 % 2 = omega arith in
    let g : o / 2 * 2 / 2 % 2 ≡ o / 2 % 2 = omega arith in
    let h : o / 2 * 2 % 2 ≡ 0 = omega arith in
    rw (a, b, c, d, e, f, g, h)

pub cleared_2 : (o : ℕ) → IsCleared 2 o (o / 4 * 4)
cleared_2 o =
    let a : o / 4 * 4 / 128 % 2 ≡ o / 128 % 2 = omega arith in
    let b : o / 4 * 4 / 64 % 2 ≡ o / 64 % 2 = omega arith in
    let c : o / 4 * 4 / 32 % 2 ≡ o / 32 % 2 = omega arith in
    let d : o / 4 * 4 / 16 % 2 ≡ o / 16 % 2 = omega arith in
    let e : o / 4 * 4 / 8 % 2 ≡ o / 8 % 2 = omega arith in
    let f : o / 4 * 4 / 4 % 2 ≡ o / 4 % 2 = omega arith in
    let g : o / 4 * 4 / 2 % 2 ≡ 0 = omega arith in
    let h : o / 4 * 4 % 2 ≡ 0 = omega arith in
    rw (a, b, c, d, e, f, g, h)

pub cleared_3 : (o : ℕ) → IsCleared 3 o (o / 8 * 8)
cleared_3 o =
    let a : o / 8 * 8 / 128 % 2 ≡ o / 128 % 2 = omega arith in
    let b : o / 8 * 8 / 64 % 2 ≡ o / 64 % 2 = omega arith in
    let c : o / 8 * 8 / 32 % 2 ≡ o / 32 % 2 = omega arith in
    let d : o / 8 * 8 / 16 % 2 ≡ o / 16 % 2 = omega arith in
    let e : o / 8 * 8 / 8 % 2 ≡ o / 8 % 2 = omega arith in
    let f : o / 8 * 8 / 4 % 2 ≡ 0 = omega arith in
    let g : o / 8 * 8 / 2 % 2 ≡ 0 = omega arith in
    let h : o / 8 * 8 % 2 ≡ 0 = omega arith in
    rw (a, b, c, d, e, f, g, h)

pub cleared_4 : (o : ℕ) → IsCleared 4 o (o / 16 * 16)
cleared_4 o =
    let a : o / 16 * 16 / 128 % 2 ≡ o / 128 % 2 = omega arith in
    let b : o / 16 * 16 / 64 % 2 ≡ o / 64 % 2 = omega arith in
    let c : o / 16 * 16 / 32 % 2 ≡ o / 32 % 2 = omega arith in
    let d : o / 16 * 16 / 16 % 2 ≡ o / 16 % 2 = omega arith in
    let e : o / 16 * 16 / 8 % 2 ≡ 0 = omega arith in
    let f : o / 16 * 16 / 4 % 2 ≡ 0 = omega arith in
    let g : o / 16 * 16 / 2 % 2 ≡ 0 = omega arith in
    let h : o / 16 * 16 % 2 ≡ 0 = omega arith in
    rw (a, b, c, d, e, f, g, h)

pub cleared_5 : (o : ℕ) → IsCleared 5 o (o / 32 * 32)
cleared_5 o =
    let a : o / 32 * 32 / 128 % 2 ≡ o / 128 % 2 = omega arith in
    let b : o / 32 * 32 / 64 % 2 ≡ o / 64 % 2 = omega arith in
    let c : o / 32 * 32 / 32 % 2 ≡ o / 32 % 2 = omega arith in
    let d : o / 32 * 32 / 16 % 2 ≡ 0 = omega arith in
    let e : o / 32 * 32 / 8 % 2 ≡ 0 = omega arith in
    let f : o / 32 * 32 / 4 % 2 ≡ 0 = omega arith in
    let g : o / 32 * 32 / 2 % 2 ≡ 0 = omega arith in
    let h : o / 32 * 32 % 2 ≡ 0 = omega arith in
    rw (a, b, c, d, e, f, g, h)

pub cleared_6 : (o : ℕ) → IsCleared 6 o (o / 64 * 64)
cleared_6 o =
    let a : o / 64 * 64 / 128 % 2 ≡ o / 128 % 2 = omega arith in
    let b : o / 64 * 64 / 64 % 2 ≡ o / 64 % 2 = omega arith in
    let c : o / 64 * 64 / 32 % 2 ≡ 0 = omega arith in
    let d : o / 64 * 64 / 16 % 2 ≡ 0 = omega arith in
    let e : o / 64 * 64 / 8 % 2 ≡ 0 = omega arith in
    let f : o / 64 * 64 / 4 % 2 ≡ 0 = omega arith in
    let g : o / 64 * 64 / 2 % 2 ≡ 0 = omega arith in
    let h : o / 64 * 64 % 2 ≡ 0 = omega arith in
    rw (a, b, c, d, e, f, g, h)

pub cleared_7 : (o : ℕ) → IsCleared 7 o (o / 128 * 128)
cleared_7 o =
    let a : o / 128 * 128 / 128 % 2 ≡ o / 128 % 2 = omega arith in
    let b : o / 128 * 128 / 64 % 2 ≡ 0 = omega arith in
    let c : o / 128 * 128 / 32 % 2 ≡ 0 = omega arith in
    let d : o / 128 * 128 / 16 % 2 ≡ 0 = omega arith in
    let e : o / 128 * 128 / 8 % 2 ≡ 0 = omega arith in
    let f : o / 128 * 128 / 4 % 2 ≡ 0 = omega arith in
    let g : o / 128 * 128 / 2 % 2 ≡ 0 = omega arith in
    let h : o / 128 * 128 % 2 ≡ 0 = omega arith in
    rw (a, b, c, d, e, f, g, h)

-- octets, of which the last is changed so
bits_last : (front : List ℕ) (last : ℕ) → bits_of_octets (front ++ last ∷ []) ≡ bits_of_octets front ++ bits_of_octet last
bits_last front last = flat_map-append (λ o. bits_of_octet o) front (last ∷ []) ∙ ap (λ l. bits_of_octets front ++ l) (append-nil (bits_of_octet last))

-- the bits of octets, without those that are unused
abbrev used : ℕ → List ℕ → ℕ → List Bool
used unused front last = bits_of_octets front ++ take (8 - unused) (bits_of_octet last)

module _ (unused : ℕ) (front : List ℕ) (last new : ℕ) (low : unused < 8) (cleared : IsCleared unused last new) where
  used_loose : AreLooseBits (used unused front last) (unused ∷ (front ++ last ∷ []))
  used_loose = record {
    unused = unused;
    octets = front ++ last ∷ [];
    others = drop (8 - unused) (bits_of_octet last);
    are = refl;
    below_eight = low;
    same = bits_last front last ∙ ap (λ l. bits_of_octets front ++ l) (sym (take-append-drop (8 - unused) (bits_of_octet last)))
        ∙ sym (append_assoc (bits_of_octets front) (take (8 - unused) (bits_of_octet last)) (drop (8 - unused) (bits_of_octet last)));
    unused_are = omega (arith, length-drop (8 - unused) (bits_of_octet last), low);
  }

  used_strict : AreBits (used unused front last) (unused ∷ (front ++ new ∷ []))
  used_strict = record {
    unused = unused;
    octets = front ++ new ∷ [];
    are = refl;
    below_eight = low;
    same = bits_last front new ∙ ap (λ l. bits_of_octets front ++ l) cleared
        ∙ sym (append_assoc (bits_of_octets front) (take (8 - unused) (bits_of_octet last)) (replicate unused false));
  }

  pub same_bits : AreSameBits (unused ∷ (front ++ last ∷ [])) (unused ∷ (front ++ new ∷ []))
  same_bits = record { bits = used unused front last; is_loose = used_loose; is_strict = used_strict }

  -- loose bits are these bits
  pub strict_of : (bits : List Bool) → AreLooseBits bits (unused ∷ (front ++ last ∷ [])) → AreBits bits (unused ∷ (front ++ new ∷ []))
  strict_of bits l = subst (λ b. AreBits b (unused ∷ (front ++ new ∷ []))) (sym these) used_strict
    where
      parts : (m n : ℕ) (xs ys : List ℕ) → m ∷ xs ≡ n ∷ ys → (m ≡ n) × (xs ≡ ys)
      parts m n xs ys e = (cc, cc)

      whole : bits ++ l.others ≡ bits_of_octets front ++ bits_of_octet last
      whole = sym l.same ∙ ap bits_of_octets (sym (parts unused l.unused (front ++ last ∷ []) l.octets l.are).1) ∙ bits_last front last

      long : length bits ≡ length (bits_of_octets front) + (8 - unused)
      long = omega (
        arith,
        ap length whole,
        length-append bits l.others,
        length-append (bits_of_octets front) (bits_of_octet last),
        l.unused_are,
        (parts unused l.unused (front ++ last ∷ []) l.octets l.are).0,
        low,
      )

      these : bits ≡ used unused front last
      these = sym (take-append_seam bits l.others) ∙ ap (λ n. take n (bits ++ l.others)) long ∙ ap (λ k. take (length (bits_of_octets front) + (8 - unused)) k) whole
          ∙ take-append-add (bits_of_octets front) (bits_of_octet last) (8 - unused)

-- without an octet there are no bits, and none are unused
pub no_octets_same : AreSameBits (0 ∷ []) (0 ∷ [])
no_octets_same = record {
  bits = [];
  is_loose = record { unused = 0; octets = []; others = []; are = refl; below_eight = omega arith; same = refl; unused_are = refl };
  is_strict = record { unused = 0; octets = []; are = refl; below_eight = omega arith; same = refl };
}

pub no_octets_used : (unused : ℕ) (bits : List Bool) → AreLooseBits bits (unused ∷ []) → (bits ≡ []) × (unused ≡ 0)
no_octets_used unused bits l = (none bits l.others joined, omega (arith, ap length joined, length-append bits l.others, l.unused_are, (parts unused l.unused [] l.octets l.are).0))
  where
    parts : (m n : ℕ) (xs ys : List ℕ) → m ∷ xs ≡ n ∷ ys → (m ≡ n) × (xs ≡ ys)
    parts m n xs ys e = (cc, cc)

    joined : bits ++ l.others ≡ []
    joined = sym l.same ∙ ap bits_of_octets (sym (parts unused l.unused [] l.octets l.are).1)

    none : (xs ys : List Bool) → xs ++ ys ≡ [] → xs ≡ []
    none [] ys e = refl
    none (x ∷ xs) ys e = cc

-- one octet is a truth value
pub truth_of : (octets : List ℕ) → 1 ≤ length octets → length octets < 2 → IsTruthValue (not (nat_eq (slice_index_or octets 0 0) 0)) octets
truth_of [] some few = let none : ⊥ = omega (arith, some) in absurd none
truth_of (zero ∷ []) some few = zero_octet
truth_of (suc n ∷ []) some few = subst (λ b. IsTruthValue (not b) (suc n ∷ [])) (sym (ne_eqb (suc n) 0 (λ e. cc))) (other_octet (suc n) (λ e. cc))
truth_of (o ∷ p ∷ octets) some few = let none : ⊥ = omega (arith, few) in absurd none
