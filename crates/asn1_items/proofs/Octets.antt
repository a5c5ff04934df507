-- Bits are written eight to an octet, and the last octet is filled up with zeros.
use Rattle.std.proofs.Common.{◌≡◌, ℕ, ◌-◌, ◌%◌, ◌≤◌, ◌<◌, Bool, false, List, [], ◌∷◌, ◌++◌, length, get_or, take, drop, length-drop, refl, sym, ap, ◌∙◌, arith, append_assoc, append-nil}
use Rattle.std.proofs.Math.Seq.{take-length}
use Rattle.std.specs.Prelude.{replicate}
use Rattle.asn1_items.specs.Bits.{AreBits, bits_of_octet, bits_of_octets}
use Rattle.asn1_items.specs.Numbers.{Appended}

-- how many bits of the last octet are unused
abbrev pub unused_of : List Bool → ℕ
unused_of bits = (8 - length bits % 8) % 8

-- Some octets were appended, and the other bits are left.
pub record BitsAppended (bits : List Bool) (before bytes : List ℕ) (left : List Bool) : Type 0 where
  pub octets : List ℕ
  pub bytes_are : bytes ≡ before ++ (unused_of bits ∷ octets)
  pub bits_are : bits ≡ bits_of_octets octets ++ left
  pub same_rest : length left % 8 ≡ length bits % 8

pub flat-more : (octets : List ℕ) (o : ℕ) → bits_of_octets (octets ++ o ∷ []) ≡ bits_of_octets octets ++ bits_of_octet o
flat-more [] o = refl
flat-more (x ∷ octets) o = ap (λ l. bits_of_octet x ++ l) (flat-more octets o)

pub no_rest : (bits left : List Bool) (before bytes : List ℕ) → left ≡ [] → BitsAppended bits before bytes left → Appended (AreBits bits) before bytes
no_rest bits left before bytes none m =
    let whole : unused_of bits ≡ 0 = omega (arith, m.same_rest, ap length none) in
    record {
      added = unused_of bits ∷ m.octets;
      is = record {
        unused = unused_of bits;
        octets = m.octets;
        are = refl;
        below_eight = omega arith;
        same = sym (append-nil (bits_of_octets m.octets)) ∙ ap (λ l. bits_of_octets m.octets ++ l) (sym none) ∙ sym m.bits_are ∙ sym (append-nil bits) ∙ ap (λ n. bits ++ replicate n false) (sym whole);
      };
      joined = m.bytes_are;
    }

pub with_rest : (bits left : List Bool) (before bytes all : List ℕ) (o : ℕ) → length left < 8 → 1 ≤ length left → all ≡ bytes ++ o ∷ [] → bits_of_octet o ≡ left ++ replicate (8 - length left) false → BitsAppended bits before bytes left →
    Appended (AreBits bits) before all
with_rest bits left before bytes all o short some all_is is m =
    let unused : 8 - length left ≡ unused_of bits = omega (arith, m.same_rest, short, some) in
    record {
      added = unused_of bits ∷ (m.octets ++ o ∷ []);
      is = record {
        unused = unused_of bits;
        octets = m.octets ++ o ∷ [];
        are = refl;
        below_eight = omega arith;
        same = flat-more m.octets o ∙ ap (λ l. bits_of_octets m.octets ++ l) is ∙ sym (append_assoc (bits_of_octets m.octets) left (replicate (8 - length left) false)) ∙ ap (λ l. l ++ replicate (8 - length left) false) (sym m.bits_are) ∙ ap (λ n. bits ++ replicate n false) unused;
      };
      joined = all_is ∙ ap (λ l. l ++ o ∷ []) m.bytes_are ∙ append_assoc before (unused_of bits ∷ m.octets) (o ∷ []);
    }

pub pad_six : (xs : List Bool) → length xs ≡ 6 → get_or xs 0 false ∷ get_or xs 1 false ∷ get_or xs 2 false ∷ get_or xs 3 false ∷ get_or xs 4 false ∷ get_or xs 5 false ∷ false ∷ false ∷ [] ≡ xs ++ replicate (8 - length xs) false
pad_six (a ∷ b ∷ c ∷ d ∷ e ∷ f ∷ []) long = refl
pad_six _ long = absurd (omega arith)

pub pad_seven : (xs : List Bool) → length xs ≡ 7 → get_or xs 0 false ∷ get_or xs 1 false ∷ get_or xs 2 false ∷ get_or xs 3 false ∷ get_or xs 4 false ∷ get_or xs 5 false ∷ get_or xs 6 false ∷ false ∷ [] ≡ xs ++ replicate (8 - length xs) false
pad_seven (a ∷ b ∷ c ∷ d ∷ e ∷ f ∷ g ∷ []) long = refl
pad_seven _ long = absurd (omega arith)

-- what follows this many elements
pub rest_is : {A : Type 0} (n : ℕ) (xs : List A) → n ≤ length xs → take (length xs - n) (drop n xs) ≡ drop n xs
rest_is n xs long = ap (λ k. take k (drop n xs)) (omega (arith, length-drop n xs)) ∙ take-length (drop n xs)
