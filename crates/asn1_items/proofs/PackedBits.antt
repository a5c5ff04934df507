-- Bits that lie in octets, as bytes.
use Rattle.std.proofs.Common.{◌≡◌, ◌∙◌, ℕ, ◌+◌, ◌*◌, ◌-◌, ◌%◌, ◌^◌, ◌<◌, Bool, false, List, [], ◌∷◌, ◌++◌, Ok, Err, append_assoc, drop, get_or, length, length-append, refl, sym, ap, arith}
use Rattle.std.proofs.lemmas.List.{length-replicate, take_all}
use Rattle.std.proofs.Math.Seq.{take-append_seam}
use Rattle.std.specs.Prelude.{IfOk, Result, if◌then◌else◌, is_ok, replicate, take}
use Rattle.asn1_items.specs.Bits.{AreBits}
use Rattle.asn1_items.specs.Numbers.{Appended}
use Rattle.asn1_values.proofs.BitOctets.{bits_long}
use Rattle.asn1_values.specs.Bits.{AreOfBits, bits_but, bits_of_octets}

-- octets of bits, behind the number of the unused ones
pub packed : (list : List Bool) (octets : List ℕ) (unused : ℕ) → unused < 8 → (length list + unused) % 8 ≡ 0 →
    bits_of_octets octets ≡ list ++ replicate (length octets * 8 - length list) false → length octets * 8 < length list + 8 → AreBits list (unused ∷ octets)
packed list octets unused few whole are fewest =
    let long : length octets * 8 ≡ length list + (length octets * 8 - length list) =
    sym (bits_long octets) ∙ ap length are ∙ length-append list (replicate (length octets * 8 - length list) false) ∙
    ap (λ n. length list + n) (length-replicate (length octets * 8 - length list) false) in
    let same : length octets * 8 - length list ≡ unused = omega (arith, few, whole, fewest, long) in
    record {
      unused = unused;
      octets = octets;
      are = refl;
      below_eight = few;
      same = are ∙ ap (λ n. list ++ replicate n false) same;
    }

-- bytes to which both were appended, where there was room
pub both_appended : {A E : Type 0} (r : Result A E) (list : List Bool) (before first after octets : List ℕ) (unused : ℕ) → first ≡ before ++ unused ∷ [] → after ≡ (if is_ok r then first ++ octets else first) →
    AreBits list (unused ∷ octets) → IfOk r (λ _. Appended (AreBits list) before after)
both_appended (Ok a) list before first after octets unused one all are =
    record { added = unused ∷ octets; is = are; joined = all ∙ ap (λ l. l ++ octets) one ∙ append_assoc before (unused ∷ []) octets }
both_appended (Err e) list before first after octets unused one all are = tt

-- The octets of bits are those of one list.
pub record AreOne (list : List Bool) (octets : List ℕ) (unused : ℕ) : Type 0 where
  pub are : AreOfBits octets unused
  pub same : bits_but unused octets ≡ list

pub unpacked : (list : List Bool) (octets : List ℕ) (unused : ℕ) → length octets * 8 < 2 ^ 64 → unused < 8 → bits_of_octets octets ≡ list ++ replicate unused false →
    AreOne list octets unused
unpacked list octets unused counted few are =
    let long : length octets * 8 - unused ≡ length list =
    omega (arith, bits_long octets, ap length are, length-append list (replicate unused false), length-replicate unused false) in
    let same : bits_but unused octets ≡ list =
    ap (λ n. take n (bits_of_octets octets)) long ∙ ap (take (length list)) are ∙ take-append_seam list (replicate unused false) in
    record {
      are = record { below_eight = few; zeros = are ∙ ap (λ l. l ++ replicate unused false) (sym same); counted = counted };
      same = same;
    }

no_bits : (list : List Bool) → ¬ AreBits list []
no_bits list a = cc a.are

-- so octets behind the number of the unused bits are
pub not_refused : (list : List Bool) (bytes items : List ℕ) → AreBits list bytes → items ≡ take (length bytes - 1) (drop 1 bytes) → length (take (length bytes - 1) (drop 1 bytes)) < 2 ^ 61 →
    AreOne list items (get_or bytes 0 0)
not_refused list [] items a is low = absurd (no_bits list a)
not_refused list (first ∷ octets) items a is low =
    let unused : a.unused ≡ first = cc a.are in
    let same : a.octets ≡ octets = cc a.are in
    let whole : items ≡ octets = is ∙ take_all (length (first ∷ octets) - 1) octets (omega arith) in
    unpacked list items first (omega (arith, ap length is, low)) (omega (arith, unused, a.below_eight))
    (ap bits_of_octets (whole ∙ sym same) ∙ a.same ∙ ap (λ n. list ++ replicate n false) unused)
