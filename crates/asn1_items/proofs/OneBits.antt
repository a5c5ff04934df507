-- Bits are no more than one list of bytes.
use Rattle.std.proofs.Common.{◌≡◌, ◌∙◌, ℕ, ◌+◌, ◌*◌, Bool, false, List, ◌∷◌, ◌++◌, length, length-append, sym, ap, subst, arith}
use Rattle.std.proofs.lemmas.List.{length-replicate}
use Rattle.std.specs.Int.Digits.{AllBelowBase}
use Rattle.std.specs.Prelude.{replicate}
use Rattle.asn1_items.specs.Bits.{AreBits}
use Rattle.asn1_values.proofs.BitOctets.{bits_long}
use Rattle.asn1_values.proofs.OneBits.{same_octets}
use Rattle.asn1_values.specs.Bits.{bits_of_octets}

pub one_bits : (list : List Bool) (own other : List ℕ) → AllBelowBase 256 own → AllBelowBase 256 other → AreBits list own → AreBits list other → own ≡ other
one_bits list own other below more a b =
    a.are ∙ ap (λ n. n ∷ a.octets) unused ∙ ap (λ l. b.unused ∷ l) (same_octets a.octets b.octets (subst (AllBelowBase 256) a.are below).1 (subst (AllBelowBase 256) b.are more).1 (a.same ∙ ap (λ n. list ++ replicate n false) unused ∙ sym b.same)) ∙ sym b.are
  where
    long : (octets : List ℕ) (n : ℕ) → bits_of_octets octets ≡ list ++ replicate n false → length octets * 8 ≡ length list + n
    long octets n same = sym (bits_long octets) ∙ ap length same ∙ length-append list (replicate n false) ∙ ap (λ k. length list + k) (length-replicate n false)

    unused : a.unused ≡ b.unused
    unused = omega (arith, long a.octets a.unused a.same, long b.octets b.unused b.same, a.below_eight, b.below_eight)
