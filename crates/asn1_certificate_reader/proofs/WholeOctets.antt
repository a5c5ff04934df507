-- Bits that are whole octets.
use Rattle.std.proofs.Common.{◌≡◌, ◌∙◌, ℕ, ◌+◌, ◌-◌, ◌*◌, ◌<◌, Bool, false, List, ◌++◌, ap, arith, length, length-append, sym}
use Rattle.std.proofs.lemmas.List.{append-nil, length-replicate}
use Rattle.std.specs.Prelude.{◌%◌, replicate}
use Rattle.asn1_values.proofs.BitOctets.{bits_long}
use Rattle.asn1_values.specs.Bits.{bits_of_octets}

-- no bit of the octets is behind them
pub are_whole : (bits : List Bool) (octets : List ℕ) → length bits % 8 ≡ 0 →
    bits_of_octets octets ≡ bits ++ replicate (length octets * 8 - length bits) false → length octets * 8 < length bits + 8 → bits_of_octets octets ≡ bits
are_whole bits octets whole are fewest =
    let long : length octets * 8 ≡ length bits + (length octets * 8 - length bits) =
    sym (bits_long octets) ∙ ap length are ∙ length-append bits (replicate (length octets * 8 - length bits) false) ∙
    ap (λ n. length bits + n) (length-replicate (length octets * 8 - length bits) false) in
    let none : length octets * 8 - length bits ≡ 0 = omega (arith, whole, fewest, long) in
    are ∙ ap (λ n. bits ++ replicate n false) none ∙ append-nil bits
