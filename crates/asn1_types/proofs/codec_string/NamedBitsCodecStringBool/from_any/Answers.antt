use Rattle.std.proofs.Common.{◌≡◌, Bool, List, Option, None, Some, refl, sym, subst}
use Rattle.std.specs.Prelude.{◌↔◌, IfSome, IsSome}
use Rattle.asn1_strings.proofs.TrailingZeros.{nothing_left_out}
use Rattle.asn1_values.specs.Bits.{EndsInOne, without_trailing_zeros}
use Rattle.asn1_types.proofs.codec_string.NamedBitsCodecStringBool.from_any.Goals as goal

as_is : (found : Option (List Bool)) (bits : List Bool) → IsSome found ↔ EndsInOne bits → IfSome found (λ named. named ≡ bits) → IfSome found (λ s. without_trailing_zeros s ≡ s)
as_is None bits some same = tt
as_is (Some named) bits some same = nothing_left_out named (subst EndsInOne (sym same) (some.0 refl))

pub returns-in-PackedBits-clause-read_as_is : goal.returns-in-PackedBits-clause-read_as_is
returns-in-PackedBits-clause-read_as_is c = as_is c.of_bits.result c.in-PackedBits.bits c.of_bits.ensures.some c.of_bits.ensures.same
