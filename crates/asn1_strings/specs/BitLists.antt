-- The bits that an iterator has left.
use Rattle.std.specs.Prelude.{Bool, List, drop}
use Rattle.asn1_strings.specs.declared.strings.bit_vec.BitIter.{BitIter}

abbrev pub bits_left : BitIter → List Bool
bits_left it = drop it.index it.bits.now
