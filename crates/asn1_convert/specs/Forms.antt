-- The words and the formats of the forms, and the first octets of an input that are one value's.
use Rattle.std.specs.Prelude.{ℕ, List, Vec, codes}
use Rattle.std.specs.declared.alloc.Global.{Global}
use Rattle.asn1_ber.specs.Cuts as ber
use Rattle.asn1_ber.specs.Format.{ber_format}
use Rattle.asn1_bench.specs.Format.{packed_format}
use Rattle.asn1_bench.specs.Fronts as packed
use Rattle.asn1_der.specs.Cuts as der
use Rattle.asn1_der.specs.Format.{der_format}
use Rattle.asn1_rules.specs.Rules.{Format}
use Rattle.asn1_convert.specs.declared.form.CodecForm.{CodecForm}
use Rattle.asn1_convert.specs.declared.form.CodecForm.TheVariants.{Der, Ber, Packed}
use Rattle.asn1_convert.specs.declared.form.OutputForm.{OutputForm}
use Rattle.asn1_convert.specs.declared.form.OutputForm.TheVariants.{Codec, Notation, Json}

-- the words of a command line for the forms
abbrev pub codec_word : CodecForm → List ℕ
codec_word Der = codes "der"
codec_word Ber = codes "ber"
codec_word Packed = codes "packed"

abbrev pub output_word : OutputForm → List ℕ
output_word (Codec form) = codec_word form
output_word Notation = codes "text"
output_word Json = codes "json"

-- which records the octets of a form carry
abbrev pub format_of : CodecForm → Format (Vec ℕ Global)
format_of Der = der_format
format_of Ber = ber_format
format_of Packed = packed_format

-- The octets begin with an element of n octets, in the packed form with an item.
abbrev pub IsFront : CodecForm → List ℕ → ℕ → Type 0
IsFront Der octets n = der.IsCut octets n
IsFront Ber octets n = ber.IsCut octets n
IsFront Packed octets n = packed.IsCut octets n
