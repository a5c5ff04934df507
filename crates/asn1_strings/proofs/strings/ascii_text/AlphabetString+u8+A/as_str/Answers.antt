use Rattle.asn1_strings.proofs.AsciiTexts.{IsOk-from_utf8, IsUtf8-from_alphabet}
use Rattle.asn1_strings.proofs.strings.ascii_text.AlphabetString+u8+A.as_str.Goals as goal

pub unwrap-requires : goal.unwrap-requires
unwrap-requires g c =
    let utf8 = IsUtf8-from_alphabet g.A.Alphabet.allows g.met.A.AsciiAlphabet.is_inside_ascii _ _ c.as_slice.ensures.units c.as_slice.ensures.allowed in
    IsOk-from_utf8 _ _ _ c.from_utf8.result utf8 c.from_utf8.ensures.cases
