use Rattle.std.proofs.Common.{◌∙◌, ap, chars}
use Rattle.std.proofs.lemmas.Result.{IfOk-weaker}
use Rattle.std.proofs.lemmas.Str.{IsUtf8-string_bytes}
use Rattle.std.specs.Prelude.{string_bytes}
use Rattle.asn1_certificate_reader.proofs.CharactersOfUnits.{characters_made}
use Rattle.asn1_certificate_reader.proofs.characters.utf16_characters.Goals as goal

pub returns : goal.returns
returns c =
    let text = c.in_ok-text.text in
    IfOk-weaker c.text_characters.result _ _
    (λ characters are. characters_made (string_bytes text) _ characters.items (IsUtf8-string_bytes text) c.in_ok-text.ensures (are ∙ ap chars c.as_str.ensures.value))
    c.text_characters.ensures
