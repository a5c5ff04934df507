-- Times.
use Rattle.std.specs.Prelude.{ℕ, List, ◌++◌, codes}
use Rattle.std.specs.List.{flat_map}
use Rattle.asn1_certificate_text.specs.Escapes.{visible}
use Rattle.asn1_certificate_text.specs.MomentTexts.{moment_text}
use Rattle.asn1_certificate_text.specs.declared.time.ShownTime.{ShownTime}
use Rattle.asn1_certificate_text.specs.declared.time.ShownTime.TheVariants.{Moment, Text}

-- a moment, or a text that is none
abbrev pub time_text : ShownTime → List ℕ
time_text (Moment m) = moment_text m
time_text (Text characters) = flat_map visible characters.items ++ codes " (no time of RFC 5280)"
