use Rattle.std.proofs.Common.{◌≡◌, ◌++◌, take}
use Rattle.std.specs.String.{string_bytes}
use Rattle.asn1_certificate_text.specs.Reports.{extensions_text}
use Rattle.asn1_certificate_text.proofs.report.push_extensions.Given as goal

abbrev pub invariant-loop-extension : goal.invariant-loop-extension
invariant-loop-extension l =
    string_bytes l.text ≡ string_bytes l.initial.text ++ extensions_text (take l.extension-index l.extensions)
