use Rattle.std.proofs.Common.{take}
use Rattle.std.specs.List.{AllZip}
use Rattle.asn1_certificate_reader.specs.Reports.{IsExtensionOf}
use Rattle.asn1_certificate_reader.proofs.extensions.extensions_of.Given as goal

abbrev pub invariant-loop-extension : goal.invariant-loop-extension
invariant-loop-extension g l = AllZip (IsExtensionOf g.R.Rules.format) (take l.extension-index l.extensions) l.shown.items
