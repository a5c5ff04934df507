use Rattle.std.proofs.Common.{take}
use Rattle.asn1_certificate_reader.specs.GeneralNames.{AreGeneralNamesOf}
use Rattle.asn1_certificate_reader.proofs.general_names.general_names_of.Given as goal

abbrev pub invariant-loop-name : goal.invariant-loop-name
invariant-loop-name g l = AreGeneralNamesOf g.R.Rules.format (take l.name-index l.names) l.shown.items
