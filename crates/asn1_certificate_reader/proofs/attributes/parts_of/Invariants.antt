use Rattle.std.proofs.Common.{take}
use Rattle.std.specs.List.{AllZip}
use Rattle.asn1_certificate_reader.specs.Names.{IsPartOf}
use Rattle.asn1_certificate_reader.proofs.attributes.parts_of.Given as goal

abbrev pub invariant-loop-part : goal.invariant-loop-part
invariant-loop-part g l = AllZip (IsPartOf g.R.Rules.format) (take l.part-index l.given) l.parts.items
