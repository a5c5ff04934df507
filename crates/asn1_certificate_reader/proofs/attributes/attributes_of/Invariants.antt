use Rattle.std.proofs.Common.{take}
use Rattle.std.specs.List.{AllZip}
use Rattle.asn1_certificate_reader.specs.Names.{IsAttributeOf}
use Rattle.asn1_certificate_reader.proofs.attributes.attributes_of.Given as goal

abbrev pub invariant-loop-attribute : goal.invariant-loop-attribute
invariant-loop-attribute g l =
    AllZip (IsAttributeOf g.R.Rules.format) (take l.attribute-index l.given) l.attributes.items
