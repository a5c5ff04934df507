use Rattle.std.proofs.Common.{◌∙◌, subst}
use Rattle.std.specs.List.{AllZip}
use Rattle.asn1_certificate_reader.specs.Names.{IsAttributeOf}
use Rattle.asn1_certificate_reader.proofs.attributes.part_of.Goals as goal

pub returns : goal.returns
returns g c =
    subst (λ given. AllZip (IsAttributeOf g.R.Rules.format) given c.in_ok-attributes_of.field-0.items)
    (c.as_slice.ensures.value ∙ c.iter.ensures.rest) c.in_ok-attributes_of.ensures
