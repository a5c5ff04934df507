use Rattle.std.proofs.Common.{reverse, subst, sym}
use Rattle.std.specs.List.{AllZip}
use Rattle.asn1_certificate_reader.specs.Names.{IsPartOf}
use Rattle.asn1_certificate_reader.proofs.OneByOne.{reversed}
use Rattle.asn1_certificate_reader.proofs.attributes.name_of_parts.Goals as goal

pub returns : goal.returns
returns g c =
    subst (AllZip (IsPartOf g.R.Rules.format) (reverse c.args.given.now)) (sym c.reverse.ensures.items)
    (reversed (IsPartOf g.R.Rules.format) c.args.given.now c.in_ok-parts.parts.items c.in_ok-parts.ensures)
