use Rattle.std.proofs.Common.{MatchOption, subst}
use Rattle.asn1_certificate_reader.specs.Names.{IsOctetsOf, IsValueOf}
use Rattle.asn1_certificate_reader.proofs.attributes.attribute_of.Goals as goal

pub returns : goal.returns
returns g c =
    let value = c.in_ok-value.value in
    record {
      kind = c.in_ok-kind.ensures;
      value = subst (λ octets. MatchOption c.in_ok-kind.kind.name (IsOctetsOf octets value) (λ name. IsValueOf g.R.Rules.format octets value))
          c.as_bytes.ensures c.in_ok-value.ensures;
    }
