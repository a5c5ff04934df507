use Rattle.std.proofs.Common.{subst, sym}
use Rattle.std.specs.Prelude.{IfOk}
use Rattle.asn1_certificate_reader.specs.ExtensionValues.{IsValueOfKind}
use Rattle.asn1_certificate_reader.proofs.extensions.value_of.Goals as goal

pub returns-in-KeyIdentifier : goal.returns-in-KeyIdentifier
returns-in-KeyIdentifier g c =
    subst (λ kind. IfOk c.shown_as.result (IsValueOfKind g.R.Rules.format kind c.args.octets.now)) (sym c.in-KeyIdentifier.is) c.shown_as.ensures

pub returns-in-Usages : goal.returns-in-Usages
returns-in-Usages g c =
    subst (λ kind. IfOk c.shown_as-in-Usages.result (IsValueOfKind g.R.Rules.format kind c.args.octets.now)) (sym c.in-Usages.is) c.shown_as-in-Usages.ensures

pub returns-in-Names : goal.returns-in-Names
returns-in-Names g c =
    subst (λ kind. IfOk c.shown_as-in-Names.result (IsValueOfKind g.R.Rules.format kind c.args.octets.now)) (sym c.in-Names.is) c.shown_as-in-Names.ensures

pub returns-in-Authority : goal.returns-in-Authority
returns-in-Authority g c =
    subst (λ kind. IfOk c.shown_as-in-Authority.result (IsValueOfKind g.R.Rules.format kind c.args.octets.now)) (sym c.in-Authority.is) c.shown_as-in-Authority.ensures

pub returns-in-AuthorityKey : goal.returns-in-AuthorityKey
returns-in-AuthorityKey g c =
    subst (λ kind. IfOk c.shown_as-in-AuthorityKey.result (IsValueOfKind g.R.Rules.format kind c.args.octets.now)) (sym c.in-AuthorityKey.is) c.shown_as-in-AuthorityKey.ensures

pub returns-in-Purposes : goal.returns-in-Purposes
returns-in-Purposes g c =
    subst (λ kind. IfOk c.shown_as-in-Purposes.result (IsValueOfKind g.R.Rules.format kind c.args.octets.now)) (sym c.in-Purposes.is) c.shown_as-in-Purposes.ensures
