use Rattle.std.proofs.Common.{◌≡◌, refl, subst, sym, true}
use Rattle.std.specs.Prelude.{IfOk}
use Rattle.asn1_certificate_reader.specs.Parameters.{AreNotOfType}
use Rattle.asn1_certificate_reader.proofs.parameters.are_not_of_type.Goals as goal

pub returns-in-Boolean : goal.returns-in-Boolean
returns-in-Boolean g c =
    subst (λ kind. IfOk c.are_of_no_value.result (λ none. none ≡ true → AreNotOfType g.R.Rules.format kind c.args.octets.now)) (sym c.in-Boolean.is) (c.are_of_no_value.ensures (tt, refl))

pub returns-in-Integer : goal.returns-in-Integer
returns-in-Integer g c =
    subst (λ kind. IfOk c.are_of_no_value-in-Integer.result (λ none. none ≡ true → AreNotOfType g.R.Rules.format kind c.args.octets.now)) (sym c.in-Integer.is) (c.are_of_no_value-in-Integer.ensures (tt, refl))

pub returns-in-BitString : goal.returns-in-BitString
returns-in-BitString g c =
    subst (λ kind. IfOk c.are_of_no_value-in-BitString.result (λ none. none ≡ true → AreNotOfType g.R.Rules.format kind c.args.octets.now)) (sym c.in-BitString.is) (c.are_of_no_value-in-BitString.ensures (tt, refl))

pub returns-in-Null : goal.returns-in-Null
returns-in-Null g c =
    subst (λ kind. IfOk c.are_of_no_value-in-Null.result (λ none. none ≡ true → AreNotOfType g.R.Rules.format kind c.args.octets.now)) (sym c.in-Null.is) (c.are_of_no_value-in-Null.ensures (tt, refl))

pub returns-in-ObjectIdentifier : goal.returns-in-ObjectIdentifier
returns-in-ObjectIdentifier g c =
    subst (λ kind. IfOk c.are_of_no_value-in-ObjectIdentifier.result (λ none. none ≡ true → AreNotOfType g.R.Rules.format kind c.args.octets.now)) (sym c.in-ObjectIdentifier.is) (c.are_of_no_value-in-ObjectIdentifier.ensures (tt, refl))

pub returns-in-BmpString : goal.returns-in-BmpString
returns-in-BmpString g c =
    subst (λ kind. IfOk c.are_of_no_value-in-BmpString.result (λ none. none ≡ true → AreNotOfType g.R.Rules.format kind c.args.octets.now)) (sym c.in-BmpString.is) (c.are_of_no_value-in-BmpString.ensures (tt, refl))

pub returns-in-Enumerated : goal.returns-in-Enumerated
returns-in-Enumerated g c =
    subst (λ kind. IfOk c.are_of_no_value-in-Enumerated.result (λ none. none ≡ true → AreNotOfType g.R.Rules.format kind c.args.octets.now)) (sym c.in-Enumerated.is) (c.are_of_no_value-in-Enumerated.ensures (tt, (refl, refl, refl)))
