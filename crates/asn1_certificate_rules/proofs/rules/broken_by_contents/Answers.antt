use Rattle.std.proofs.Common.{ℕ, Option, None, Some, MatchOption, arith}
use Rattle.std.proofs.lemmas.Grind.{common_steps}
use Rattle.asn1_certificate_rules.specs.Rules.{BreaksDefaultAlone, BreaksRule, KeepsTimes}
use Rattle.asn1_certificate_rules.specs.declared.notation.Part.{Part}
use Rattle.asn1_certificate_rules.specs.declared.rule.Rule.{Rule}
use Rattle.asn1_certificate_rules.specs.declared.rule.RuleSet.{RuleSet}
use Rattle.asn1_der_items.specs.Elements.{Element, element_of}
use Rattle.asn1_certificate_rules.proofs.rules.broken_by_contents.Goals as goal

-- an answer on the forms of times is one on all contents octets where the others were looked at before
after_others : (found : Option Rule) (rules : RuleSet) (part : Part) (header : ℕ) (e : Element) →
    (KeepsTimes part header e → BreaksDefaultAlone rules part header e) →
    MatchOption found (KeepsTimes part header e) (λ rule. BreaksRule part header e rule header) →
    MatchOption found (BreaksDefaultAlone rules part header e) (λ rule. BreaksRule part header e rule header)
after_others None rules part header e others is = others is
after_others (Some rule) rules part header e others is = is

pub returns-in-All-clause-broken : goal.returns-in-All-clause-broken
returns-in-All-clause-broken c = λ part header.
    let e = element_of c.args.element in
    after_others c.broken_by_time.result c.args.rules part header e
    (λ times rule position asked breaks. let form = times rule position breaks in grind (arith, common_steps))
    (c.broken_by_time.ensures part header)
