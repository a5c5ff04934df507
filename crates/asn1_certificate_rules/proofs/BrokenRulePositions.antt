-- The positions of broken rules.
use Rattle.std.proofs.Common.{◌≡◌, ℕ, ◌+◌, ◌≤◌, List, Option, None, Some, arith, false, length, refl, true}
use Rattle.asn1_certificate_rules.proofs.SetOrders.{out_of_order-within}
use Rattle.asn1_certificate_rules.specs.Departures.{Departs, behind, here, in_header, inside}
use Rattle.asn1_certificate_rules.specs.Depths.{header_of}
use Rattle.asn1_certificate_rules.specs.Headers.{BreaksHeader}
use Rattle.asn1_certificate_rules.specs.declared.notation.Part.{Part}
use Rattle.asn1_certificate_rules.specs.Rules.{BreaksRule}
use Rattle.asn1_certificate_rules.specs.declared.rule.Rule.{Rule}
use Rattle.asn1_certificate_rules.specs.declared.rule.Rule.TheVariants as rule
use Rattle.asn1_der_items.proofs.TrailingBytes.{element_at-shorter, parts_fit}
use Rattle.asn1_der_items.specs.Elements.{Element, element_at}

-- no element begins where finding one fails
pub none_found : (bytes : List ℕ) → ((e : Element) → element_at bytes ≡ Some e → false ≡ true) → element_at bytes ≡ None
none_found bytes fails = by (element_at bytes) (λ e at. never (fails e at))
  where
    never : false ≡ true → ⊥
    never same = cc

    by : (o : Option Element) → ((e : Element) → o ≡ Some e → ⊥) → o ≡ None
    by None not = refl
    by (Some e) not = absurd (not e refl)

-- a rule that a header breaks is broken in the bytes
header-within : (bytes : List ℕ) (r : Rule) (position : ℕ) → BreaksHeader bytes r position → position ≤ length bytes
header-within bytes rule.LongIdentifier position breaks = omega (arith, breaks.1)
header-within bytes rule.IndefiniteLength position breaks = omega (arith, breaks.at)
header-within bytes rule.LongLength position breaks = omega (arith, breaks.at)
header-within bytes r position breaks = absurd breaks

-- a rule that an element breaks by itself is broken in its octets
element-within : (part : Part) (header : ℕ) (e : Element) (r : Rule) (position : ℕ) → BreaksRule part header e r position →
    position ≤ header + length e.contents
element-within part header e rule.PaddedInteger position breaks = omega (arith, breaks.2)
element-within part header e rule.PaddedArc position breaks = omega (arith, breaks.1.1.inside, breaks.1.2)
element-within part header e rule.OtherTrue position breaks = omega (arith, breaks.2)
element-within part header e rule.ConstructedString position breaks = omega (arith, breaks.2)
element-within part header e rule.UnusedBit position breaks = omega (arith, breaks.2)
element-within part header e rule.TrailingZero position breaks = omega (arith, breaks.3)
element-within part header e rule.Default position breaks = omega (arith, breaks.1)
element-within part header e rule.SetOrder position breaks = omega (arith, out_of_order-within e.contents breaks.1.0 breaks.1.1, breaks.1.2)
element-within part header e rule.GeneralizedTime position breaks = omega (arith, breaks.2)
element-within part header e rule.UtcTime position breaks = omega (arith, breaks.2)
element-within part header e r position breaks = absurd breaks

-- a departure is in the bytes
pub departs-within : (part : Part) (bytes : List ℕ) (r : Rule) (position : ℕ) → Departs part bytes r position → position ≤ length bytes
departs-within _ _ _ _ (in_header part bytes r position none breaks) = header-within bytes r position breaks
departs-within _ _ _ _ (here part bytes e r position at breaks) =
    omega (arith, element-within part (header_of bytes e) e r position breaks, parts_fit bytes e at)
departs-within _ _ _ _ (behind part bytes e r later at departs) =
    omega (arith, departs-within _ e.rest r later departs, element_at-shorter bytes e at)
departs-within _ _ _ _ (inside part bytes e r later at opened departs) =
    omega (arith, departs-within _ e.contents r later departs, parts_fit bytes e at)
