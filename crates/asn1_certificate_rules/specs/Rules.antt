-- The rules of DER (X.690) that an element breaks.
use Rattle.std.specs.Prelude.{◌≡◌, ◌⊎◌, ⊤, ℕ, ◌+◌, ◌-◌, false, true, [], ◌∷◌, length}
use Rattle.asn1_certificate_rules.specs.Contents.{EndsWithZero, HasUnusedBit, IsOtherTrue, IsPadded, IsPaddedArc, is_string}
use Rattle.asn1_certificate_rules.specs.Sets.{IsOutOfOrder}
use Rattle.asn1_certificate_rules.specs.Times.{is_generalized_time, is_utc_time}
use Rattle.asn1_certificate_rules.specs.declared.notation.Part.{Part}
use Rattle.asn1_certificate_rules.specs.declared.notation.Part.TheVariants.{Version, ExtensionBody, Authority, KeyUsage}
use Rattle.asn1_certificate_rules.specs.declared.rule.Rule.{Rule}
use Rattle.asn1_certificate_rules.specs.declared.rule.RuleSet.{RuleSet}
use Rattle.asn1_certificate_rules.specs.declared.rule.RuleSet.TheVariants.{All, OfReading}
use Rattle.asn1_certificate_rules.specs.declared.rule.Rule.TheVariants.{PaddedInteger, PaddedArc, OtherTrue, ConstructedString, UnusedBit, TrailingZero, Default, SetOrder, GeneralizedTime, UtcTime}
use Rattle.asn1_der_items.specs.Elements.{Element}
use Rattle.asn1_model.specs.Tags.{context, universal}
use Rattle.asn1_tags.specs.declared.tags.Tag.{Tag}

-- a primitive element of this tag
abbrev pub IsPrimitive : Tag → Element → Type 0
IsPrimitive tag e = (e.tag ≡ tag) × (e.constructed ≡ false)

-- a constructed one
abbrev pub IsConstructed : Tag → Element → Type 0
IsConstructed tag e = (e.tag ≡ tag) × (e.constructed ≡ true)

-- a FALSE
abbrev pub IsFalse : Element → Type 0
IsFalse e = IsPrimitive (universal 1) e × (e.contents ≡ 0 ∷ [])

-- A component at this place that has its DEFAULT value: the version v1, which is 0, under its tag, and FALSE as `critical` of an
-- extension and as `cA` of a BasicConstraints (RFC 5280, 4.1 and 4.2.1.9).
abbrev pub IsDefault : Part → Element → Type 0
IsDefault Version e = IsConstructed (context 0) e × (e.contents ≡ 2 ∷ 1 ∷ 0 ∷ [])
IsDefault (ExtensionBody kind) e = IsFalse e
IsDefault Authority e = IsFalse e
IsDefault _ e = ⊥

-- The element breaks the rule at this position: its own octets from 0 on, of which `header` are before the contents octets.
abbrev pub BreaksRule : Part → ℕ → Element → Rule → ℕ → Type 0
BreaksRule part header e PaddedInteger position =
    (IsPrimitive (universal 2) e ⊎ IsPrimitive (universal 10) e) × IsPadded e.contents × (position ≡ header)
BreaksRule part header e PaddedArc position =
    IsPrimitive (universal 6) e × ((index : ℕ) × IsPaddedArc e.contents index × (position ≡ header + index))
BreaksRule part header e OtherTrue position = IsPrimitive (universal 1) e × IsOtherTrue e.contents × (position ≡ header)
BreaksRule part header e ConstructedString position = (is_string e.tag ≡ true) × (e.constructed ≡ true) × (position ≡ 0)
BreaksRule part header e UnusedBit position =
    IsPrimitive (universal 3) e × HasUnusedBit e.contents × (position ≡ header + (length e.contents - 1))
BreaksRule part header e TrailingZero position =
    (part ≡ KeyUsage) × IsPrimitive (universal 3) e × EndsWithZero e.contents × (position ≡ header + (length e.contents - 1))
BreaksRule part header e Default position = IsDefault part e × (position ≡ 0)
BreaksRule part header e SetOrder position =
    IsConstructed (universal 17) e × ((index : ℕ) × IsOutOfOrder e.contents index × (position ≡ header + index))
BreaksRule part header e GeneralizedTime position =
    IsPrimitive (universal 24) e × (is_generalized_time e.contents ≡ false) × (position ≡ header)
BreaksRule part header e UtcTime position = IsPrimitive (universal 23) e × (is_utc_time e.contents ≡ false) × (position ≡ header)
BreaksRule part header e _ position = ⊥

-- Bytes have to keep the rule so that a value is read. A component with its DEFAULT value (11.5), zeros at the end of named bits
-- (11.2.2) and other forms of times (11.7 and 11.8) are read.
abbrev pub IsOfReading : Rule → Type 0
IsOfReading TrailingZero = ⊥
IsOfReading Default = ⊥
IsOfReading GeneralizedTime = ⊥
IsOfReading UtcTime = ⊥
IsOfReading _ = ⊤

-- The rule is not on the forms of times.
abbrev pub IsOnNoTime : Rule → Type 0
IsOnNoTime GeneralizedTime = ⊥
IsOnNoTime UtcTime = ⊥
IsOnNoTime _ = ⊤

-- the rule is one of these
abbrev pub IsOf : RuleSet → Rule → Type 0
IsOf All rule = ⊤
IsOf OfReading rule = IsOfReading rule

-- The element breaks none of these rules by itself.
abbrev pub ElementKeepsRules : RuleSet → Part → ℕ → Element → Type 0
ElementKeepsRules rules part header e = (rule : Rule) (position : ℕ) → IsOf rules rule → BreaksRule part header e rule position → ⊥

-- The element breaks none of these rules by itself, but for that on components with their DEFAULT value.
abbrev pub BreaksDefaultAlone : RuleSet → Part → ℕ → Element → Type 0
BreaksDefaultAlone rules part header e =
    (rule : Rule) (position : ℕ) → IsOf rules rule → BreaksRule part header e rule position → rule ≡ Default

-- The element breaks no rule on the forms of times by itself.
abbrev pub KeepsTimes : Part → ℕ → Element → Type 0
KeepsTimes part header e = (rule : Rule) (position : ℕ) → BreaksRule part header e rule position → IsOnNoTime rule
