-- What the notation of a certificate has at a place (RFC 5280, 4.1 and 4.2).
use Rattle.std.specs.Prelude.{ℕ, Bool, ◌||◌, List, [], ◌∷◌, if◌then◌else◌, ◌==◌}
use Rattle.asn1_certificate_rules.specs.declared.notation.ExtensionKind.{ExtensionKind}
use Rattle.asn1_certificate_rules.specs.declared.notation.ExtensionKind.TheVariants as kind
use Rattle.asn1_certificate_rules.specs.declared.notation.Part.{Part}
use Rattle.asn1_certificate_rules.specs.declared.notation.Part.TheVariants.{Certificate, Signed, Version, Component, Extensions, Extension, ExtensionId, ExtensionBody, BasicConstraints, Authority, KeyUsage, Other}
use Rattle.asn1_der_items.specs.Elements.{Element}
use Rattle.asn1_model.specs.Tags.{context, universal}
use Rattle.asn1_tags.specs.Tags.{tag_eq}

-- the kind of an extension by the last arc of its object identifier
abbrev pub kind_by_last_arc : ℕ → ExtensionKind
kind_by_last_arc c = if c == 15 then kind.KeyUsage else (if c == 19 then kind.BasicConstraints else kind.Other)

-- the kind of the extension whose object identifier has these contents octets: 2.5.29.15 and 2.5.29.19
abbrev pub kind_of : List ℕ → ExtensionKind
kind_of (a ∷ b ∷ c ∷ []) = if a == 85 then (if b == 29 then kind_by_last_arc c else kind.Other) else kind.Other
kind_of _ = kind.Other

-- Whether there are elements inside an element at this place: in a constructed one, and in the octets of the value of an extension,
-- which are DER (RFC 5280, 4.2).
abbrev pub opens : Part → Element → Bool
opens (ExtensionBody kind) e = e.constructed || tag_eq e.tag (universal 4)
opens _ e = e.constructed

-- the part of the first element inside an element at this place
abbrev pub part_inside : Part → Element → Part
part_inside Certificate e = Signed
part_inside Signed e = Version
part_inside Component e = if tag_eq e.tag (context 3) then Extensions else Other
part_inside Extensions e = Extension
part_inside Extension e = ExtensionId
part_inside (ExtensionBody kind.BasicConstraints) e = BasicConstraints
part_inside (ExtensionBody kind.KeyUsage) e = KeyUsage
part_inside BasicConstraints e = Authority
part_inside _ e = Other

-- the part of the element behind an element at this place
abbrev pub part_behind : Part → Element → Part
part_behind Version e = Component
part_behind Component e = Component
part_behind Extension e = Extension
part_behind ExtensionId e = ExtensionBody (kind_of e.contents)
part_behind (ExtensionBody kind) e = ExtensionBody kind
part_behind _ e = Other
