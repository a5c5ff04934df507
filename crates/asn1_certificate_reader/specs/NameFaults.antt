-- The first fault of a value in a name, and the values that no name can have, by their octets in DER.
use Rattle.std.specs.Prelude.{◌≡◌, ℕ, Bool, false, true, Option, None, Some, List, [], ◌∷◌, All, nat_lt, take, if◌then◌else◌}
use Rattle.std.specs.List.{slice_get}
use Rattle.std.specs.Str.{is_utf8}
use Rattle.asn1_certificate_reader.specs.Units.{are_bmp_characters}
use Rattle.asn1_certificate_reader.specs.declared.name_faults.NameFault.{NameFault}
use Rattle.asn1_certificate_reader.specs.declared.name_faults.ValueFault.{ValueFault}
use Rattle.asn1_certificate_reader.specs.declared.name_faults.ValueFault.TheVariants.{NoString, BadString}
use Rattle.asn1_contents.specs.UniversalStrings.{is_universal_string}
use Rattle.asn1_der_items.specs.Elements.{Element, element_at}
use Rattle.asn1_model.specs.Tags.{universal}
use Rattle.asn1_tags.specs.Tags.{has, tag_eq}
use Rattle.asn1_tags.specs.declared.tags.Tag.{Tag}
use Rattle.asn1_x509.specs.declared.attribute_type_and_value.AttributeTypeAndValue.{AttributeTypeAndValue}
use Rattle.asn1_x509.specs.declared.name.Name.{Name}
use Rattle.asn1_x509.specs.declared.name.Name.TheVariants.{RdnSequence}

-- The tags of the primitive values that a name can have: BIT STRING, which a unique identifier is, UTF8String, NumericString,
-- PrintableString, TeletexString, IA5String, UniversalString and BMPString (X.680, 8.4, table 1).
abbrev pub primitive_tags : List Tag
primitive_tags = universal 3 ∷ universal 12 ∷ universal 18 ∷ universal 19 ∷ universal 20 ∷ universal 22 ∷ universal 28 ∷ universal 30 ∷ []

-- whether a name can have an element with this tag: one of these, or a SEQUENCE, which a postal address is
abbrev pub has_tag_of_name : Element → Bool
has_tag_of_name e = if e.constructed then tag_eq e.tag (universal 16) else has e.tag primitive_tags

-- whether the contents of a BIT STRING count no more than seven unused bits (X.690, 8.6.2.2)
abbrev pub counts_unused_bits : List ℕ → Bool
counts_unused_bits [] = false
counts_unused_bits (unused ∷ octets) = nat_lt unused 8

-- whether the contents are valid for the tag: those of a BIT STRING count its unused bits, those of a UTF8String are UTF-8, and those of
-- a UniversalString and a BMPString are the numbers of characters
abbrev pub has_contents_of_tag : Element → Bool
has_contents_of_tag e =
    if tag_eq e.tag (universal 3) then counts_unused_bits e.contents
    else (if tag_eq e.tag (universal 12) then is_utf8 e.contents
    else (if tag_eq e.tag (universal 28) then is_universal_string e.contents
    else (if tag_eq e.tag (universal 30) then are_bmp_characters e.contents else true)))

-- why an element is no value of a name, if it is none
abbrev pub element_fault : Element → Option ValueFault
element_fault e = if has_tag_of_name e then (if has_contents_of_tag e then None else Some BadString) else Some NoString

-- the same of what may be an element
abbrev pub fault_of : Option Element → Option ValueFault
fault_of None = Some NoString
fault_of (Some e) = element_fault e

-- why the octets of a value are none of a name, if they are none
abbrev pub value_fault : List ℕ → Option ValueFault
value_fault octets = fault_of (element_at octets)

module _ (fault_in : List ℕ → Option ValueFault) where
  -- the value of this attribute has no such fault
  abbrev pub HasNoFault : AttributeTypeAndValue → Type 0
  HasNoFault a = fault_in a.value ≡ None

  -- The first of these attributes whose value has such a fault is at this index, with this fault.
  pub record IsFirstInPart (attributes : List AttributeTypeAndValue) (index : ℕ) (fault : ValueFault) : Type 0 where
    pub before : All HasNoFault (take index attributes)
    pub attribute : AttributeTypeAndValue
    pub at : slice_get attributes index ≡ Some attribute
    pub is_at_fault : fault_in attribute.value ≡ Some fault

  -- The first of these parts with such an attribute is at the index of the fault, and the attribute is the first in it.
  pub record IsFirstFault (parts : List (List AttributeTypeAndValue)) (f : NameFault) : Type 0 where
    pub before : All (All HasNoFault) (take f.part parts)
    pub part : List AttributeTypeAndValue
    pub at : slice_get parts f.part ≡ Some part
    pub first : IsFirstInPart part f.attribute f.fault

  -- the answer for the attributes of a part: none if no value has such a fault, and else the first that has
  abbrev pub AnswersPart : List AttributeTypeAndValue → Option (ℕ × ValueFault) → Type 0
  AnswersPart attributes None = All HasNoFault attributes
  AnswersPart attributes (Some found) = IsFirstInPart attributes found.0 found.1

  -- the answer for the parts of a name: none if and only if no value has such a fault, and else the first that has
  abbrev pub AnswersParts : List (List AttributeTypeAndValue) → Option NameFault → Type 0
  AnswersParts parts None = All (All HasNoFault) parts
  AnswersParts parts (Some f) = IsFirstFault parts f

  -- the same for a name
  abbrev pub AnswersName : Name → Option NameFault → Type 0
  AnswersName (RdnSequence rdns) answer = AnswersParts rdns.items answer
