-- The PrintableStrings in a name with characters outside their alphabet.
use Rattle.std.specs.List.{list_all, slice_get}
use Rattle.std.specs.Prelude.{◌≡◌, ℕ, Bool, Contains, List, MatchOption, None, Option, Some, false, if◌then◌else◌}
use Rattle.asn1_certificate_reader.specs.NameFaults.{AnswersName, value_fault}
use Rattle.asn1_certificate_reader.specs.declared.alphabets.AlphabetFault.{AlphabetFault}
use Rattle.asn1_certificate_reader.specs.declared.name_faults.NameFault.{NameFault}
use Rattle.asn1_certificate_reader.specs.declared.name_faults.Sought.{Sought}
use Rattle.asn1_certificate_reader.specs.declared.name_faults.Sought.TheVariants.{Values, Alphabets}
use Rattle.asn1_certificate_reader.specs.declared.name_faults.ValueFault.{ValueFault}
use Rattle.asn1_certificate_reader.specs.declared.name_faults.ValueFault.TheVariants.{OutsideAlphabet}
use Rattle.asn1_certificate_text.specs.Registry.{NamesObject, known_objects, object_names}
use Rattle.asn1_der_items.specs.Elements.{Element, element_at}
use Rattle.asn1_model.specs.Tags.{universal}
use Rattle.asn1_tags.specs.Tags.{tag_eq}
use Rattle.asn1_values.specs.Alphabets.{is_printable}
use Rattle.asn1_x509.specs.declared.attribute_type_and_value.AttributeTypeAndValue.{AttributeTypeAndValue}
use Rattle.asn1_x509.specs.declared.name.Name.{Name}
use Rattle.asn1_x509.specs.declared.name.Name.TheVariants.{RdnSequence}

-- whether an element is a PrintableString in the form of DER, by its tag
abbrev pub is_printable_string : Element → Bool
is_printable_string e = if e.constructed then false else tag_eq e.tag (universal 19)

-- the fault of an element, if it is a PrintableString with octets that are no characters of its alphabet (X.680, 41.4)
abbrev pub string_fault : Element → Option ValueFault
string_fault e = if is_printable_string e then (if list_all is_printable e.contents then None else Some OutsideAlphabet) else None

-- the same of what may be an element
abbrev pub alphabet_fault_of : Option Element → Option ValueFault
alphabet_fault_of None = None
alphabet_fault_of (Some e) = string_fault e

-- the fault of the octets of a value, if they are such a string
abbrev pub alphabet_fault : List ℕ → Option ValueFault
alphabet_fault octets = alphabet_fault_of (element_at octets)

-- the fault of the octets of a value, if they have one that is sought
abbrev pub fault_sought : Sought → List ℕ → Option ValueFault
fault_sought Values = value_fault
fault_sought Alphabets = alphabet_fault

-- The attribute that has a fault, in the parts of a name.
pub record IsAttributeIn (parts : List (List AttributeTypeAndValue)) (f : NameFault) (attribute : AttributeTypeAndValue) : Type 0 where
  pub part : List AttributeTypeAndValue
  pub part_at : slice_get parts f.part ≡ Some part
  pub at : slice_get part f.attribute ≡ Some attribute

-- the same of a name
abbrev pub IsAttributeAt : Name → NameFault → AttributeTypeAndValue → Type 0
IsAttributeAt (RdnSequence rdns) f attribute = IsAttributeIn rdns.items f attribute

-- The first value of a name that is such a string, and the name that a row of the table has for the kind of its attribute, or none
-- where no row has its arcs.
pub record IsFirstOutside (name : Name) (f : AlphabetFault) : Type 0 where
  pub first : AnswersName alphabet_fault name (Some f.fault)
  pub kind : (a : AttributeTypeAndValue) → IsAttributeAt name f.fault a →
      MatchOption f.kind (¬ Contains known_objects a.type_) (λ kind. NamesObject object_names a.type_ kind.now)

-- the answer for a name: none if and only if the characters of each PrintableString are in its alphabet, and else the first that has
-- another
abbrev pub AnswersAlphabets : Name → Option AlphabetFault → Type 0
AnswersAlphabets name None = AnswersName alphabet_fault name None
AnswersAlphabets name (Some f) = IsFirstOutside name f
