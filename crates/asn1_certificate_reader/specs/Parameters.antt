-- Parameters of an algorithm that are of no value of the type of their tag (RFC 5280, 4.1.1.2).
use Rattle.std.specs.Prelude.{◌≡◌, ◌==◌, ◌<◌, ◌^◌, ◌%◌, ◌∷◌, [], ⊤, ℕ, ℤ, Bool, List, MatchOption, None, Option, Some, Vec, codes, false, if◌then◌else◌, length, not, true}
use Rattle.std.specs.declared.alloc.Global.{Global}
use Rattle.asn1_certificate_reader.specs.Inside.{AreOfNoValue}
use Rattle.asn1_certificate_reader.specs.Strings.{bit_string}
use Rattle.asn1_certificate_reader.specs.declared.parameters.ParameterType.{ParameterType}
use Rattle.asn1_certificate_reader.specs.declared.parameters.ParameterType.TheVariants.{Boolean, Integer, BitString, Null, ObjectIdentifier, Enumerated, UniversalString, BmpString, Element as OfDer}
use Rattle.asn1_der_items.specs.Elements.{Element, element_at}
use Rattle.asn1_model.specs.ConstraintSets.{unconstrained}
use Rattle.asn1_model.specs.Meaning.{Meaning}
use Rattle.asn1_model.specs.declared.tag.Marker.{Marker}
use Rattle.asn1_model.specs.Kinds.{object_identifier, scalar_type, string_type, unbounded_integer_type, under_own_name, without_constraints}
use Rattle.asn1_model.specs.Records.{bmp, boolean, null, units}
use Rattle.asn1_model.specs.Tags.{universal}
use Rattle.asn1_rules.specs.Rules.{Format}
use Rattle.asn1_tags.specs.Tags.{has, tag_eq}
use Rattle.asn1_tags.specs.declared.classes.Class.{Class}
use Rattle.asn1_tags.specs.declared.classes.Class.TheVariants.{Universal}
use Rattle.asn1_tags.specs.declared.tags.Tag.{Tag}
use Rattle.asn1_types.specs.Kinds.{implicit_type}
use Rattle.asn1_types.specs.declared.implicit.Implicit.{Implicit}
use Rattle.asn1_x509.specs.declared.algorithm_identifier.AlgorithmIdentifier.{AlgorithmIdentifier}

-- the type with this tag, if its contents are checked (X.680, 8.4, table 1)
abbrev pub type_of_tag : Tag → Option ParameterType
type_of_tag tag =
    if tag_eq tag (universal 1) then Some Boolean
    else (if tag_eq tag (universal 2) then Some Integer
    else (if tag_eq tag (universal 3) then Some BitString
    else (if tag_eq tag (universal 5) then Some Null
    else (if tag_eq tag (universal 6) then Some ObjectIdentifier
    else (if tag_eq tag (universal 10) then Some Enumerated
    else (if tag_eq tag (universal 28) then Some UniversalString
    else (if tag_eq tag (universal 30) then Some BmpString
    else None)))))))

-- whether an element of the universal class has the form that DER gives its tag: a SEQUENCE and a SET are constructed (X.690, 8.9 and
-- 8.11), any other is primitive (10.2), and none has the tag of end-of-contents (8.1.5). An EXTERNAL, an EMBEDDED PDV and a CHARACTER
-- STRING are constructed too (8.18, 8.17 and 8.24), but no algorithm has them as parameters.
abbrev pub has_universal_form : Element → Bool
has_universal_form e = if e.constructed then has e.tag (universal 16 ∷ universal 17 ∷ []) else not (has e.tag (universal 0 ∷ universal 16 ∷ universal 17 ∷ []))

-- the same of an element of a class: the tags of the other classes tell no form
abbrev pub has_own_form : Class → Element → Bool
has_own_form Universal e = has_universal_form e
has_own_form _ e = true

-- the type that the first element of octets has to be of, if there is one: an element of DER if it is not in the form that DER gives its
-- tag, or else the type of its tag, if that is one of those
abbrev pub type_of_element : Option Element → Option ParameterType
type_of_element (Some element) = if has_own_form element.tag.class element then type_of_tag element.tag else Some OfDer
type_of_element None = None

-- whether the contents of an element are units of four octets, as those of a UniversalString are
abbrev pub has_whole_units : Option Element → Bool
has_whole_units (Some element) = length element.contents % 4 == 0
has_whole_units None = false

-- an INTEGER under the tag of ENUMERATED, whose contents octets are those of an INTEGER (X.690, 8.4)
abbrev pub enumerated_number : Meaning (Implicit (Marker 10) ℤ)
enumerated_number = implicit_type (universal 10) (λ enumerated. enumerated.value) (under_own_name unbounded_integer_type)

module _ (F : Format (Vec ℕ Global)) where
  -- The octets are of no value of this type. An element that is not in the form of DER is of no value, whatever its contents are.
  abbrev pub AreNotOfType : ParameterType → List ℕ → Type 0
  AreNotOfType Boolean = AreOfNoValue F (without_constraints (scalar_type (universal 1) unconstrained (Some (codes "BOOLEAN")) boolean))
  AreNotOfType Integer = AreOfNoValue F (under_own_name unbounded_integer_type)
  AreNotOfType BitString = AreOfNoValue F bit_string
  AreNotOfType Null = AreOfNoValue F (without_constraints (scalar_type (universal 5) unconstrained (Some (codes "NULL")) (λ (_ : Unit {0}). null)))
  AreNotOfType ObjectIdentifier = AreOfNoValue F object_identifier
  AreNotOfType Enumerated = AreOfNoValue F enumerated_number
  AreNotOfType UniversalString = λ octets. has_whole_units (element_at octets) ≡ false
  AreNotOfType OfDer = λ octets. ⊤
  AreNotOfType BmpString = AreOfNoValue F (string_type (universal 30) (codes "BMPString") (λ unit. unit < 2 ^ 16) (units bmp))

  -- The octets begin with an element that has to be of this type by its tag, and is not.
  pub record AreBad (octets : List ℕ) (bad : ParameterType) : Type 0 where
    pub tag : type_of_element (element_at octets) ≡ Some bad
    pub not_of_type : AreNotOfType bad octets

  -- an algorithm has parameters, which are bad
  abbrev pub HasBadParameters : AlgorithmIdentifier → ParameterType → Type 0
  HasBadParameters algorithm bad = MatchOption algorithm.parameters ⊥ (λ octets. AreBad octets bad)
