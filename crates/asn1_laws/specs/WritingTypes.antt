-- Calls that write values of a type.
use Rattle.std.specs.Prelude.{◌≡◌, Bool, false, List, [], ◌∷◌, All, Option, IfSome, Result}
use Rattle.std.specs.List.{flat_map}
use Rattle.std.specs.Option.{option_map}
use Rattle.asn1_tags.specs.declared.tags.Tag.{Tag}
use Rattle.asn1_components.specs.Alternatives.{Alternatives, OneOf, all_of, chosen_meaning, table_of}
use Rattle.asn1_components.specs.ChosenTags.{chosen_tag}
use Rattle.asn1_components.specs.ComponentLists.{EachIsOfType}
use Rattle.asn1_components.specs.Components.{Components, Kind, all_components, component_records, head_of_kind, rows}
use Rattle.asn1_model.specs.Composites.{alternative_records, default_records, group_records, option_records}
use Rattle.asn1_model.specs.ConstraintSets.{ConstraintSet}
use Rattle.asn1_model.specs.Meaning.{Meaning, own_records}
use Rattle.asn1_model.specs.Records.{Content, Head, Name, Side, holding, in_root, scalar}
use Rattle.asn1_model.specs.TaggedTypes.{TaggedType}
use Rattle.asn1_laws.specs.Writing.{Writer, Writes}
use Rattle.asn1_laws.specs.declared.encode_error.EncodeError.{EncodeError}

module _ {E : Type 0} (W : Writer E) where
  -- a call that writes a content under a tag, constraints and a name
  abbrev pub WritesContent : {A : Type 0} → Tag → ConstraintSet → Name → Content → (IsOfType : Type 0) →
      E → E → Result A EncodeError → Type 0
  WritesContent t c n content IsOfType old new result = Writes W old (scalar t c n content ∷ []) IsOfType new result

  -- A call that writes the chosen alternative of a CHOICE (X.680, 29), by the tag with which it
  -- begins.
  abbrev pub WritesChoice : {A : Type 0} → ConstraintSet → Name → (alternatives : Alternatives) →
      OneOf (all_of alternatives) → E → E → Result A EncodeError → Type 0
  WritesChoice c n alternatives x old new result =
      Writes W old
      (alternative_records (chosen_tag (all_of alternatives) x) c (table_of alternatives) n
      (chosen_meaning (all_of alternatives) x).records)
      (chosen_meaning (all_of alternatives) x).IsOfType new result

  -- A call that writes what a CHOICE holds: the chosen alternative.
  abbrev pub WritesAlternative : {A : Type 0} → (alternatives : Alternatives) → OneOf (all_of alternatives) → E → E →
      Result A EncodeError → Type 0
  WritesAlternative alternatives x old new result =
      Writes W old (chosen_meaning (all_of alternatives) x).records (chosen_meaning (all_of alternatives) x).IsOfType new result

module _ {E : Type 0} (W : Writer E) {V : Type 0} where
  -- A call that writes the components of a SEQUENCE or a SET (X.680, 25 and 27), under a tag and a
  -- name.
  abbrev pub WritesComponents : {A : Type 0} → Kind → Tag → Name → Components V → V → E → E → Result A EncodeError → Type 0
  WritesComponents kind t n components v old new result =
      Writes W old (holding (head_of_kind kind t (rows components) n) (component_records components v) ∷ [])
      (EachIsOfType (all_components components) v) new result

  -- A call that writes what a SEQUENCE, a SET or a group holds: its components, in the order of
  -- their definition.
  abbrev pub WritesFields : {A : Type 0} → Components V → V → E → E → Result A EncodeError → Type 0
  WritesFields components v old new result =
      Writes W old (component_records components v) (EachIsOfType (all_components components) v) new result

  -- A call that writes a SEQUENCE OF or a SET OF (26 and 28), by its head and its elements.
  abbrev pub WritesElements : {A : Type 0} → Head → Meaning V → List V → E → E → Result A EncodeError → Type 0
  WritesElements head m vs old new result =
      Writes W old (holding head (flat_map (own_records m) vs) ∷ []) (All m.IsOfType vs) new result

  -- A call that writes a group of additions (25.1), which may be absent.
  abbrev pub WritesGroup : {A : Type 0} → Components V → Option V → E → E → Result A EncodeError → Type 0
  WritesGroup components o old new result =
      Writes W old (group_records (rows components) (option_map (component_records components) o))
      (IfSome o (EachIsOfType (all_components components))) new result

  -- a call that writes a value
  abbrev pub WritesValue : {A : Type 0} → TaggedType V → V → E → E → Result A EncodeError → Type 0
  WritesValue type v old new result = Writes W old (type.records v) (type.IsOfType v) new result

  -- A call that writes a component that may be absent, on this side of the extension marker (X.680,
  -- 25.1).
  abbrev pub WritesOptional : {A : Type 0} → Side → TaggedType V → Option V → E → E → Result A EncodeError → Type 0
  WritesOptional side type o old new result =
      Writes W old (option_records side type.tag (option_map type.records o)) (IfSome o type.IsOfType) new result

  -- A call that writes a component with a default (X.680, 25.5), where each value that may be the
  -- default compares with the value alike: it is absent where it equals the default. The codec does
  -- not see a default, so a success tells of another value alone that it is of the type.
  abbrev pub WritesDefault : {A : Type 0} → TaggedType V → (V → Type 0) → (V → V → Bool) → V → E → E → Result A EncodeError → Type 0
  WritesDefault type IsDefault eq v old new result =
      (equal : Bool) → ((default_value : V) → IsDefault default_value → eq v default_value ≡ equal) →
      Writes W old (default_records in_root equal type.tag (type.records v)) (equal ≡ false → type.IsOfType v) new result
