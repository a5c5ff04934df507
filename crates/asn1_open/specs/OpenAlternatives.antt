-- Open ::= CHOICE of nine alternatives, each under its own tag, of which the last holds another such value.
use Rattle.std.specs.Prelude.{ℕ, Bool as Truth, List, [], ◌∷◌, IsTrue, codes, refl}
use Rattle.std.specs.String.{string_bytes}
use Rattle.std.proofs.Common.{inl, inr}
use Rattle.asn1_components.specs.Alternatives.{Alternatives, OneOf, MeansTheSame, ValueMeaning, all_of, alternative, chosen_meaning, closed, means_itself, value_meaning}
use Rattle.asn1_components.specs.ChoiceTypes.{alternatives_with_itself, choice_holding_itself, inside_itself, table_with_itself}
use Rattle.asn1_components.specs.Components.{Components, constructed_type_under}
use Rattle.asn1_model.specs.Kinds.{object_identifier, string_type, utf8_string}
use Rattle.asn1_model.specs.Meaning.{Meaning}
use Rattle.asn1_model.specs.Records.{bits, units, octet, visible}
use Rattle.asn1_model.specs.RecordTables.{Row, Table}
use Rattle.asn1_model.specs.TaggedTypes.{untagged}
use Rattle.asn1_model.specs.Tags.{universal}
use Rattle.asn1_model.specs.contracts.impls.boolean.BoolAsnType.TheImpl.{ghosts as boolean}
use Rattle.asn1_model.specs.contracts.impls.integer.IntegerAsnType.TheImpl.{ghosts as integer}
use Rattle.asn1_model.specs.contracts.impls.null.UnitAsnType.TheImpl.{ghosts as null}
use Rattle.asn1_model.specs.declared.tag.Marker.{Marker}
use Rattle.asn1_values.specs.Alphabets.{is_visible}
use Rattle.asn1_values.specs.string_contracts.strings.string_unit.BoolStringUnit.TheImpl.{ghosts as bit}
use Rattle.asn1_values.specs.string_contracts.strings.string_unit.U8StringUnit.TheImpl.{ghosts as byte}
use Rattle.asn1_types.specs.Kinds.{implicit_type, instance_of_components}
use Rattle.asn1_types.specs.declared.implicit.Implicit.{Implicit}
use Rattle.asn1_types.specs.declared.instance_of.InstanceOf.{InstanceOf as Instance}
use Rattle.asn1_nesting.specs.InsideItself.{in_box}
use Rattle.asn1_open.specs.declared.open_value.Open.{Open, BitString, Bool, Integer, Null, ObjectIdentifier, OctetString, UniversalString, VisibleString, InstanceOf'}
use Rattle.std.specs.declared.alloc.Global.{Global}
use Rattle.std.specs.Global.{Box}
use Rattle.std.specs.declared.string.String.{String}

-- what the strings mean
abbrev pub bit_string : Meaning (List Truth)
bit_string = string_type (universal 3) (codes "BIT_STRING") bit.IsInRange bits

abbrev pub octet_string : Meaning (List ℕ)
octet_string = string_type (universal 4) (codes "OCTET_STRING") byte.IsInRange (units octet)

abbrev pub visible_string : Meaning (List ℕ)
visible_string = string_type (universal 26) (codes "VisibleString") (λ unit. IsTrue (is_visible unit)) (units visible)

-- what a UniversalString means: a text under a tag
abbrev pub universal_string : Meaning (Implicit (Marker 28) (String Global))
universal_string = implicit_type (universal 28) (λ implicit. implicit.value) (utf8_string string_bytes)

-- the components of an INSTANCE OF, and what it means, by what the value in it means (X.681, annex C)
abbrev pub components_around : {V : Type 0} → Meaning V → Components (Instance V)
components_around = instance_of_components (λ instance. instance.type_id) (λ instance. instance.value)

abbrev pub instance_type : {V : Type 0} → Meaning V → Meaning (Instance V)
instance_type value = constructed_type_under (components_around value) (universal 8) (codes "SEQUENCE")

-- the names of the alternatives, which are rasn's words for them
abbrev pub open_names : List (List ℕ)
open_names = codes "BitString" ∷ codes "Bool" ∷ codes "Integer" ∷ codes "Null" ∷ codes "ObjectIdentifier" ∷
    codes "OctetString" ∷ codes "UniversalString" ∷ codes "VisibleString" ∷ codes "InstanceOf" ∷ []

-- the alternatives, beside what a value inside another is to them
abbrev pub open_alternatives_with : Meaning Open → Alternatives
open_alternatives_with itself = closed (
    alternative (codes "BitString") (untagged bit_string) ∷
    alternative (codes "Bool") (untagged boolean.meaning) ∷
    alternative (codes "Integer") (untagged integer.meaning) ∷
    alternative (codes "Null") (untagged null.meaning) ∷
    alternative (codes "ObjectIdentifier") (untagged object_identifier) ∷
    alternative (codes "OctetString") (untagged octet_string) ∷
    alternative (codes "UniversalString") (untagged universal_string) ∷
    alternative (codes "VisibleString") (untagged visible_string) ∷
    alternative (codes "InstanceOf") (untagged (in_box (instance_type itself))) ∷ [])

abbrev pub open_table : Table Row
open_table = table_with_itself (codes "Open") open_alternatives_with

-- what an INSTANCE OF around a value says, by what the value says
abbrev pub instance_says : List ℕ → ValueMeaning → ValueMeaning
instance_says type_id said = value_meaning
    (untagged (instance_type (inside_itself {V = Unit} (codes "Open") open_table (λ _. said))))
    (record { type_id = type_id; value = tt })

-- what the chosen alternative says of each value
abbrev pub open_means : Open → ValueMeaning
open_means (BitString string) = value_meaning (untagged bit_string) string
open_means (Bool flag) = value_meaning (untagged boolean.meaning) flag
open_means (Integer number) = value_meaning (untagged integer.meaning) number
open_means Null = value_meaning (untagged null.meaning) tt
open_means (ObjectIdentifier arcs) = value_meaning (untagged object_identifier) arcs
open_means (OctetString string) = value_meaning (untagged octet_string) string
open_means (UniversalString string) = value_meaning (untagged universal_string) string
open_means (VisibleString string) = value_meaning (untagged visible_string) string
open_means (InstanceOf' cell type_id value) = instance_says type_id (open_means value)

-- a value inside another, and an INSTANCE OF around it
abbrev pub inner_open : Meaning Open
inner_open = inside_itself (codes "Open") open_table open_means

abbrev pub inner_instance : Meaning (Box (Instance Open))
inner_instance = in_box (instance_type inner_open)

abbrev pub open_alternatives : Alternatives
open_alternatives = alternatives_with_itself (codes "Open") open_alternatives_with open_means

abbrev pub open_pick : Open → OneOf (all_of open_alternatives)
open_pick (BitString string) = inl string
open_pick (Bool flag) = inr (inl flag)
open_pick (Integer number) = inr (inr (inl number))
open_pick Null = inr (inr (inr (inl tt)))
open_pick (ObjectIdentifier arcs) = inr (inr (inr (inr (inl arcs))))
open_pick (OctetString string) = inr (inr (inr (inr (inr (inl string)))))
open_pick (UniversalString string) = inr (inr (inr (inr (inr (inr (inl string))))))
open_pick (VisibleString string) = inr (inr (inr (inr (inr (inr (inr (inl string)))))))
open_pick (InstanceOf' cell type_id value) = inr (inr (inr (inr (inr (inr (inr (inr (inl (record { ptr = cell.ptr; alloc = cell.alloc; value = record { type_id = type_id; value = value } })))))))))

pub open_agrees : (v : Open) → MeansTheSame (open_means v) (chosen_meaning (all_of open_alternatives) (open_pick v))
open_agrees (BitString string) = means_itself
open_agrees (Bool flag) = means_itself
open_agrees (Integer number) = means_itself
open_agrees Null = means_itself
open_agrees (ObjectIdentifier arcs) = means_itself
open_agrees (OctetString string) = means_itself
open_agrees (UniversalString string) = means_itself
open_agrees (VisibleString string) = means_itself
open_agrees (InstanceOf' cell type_id value) = record { records = refl; read = λ _. (λ h. h, λ h. h); of_type = (λ h. h, λ h. h); valid = λ _. (λ h. h, λ h. h) }

-- The meaning of an `Open`.
abbrev pub open_meaning : Meaning Open
open_meaning = choice_holding_itself (codes "Open") open_alternatives_with open_means open_pick open_agrees

-- The components of an INSTANCE OF around an `Open`.
abbrev pub instance_components : Components (Instance Open)
instance_components = components_around open_meaning
