-- Nested ::= CHOICE { null NULL, flag BOOLEAN, inner [0] Nested }
use Rattle.std.specs.Prelude.{[], ◌∷◌, codes, refl}
use Rattle.std.proofs.Common.{inl, inr}
use Rattle.asn1_model.specs.Tags.{context}
use Rattle.asn1_model.specs.contracts.impls.null.UnitAsnType.TheImpl.{ghosts as null}
use Rattle.asn1_model.specs.contracts.impls.boolean.BoolAsnType.TheImpl.{ghosts as boolean}
use Rattle.asn1_model.specs.Meaning.{Meaning}
use Rattle.asn1_model.specs.RecordTables.{Row, Table}
use Rattle.asn1_model.specs.TaggedTypes.{tagged, untagged}
use Rattle.asn1_components.specs.Alternatives.{Alternatives, OneOf, MeansTheSame, ValueMeaning, all_of, alternative, closed, chosen_meaning, means_itself, value_meaning}
use Rattle.asn1_components.specs.ChoiceTypes.{alternatives_with_itself, choice_holding_itself, inside_itself, itself_under, table_with_itself}
use Rattle.asn1_nesting.specs.InsideItself.{in_box}
use Rattle.asn1_recursive.specs.declared.nested.Nested.{Nested, Null, Flag, Inner'}

-- the alternatives, beside what a value inside another is to them
abbrev pub nested_alternatives_with : Meaning Nested → Alternatives
nested_alternatives_with itself = closed (
    alternative (codes "null") (untagged null.meaning) ∷
    alternative (codes "flag") (untagged boolean.meaning) ∷
    alternative (codes "inner") (tagged (context 0) (in_box itself)) ∷ [])

abbrev pub nested_table : Table Row
nested_table = table_with_itself (codes "Nested") nested_alternatives_with

-- what the chosen alternative says of each value
abbrev pub nested_means : Nested → ValueMeaning
nested_means (Null nothing) = value_meaning (untagged null.meaning) nothing
nested_means (Flag b) = value_meaning (untagged boolean.meaning) b
nested_means (Inner' place inner) = itself_under (codes "Nested") nested_table (context 0)
    (nested_means inner)

-- a value inside another
abbrev pub inner_nested : Meaning Nested
inner_nested = inside_itself (codes "Nested") nested_table nested_means

abbrev pub nested_alternatives : Alternatives
nested_alternatives = alternatives_with_itself (codes "Nested") nested_alternatives_with nested_means

abbrev pub nested_pick : Nested → OneOf (all_of nested_alternatives)
nested_pick (Null nothing) = inl nothing
nested_pick (Flag b) = inr (inl b)
nested_pick (Inner' place inner) = inr (inr (inl (record { ptr = place.ptr; alloc = place.alloc; value = inner })))

pub nested_agrees : (v : Nested) → MeansTheSame (nested_means v) (chosen_meaning (all_of nested_alternatives) (nested_pick v))
nested_agrees (Null nothing) = means_itself
nested_agrees (Flag b) = means_itself
nested_agrees (Inner' place inner) = record { records = refl; read = λ _. (λ h. h, λ h. h); of_type = (λ h. h, λ h. h); valid = λ _. (λ h. h, λ h. h) }

-- The meaning of a value.
abbrev pub nested_meaning : Meaning Nested
nested_meaning = choice_holding_itself (codes "Nested") nested_alternatives_with nested_means nested_pick nested_agrees
