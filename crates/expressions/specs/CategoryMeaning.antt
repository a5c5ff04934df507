-- The meaning of `Category`.
use Rattle.std.specs.Prelude.{◌≡◌, ◌↔◌, [], ℕ, Bool, List, codes, refl}
use Rattle.std.proofs.Common.{◌∙◌, ap}
use Rattle.asn1_circles.specs.Words.{Components, ComponentsAreRead, IsMadeOf, KnotLaws, KnotOf, Meaning, MeansTheSame, ReadAtSome, Record, Tag, both_at_all, context, each_by, elements_at_some, flat_map-map, in_turn_at_some, inner, inside_at_some, is_sequence, itself_at_all, own_records, read_level, same_at_all, same_read, sequence_is_made, sequence_itself, sequence_itself_is_read, sequence_knot, sequence_knot_meaning, sequence_of, type_level, unconstrained, valid_level}
use Rattle.expressions.specs.CategoryLists.{category_of_components, category_of_meaning}
use Rattle.expressions.specs.Validity.{EachIsValid, ValidRecords, ValueMeaning, all_valid, valid_records, written_valid}
use Rattle.expressions.specs.CategoryValidity.{category_of_is_valid}
use Rattle.expressions.specs.declared.category.Category.{Category as Knot, Category-F as Knot-F, out-Category as out-Knot, fold-Category as fold-Knot, fold_out-Category as fold_out-Knot, map-Category as map-Knot}
use Rattle.expressions.specs.declared.category_of.CategoryOf.{CategoryOf}

abbrev pub components : (V : Type 0) → Meaning V → Components (CategoryOf V)
components V m = category_of_components m

-- the value in the box
abbrev pub in_knot : Knot → CategoryOf Knot
in_knot v = (out-Knot v).0.value

-- a value inside another, by its records alone
abbrev already : Meaning ValidRecords
already = written_valid (sequence_itself (codes "Category") is_sequence components)

-- the meaning of the content of a value, by these
abbrev content : CategoryOf ValidRecords → ValueMeaning
content = (sequence_knot (codes "Category") is_sequence components in_knot (λ _. [])).content ValidRecords already

-- the records inside a value, which are well formed
abbrev write : Knot-F ValidRecords → ValidRecords
write f = valid_records (content f.0.value) (λ accepts. category_of_is_valid already (λ a rs. rs.well_formed a) accepts f.0.value)

abbrev pub folded : Knot → ValidRecords
folded = fold-Knot ValidRecords write

abbrev pub inside : Knot → List Record
inside v = (folded v).records

abbrev pub knot : KnotOf Knot CategoryOf
knot = sequence_knot (codes "Category") is_sequence components in_knot inside

-- a value inside another
abbrev pub within : Meaning Knot
within = inner knot

-- a whole value, with these in place of those inside it
abbrev mapped : Knot-F Knot → CategoryOf Knot → CategoryOf ValidRecords
mapped f v = (map-Knot Knot ValidRecords folded (record f { 0 = record f.0 { value = v } })).0.value

-- what is read as a value inside another
within_read : (t : Tag) (v : Knot) → ReadAtSome (λ n. (read_level knot n).IsReadAs v t unconstrained) (within.IsReadAs v t unconstrained)
within_read t v = sequence_itself_is_read (codes "Category") is_sequence components in_knot inside t unconstrained v

category_of_of_type : (v : CategoryOf Knot) → ((n : ℕ) → (category_of_meaning (type_level knot n)).IsOfType v) ↔ (category_of_meaning within).IsOfType v
category_of_of_type v = both_at_all (same_at_all) (both_at_all (each_by (λ n. (type_level knot n).IsOfType) (within.IsOfType) (λ e1. itself_at_all) v.children.items) (same_at_all))

category_of_valid : (accepts : List ℕ → Bool) (v : CategoryOf Knot) → ((n : ℕ) → (category_of_meaning (valid_level knot n)).IsValid accepts v) ↔ (category_of_meaning within).IsValid accepts v
category_of_valid accepts v = both_at_all (same_at_all) (both_at_all (each_by (λ n. (valid_level knot n).IsValid accepts) (within.IsValid accepts) (λ e1. itself_at_all) v.children.items) (same_at_all))

category_of_read_inside : (v : CategoryOf Knot) → ReadAtSome (λ n. ComponentsAreRead (category_of_components (read_level knot n)) v) (ComponentsAreRead (category_of_components within) v)
category_of_read_inside v = in_turn_at_some (same_read) (in_turn_at_some (inside_at_some (sequence_of (context 1) unconstrained) (elements_at_some v.children.items (λ e1. within_read within.tag e1))) (same_read))

same_records : (f : Knot-F Knot) (v : CategoryOf Knot) → (write (map-Knot Knot ValidRecords folded (record f { 0 = record f.0 { value = v } }))).records ≡ (knot.content Knot within v).records
same_records f v0 = rw (flat_map-map (own_records already) folded v0.children.items) refl

pub laws : KnotLaws knot
laws = record {
  of_type = category_of_of_type;
  valid_inside = category_of_valid;
  read_inside = category_of_read_inside;
  records = λ v. ap (λ rs. rs.records) (fold_out-Knot ValidRecords write v) ∙ same_records (out-Knot v) (out-Knot v).0.value;
}

-- The meaning of the type.
abbrev pub meaning : Meaning Knot
meaning = sequence_knot_meaning (codes "Category") is_sequence components in_knot inside laws

unrolled : (v : CategoryOf Knot) → MeansTheSame (knot.content Knot within v) (knot.content Knot meaning v)
unrolled v = record { records = refl; read = λ _. (λ h. h, λ h. h); of_type = (λ h. h, λ h. h); valid = λ _. (λ h. h, λ h. h) }

-- It is the meaning of what a value is made of.
pub is_made : IsMadeOf in_knot meaning (category_of_meaning meaning)
is_made = sequence_is_made (codes "Category") is_sequence components in_knot inside laws refl refl unrolled

-- Each value is valid.
pub each_is_valid : EachIsValid meaning
each_is_valid accepts v n = all_valid knot (λ _ _ _ h. h) (λ a w. (folded w).well_formed a) (λ m. category_of_is_valid m) n accepts v
