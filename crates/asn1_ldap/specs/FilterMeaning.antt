-- The meaning of `Filter`.
use Rattle.std.specs.Prelude.{◌≡◌, ◌↔◌, [], ℕ, Bool, List, codes, refl}
use Rattle.std.proofs.Common.{◌∙◌, ap}
use Rattle.asn1_circles.specs.Words.{Alternatives, IsMadeOf, KnotLaws, KnotOf, Meaning, MeansTheSame, OneOf, ReadAtSome, Record, Tag, all_of, choice_itself, choice_itself_is_read, choice_knot, chosen_meaning, context, each_by, elements_at_some, explicit_tag, flat_map-map, inner, inside_at_some, itself_at_all, knot_is_made, knot_meaning, own_records, read_level, same_at_all, same_read, set_of, type_level, unconstrained, valid_level}
use Rattle.asn1_ldap.specs.FilterLists.{filter_of_alternatives, filter_of_pick, filter_of_meaning}
use Rattle.asn1_ldap.specs.Validity.{EachIsValid, ValidRecords, ValueMeaning, all_valid, valid_records, written_valid}
use Rattle.asn1_ldap.specs.FilterValidity.{filter_of_is_valid}
use Rattle.asn1_ldap.specs.declared.filter.Filter.{Filter as Knot, Filter-F as Knot-F, out-Filter as out-Knot, fold-Filter as fold-Knot, fold_out-Filter as fold_out-Knot, map-Filter as map-Knot}
use Rattle.asn1_ldap.specs.declared.filter_of.FilterOf.{FilterOf}
use Rattle.asn1_ldap.specs.declared.filter_of.FilterOf.TheVariants.{And as filter_of-And, Or as filter_of-Or, Not as filter_of-Not, EqualityMatch as filter_of-EqualityMatch, Substrings as filter_of-Substrings, GreaterOrEqual as filter_of-GreaterOrEqual, LessOrEqual as filter_of-LessOrEqual, Present as filter_of-Present, ApproxMatch as filter_of-ApproxMatch, ExtensibleMatch as filter_of-ExtensibleMatch}

abbrev pub alternatives : (V : Type 0) → Meaning V → Alternatives
alternatives V m = filter_of_alternatives m

abbrev pub pick : (V : Type 0) (m : Meaning V) → FilterOf V → OneOf (all_of (alternatives V m))
pick V m v = filter_of_pick m v

-- the value in the box
abbrev pub in_knot : Knot → FilterOf Knot
in_knot v = (out-Knot v).0.value

-- a value inside another, by its records alone
abbrev already : Meaning ValidRecords
already = written_valid (choice_itself (codes "Filter") alternatives pick)

-- the meaning of the content of a value, by these
abbrev content : FilterOf ValidRecords → ValueMeaning
content = (choice_knot (codes "Filter") alternatives pick in_knot (λ _. [])).content ValidRecords already

-- the records inside a value, which are well formed
abbrev write : Knot-F ValidRecords → ValidRecords
write f = valid_records (content f.0.value) (λ accepts. filter_of_is_valid already (λ a rs. rs.well_formed a) accepts f.0.value)

abbrev pub folded : Knot → ValidRecords
folded = fold-Knot ValidRecords write

abbrev pub inside : Knot → List Record
inside v = (folded v).records

abbrev pub knot : KnotOf Knot FilterOf
knot = choice_knot (codes "Filter") alternatives pick in_knot inside

-- a value inside another
abbrev pub within : Meaning Knot
within = inner knot

-- a whole value, with these in place of those inside it
abbrev mapped : Knot-F Knot → FilterOf Knot → FilterOf ValidRecords
mapped f v = (map-Knot Knot ValidRecords folded (record f { 0 = record f.0 { value = v } })).0.value

-- what is read as a value inside another
within_read : (t : Tag) (v : Knot) → ReadAtSome (λ n. (read_level knot n).IsReadAs v t unconstrained) (within.IsReadAs v t unconstrained)
within_read t v = choice_itself_is_read (codes "Filter") alternatives pick in_knot inside t unconstrained v

filter_of_of_type : (v : FilterOf Knot) → ((n : ℕ) → (filter_of_meaning (type_level knot n)).IsOfType v) ↔ (filter_of_meaning within).IsOfType v
filter_of_of_type (filter_of-And v) = each_by (λ n. (type_level knot n).IsOfType) (within.IsOfType) (λ e1. itself_at_all) v
filter_of_of_type (filter_of-Or v) = each_by (λ n. (type_level knot n).IsOfType) (within.IsOfType) (λ e1. itself_at_all) v
filter_of_of_type (filter_of-Not v) = itself_at_all
filter_of_of_type (filter_of-EqualityMatch v) = same_at_all
filter_of_of_type (filter_of-Substrings v) = same_at_all
filter_of_of_type (filter_of-GreaterOrEqual v) = same_at_all
filter_of_of_type (filter_of-LessOrEqual v) = same_at_all
filter_of_of_type (filter_of-Present v) = same_at_all
filter_of_of_type (filter_of-ApproxMatch v) = same_at_all
filter_of_of_type (filter_of-ExtensibleMatch v) = same_at_all

filter_of_valid : (accepts : List ℕ → Bool) (v : FilterOf Knot) → ((n : ℕ) → (filter_of_meaning (valid_level knot n)).IsValid accepts v) ↔ (filter_of_meaning within).IsValid accepts v
filter_of_valid accepts (filter_of-And v) = each_by (λ n. (valid_level knot n).IsValid accepts) (within.IsValid accepts) (λ e1. itself_at_all) v
filter_of_valid accepts (filter_of-Or v) = each_by (λ n. (valid_level knot n).IsValid accepts) (within.IsValid accepts) (λ e1. itself_at_all) v
filter_of_valid accepts (filter_of-Not v) = itself_at_all
filter_of_valid accepts (filter_of-EqualityMatch v) = same_at_all
filter_of_valid accepts (filter_of-Substrings v) = same_at_all
filter_of_valid accepts (filter_of-GreaterOrEqual v) = same_at_all
filter_of_valid accepts (filter_of-LessOrEqual v) = same_at_all
filter_of_valid accepts (filter_of-Present v) = same_at_all
filter_of_valid accepts (filter_of-ApproxMatch v) = same_at_all
filter_of_valid accepts (filter_of-ExtensibleMatch v) = same_at_all

filter_of_read_inside : (v : FilterOf Knot) → ReadAtSome (λ n. (chosen_meaning (all_of (filter_of_alternatives (read_level knot n))) (filter_of_pick (read_level knot n) v)).AreReadAs) (chosen_meaning (all_of (filter_of_alternatives within)) (filter_of_pick within v)).AreReadAs
filter_of_read_inside (filter_of-And v) = inside_at_some (set_of (context 0) unconstrained) (elements_at_some v (λ e1. within_read within.tag e1))
filter_of_read_inside (filter_of-Or v) = inside_at_some (set_of (context 1) unconstrained) (elements_at_some v (λ e1. within_read within.tag e1))
filter_of_read_inside (filter_of-Not v) = inside_at_some (explicit_tag (context 2)) (within_read within.tag v)
filter_of_read_inside (filter_of-EqualityMatch v) = same_read
filter_of_read_inside (filter_of-Substrings v) = same_read
filter_of_read_inside (filter_of-GreaterOrEqual v) = same_read
filter_of_read_inside (filter_of-LessOrEqual v) = same_read
filter_of_read_inside (filter_of-Present v) = same_read
filter_of_read_inside (filter_of-ApproxMatch v) = same_read
filter_of_read_inside (filter_of-ExtensibleMatch v) = same_read

same_records : (f : Knot-F Knot) (v : FilterOf Knot) → (write (map-Knot Knot ValidRecords folded (record f { 0 = record f.0 { value = v } }))).records ≡ (knot.content Knot within v).records
same_records f (filter_of-And v0) = rw (flat_map-map (own_records already) folded v0) refl
same_records f (filter_of-Or v0) = rw (flat_map-map (own_records already) folded v0) refl
same_records f (filter_of-Not v0) = refl
same_records f (filter_of-EqualityMatch v0) = refl
same_records f (filter_of-Substrings v0) = refl
same_records f (filter_of-GreaterOrEqual v0) = refl
same_records f (filter_of-LessOrEqual v0) = refl
same_records f (filter_of-Present v0) = refl
same_records f (filter_of-ApproxMatch v0) = refl
same_records f (filter_of-ExtensibleMatch v0) = refl

pub laws : KnotLaws knot
laws = record {
  of_type = filter_of_of_type;
  valid_inside = filter_of_valid;
  read_inside = filter_of_read_inside;
  records = λ v. ap (λ rs. rs.records) (fold_out-Knot ValidRecords write v) ∙ same_records (out-Knot v) (out-Knot v).0.value;
}

-- The meaning of the type.
abbrev pub meaning : Meaning Knot
meaning = knot_meaning (codes "Filter") alternatives pick in_knot inside laws

unrolled : (v : FilterOf Knot) → MeansTheSame (knot.content Knot within v) (knot.content Knot meaning v)
unrolled (filter_of-And v) = record { records = refl; read = λ _. (λ h. h, λ h. h); of_type = (λ h. h, λ h. h); valid = λ _. (λ h. h, λ h. h) }
unrolled (filter_of-Or v) = record { records = refl; read = λ _. (λ h. h, λ h. h); of_type = (λ h. h, λ h. h); valid = λ _. (λ h. h, λ h. h) }
unrolled (filter_of-Not v) = record { records = refl; read = λ _. (λ h. h, λ h. h); of_type = (λ h. h, λ h. h); valid = λ _. (λ h. h, λ h. h) }
unrolled (filter_of-EqualityMatch v) = record { records = refl; read = λ _. (λ h. h, λ h. h); of_type = (λ h. h, λ h. h); valid = λ _. (λ h. h, λ h. h) }
unrolled (filter_of-Substrings v) = record { records = refl; read = λ _. (λ h. h, λ h. h); of_type = (λ h. h, λ h. h); valid = λ _. (λ h. h, λ h. h) }
unrolled (filter_of-GreaterOrEqual v) = record { records = refl; read = λ _. (λ h. h, λ h. h); of_type = (λ h. h, λ h. h); valid = λ _. (λ h. h, λ h. h) }
unrolled (filter_of-LessOrEqual v) = record { records = refl; read = λ _. (λ h. h, λ h. h); of_type = (λ h. h, λ h. h); valid = λ _. (λ h. h, λ h. h) }
unrolled (filter_of-Present v) = record { records = refl; read = λ _. (λ h. h, λ h. h); of_type = (λ h. h, λ h. h); valid = λ _. (λ h. h, λ h. h) }
unrolled (filter_of-ApproxMatch v) = record { records = refl; read = λ _. (λ h. h, λ h. h); of_type = (λ h. h, λ h. h); valid = λ _. (λ h. h, λ h. h) }
unrolled (filter_of-ExtensibleMatch v) = record { records = refl; read = λ _. (λ h. h, λ h. h); of_type = (λ h. h, λ h. h); valid = λ _. (λ h. h, λ h. h) }

-- It is the meaning of what a value is made of.
pub is_made : IsMadeOf in_knot meaning (filter_of_meaning meaning)
is_made = knot_is_made (codes "Filter") alternatives pick in_knot inside laws refl unrolled

-- Each value is valid.
pub each_is_valid : EachIsValid meaning
each_is_valid accepts v n = all_valid knot (λ _ _ _ h. h) (λ a w. (folded w).well_formed a) (λ m. filter_of_is_valid m) n accepts v
