-- A type under the tag, constraints and name that a call is given, by default the type's own.
use Rattle.std.specs.Borrow.{Bor}
use Rattle.std.specs.Option.{option_copied, option_map}
use Rattle.std.specs.Prelude.{Option, refl, unwrap_or}
use Rattle.asn1_bounds.specs.declared.constraints.Constraints.{Constraints}
use Rattle.asn1_tags.specs.Trees.{leaf}
use Rattle.asn1_tags.specs.declared.tags.Tag.{Tag}
use Rattle.asn1_model.specs.Composites.{explicit_tag_records}
use Rattle.asn1_model.specs.ConstraintSets.{ConstraintSet, constraint_set}
use Rattle.asn1_model.specs.Meaning.{Meaning, IsWellTagged, IsWellTaggedUnder}
use Rattle.asn1_model.specs.OneRecord.{scope_is_one}
use Rattle.asn1_model.specs.Readings.{IsReadInside, reads_own_inside}
use Rattle.asn1_model.specs.Records.{Name, explicit_tag}
use Rattle.asn1_model.specs.TaggedTypes.{TaggedType, explicitly_tagged_as}

-- A type under whatever name: a call that writes is given one, and one that reads takes any.
abbrev pub Named : Type 0 → Type 1
Named V = Name → TaggedType V

-- The constraints that a call is given, and the type's own where it is given none.
abbrev pub constraints_or_own : {V : Type 0} → Option (Bor Constraints) → Meaning V → ConstraintSet
constraints_or_own c m = unwrap_or (option_map constraint_set (option_copied c)) m.constraints

-- A type under the tag and the constraints that a call is given.
abbrev pub given : {V : Type 0} → Tag → ConstraintSet → Meaning V → Named V
given t c m n = record {
  tag = t;
  tree = m.tree t;
  records = λ v. m.records v t c n;
  IsReadAs = λ v. m.IsReadAs v t c;
  reads_own = λ v. m.reads_own v t c n;
  IsWellTagged = IsWellTaggedUnder m t;
  IsOfType = m.IsOfType;
  IsValid = m.IsValid;
  one_record = λ can v. m.one_record v t c n can.0 can.1;
  well_formed = λ accepts v. m.well_formed accepts v t c n;
}

-- under a tag, with its own constraints
abbrev pub with_tag : {V : Type 0} → Tag → Meaning V → Named V
with_tag t m = given t m.constraints m

-- under constraints, with its own tag
abbrev pub with_constraints : {V : Type 0} → ConstraintSet → Meaning V → Named V
with_constraints c m = given m.tag c m

-- under its own tag and constraints
abbrev pub as_it_is : {V : Type 0} → Meaning V → Named V
as_it_is m = given m.tag m.constraints m

-- after an explicit tag
abbrev pub after_tag : {V : Type 0} → Tag → Meaning V → Named V
after_tag t m n = explicitly_tagged_as n t m

-- after an explicit tag, under constraints of its own or those that a call is given; of the tag
-- nothing is asked
abbrev pub given_after_tag : {V : Type 0} → Tag → ConstraintSet → Meaning V → Named V
given_after_tag t c m n = record {
  tag = t;
  tree = leaf t;
  records = λ v. explicit_tag_records t n (m.records v m.tag c m.name);
  IsReadAs = IsReadInside (λ v. m.IsReadAs v m.tag c) (explicit_tag t);
  reads_own = reads_own_inside (λ v. m.IsReadAs v m.tag c) (λ v. m.records v m.tag c m.name) (λ v. m.reads_own v m.tag c m.name) (explicit_tag t) n;
  IsWellTagged = IsWellTagged m;
  IsOfType = m.IsOfType;
  IsValid = m.IsValid;
  one_record = λ _ v. scope_is_one t (explicit_tag t n) (m.records v m.tag c m.name) refl;
  well_formed = λ accepts v valid. ((tt, m.well_formed accepts v m.tag c m.name valid), tt);
}
