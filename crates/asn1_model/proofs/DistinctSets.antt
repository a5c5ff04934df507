-- Which types have SETs whose components have distinct tags.
use Rattle.std.proofs.Common.{◌≡◌, Bool, true, false, List, [], ◌∷◌, ◌++◌, Option, None, Some}
use Rattle.std.specs.List.{flat_map}
use Rattle.std.specs.Option.{option_map}
use Rattle.asn1_tags.specs.declared.tags.Tag.{Tag}
use Rattle.asn1_model.specs.Composites.{default_records, option_records}
use Rattle.asn1_model.specs.ConstraintSets.{ConstraintSet}
use Rattle.asn1_model.specs.DistinctSets.{AreDistinct, SetsAreDistinct, SetsAreDistinctInside}
use Rattle.asn1_model.specs.Kinds.{list_type, wrapper_type}
use Rattle.asn1_model.specs.Meaning.{Meaning, own_records}
use Rattle.asn1_model.specs.Records.{Name, Record, Side}
use Rattle.asn1_model.specs.TaggedTypes.{explicitly_tagged_as, tagged}

-- two lists of records, one after the other
pub distinct_append : (rs ss : List Record) → AreDistinct rs → AreDistinct ss → AreDistinct (rs ++ ss)
distinct_append [] ss first later = later
distinct_append (r ∷ rs) ss first later = (first.0, distinct_append rs ss first.1 later)

-- the elements of a list
pub distinct_elements : {V : Type 0} (f : V → List Record) → ((v : V) → AreDistinct (f v)) → (vs : List V) → AreDistinct (flat_map f vs)
distinct_elements f each [] = tt
distinct_elements f each (v ∷ vs) = distinct_append (f v) (flat_map f vs) (each v) (distinct_elements f each vs)

-- a component that may be absent, and one with a default
pub distinct_option : {V : Type 0} (side : Side) (t : Tag) (f : V → List Record) → ((v : V) → AreDistinct (f v)) → (o : Option V) → AreDistinct (option_records side t (option_map f o))
distinct_option side t f each None = (tt, tt)
distinct_option side t f each (Some v) = (tt, each v)

pub distinct_default : (side : Side) (t : Tag) (rs : List Record) → AreDistinct rs → (is_default : Bool) → AreDistinct (default_records side is_default t rs)
distinct_default side t rs own true = (tt, tt)
distinct_default side t rs own false = (tt, own)

-- types that wrap another, and lists
pub wrapped_distinct : {V W : Type 0} (target : W → V) (m : Meaning V) → SetsAreDistinct m → SetsAreDistinct (wrapper_type target m)
wrapped_distinct target m own t c n can w = own t c n can (target w)

pub lists_distinct : {V W : Type 0} (elements : W → List V) (constraints : ConstraintSet) (m : Meaning V) → SetsAreDistinct m → SetsAreDistinct (list_type elements constraints m)
lists_distinct elements constraints m own t c n can w =
    ((tt, distinct_elements (own_records m) (own m.tag m.constraints m.name can.1.1) (elements w)), tt)

-- a type under a tag in the place of its own, and after an explicit tag
pub tagged_distinct : {V : Type 0} (t : Tag) (m : Meaning V) → SetsAreDistinct m → SetsAreDistinctInside (tagged t m)
tagged_distinct t m own can w = own t m.constraints m.name can.1 w

pub after_tag_distinct : {V : Type 0} (name : Name) (t : Tag) (m : Meaning V) → SetsAreDistinct m → SetsAreDistinctInside (explicitly_tagged_as name t m)
after_tag_distinct name t m own can w = ((tt, own m.tag m.constraints m.name can.1.1 w), tt)
