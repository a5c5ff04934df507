-- Sets and wrappers in which the components of each SET have distinct tags.
use Rattle.std.proofs.Common.{List}
use Rattle.asn1_tags.specs.declared.tags.Tag.{Tag}
use Rattle.asn1_model.proofs.DistinctSets.{distinct_elements}
use Rattle.asn1_model.specs.DistinctSets.{SetsAreDistinct}
use Rattle.asn1_model.specs.Meaning.{Meaning, own_records}
use Rattle.asn1_types.specs.Kinds.{explicit_type, implicit_type, set_of_type}

pub sets_distinct : {V W : Type 0} (elements : W → List V) (m : Meaning V) → SetsAreDistinct m → SetsAreDistinct (set_of_type elements m)
sets_distinct elements m own t c n can w =
    ((tt, distinct_elements (own_records m) (own m.tag m.constraints m.name can.1.1) (elements w)), tt)

pub implicit_distinct : {V W : Type 0} (tag : Tag) (content : W → V) (m : Meaning V) → SetsAreDistinct m → SetsAreDistinct (implicit_type tag content m)
implicit_distinct tag content m own t c n can w = own t c n can.1 (content w)

pub explicit_distinct : {V W : Type 0} (tag : Tag) (content : W → V) (m : Meaning V) → SetsAreDistinct m → SetsAreDistinct (explicit_type tag content m)
explicit_distinct tag content m own t c n can w = ((tt, own m.tag m.constraints m.name can.1.1 (content w)), tt)
