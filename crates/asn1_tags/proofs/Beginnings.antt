-- The test whether what has a tree can begin with a tag, by what it decides.
use Rattle.std.proofs.Common.{◌≡◌, Bool, true, false, ◌||◌, List, Contains, refl}
use Rattle.asn1_tags.specs.Tags.{has}
use Rattle.asn1_tags.proofs.TagListTests.{Contains-from_has, has-from_Contains}
use Rattle.asn1_tags.specs.declared.tags.Tag.{Tag}

-- if the test finds the tag and no choice of nothing, it is a leaf
pub leaf-from_begins : (wide : Bool) (t : Tag) (ts : List Tag) → (wide || has t ts) ≡ true → wide ≡ false → Contains ts t
leaf-from_begins false t ts found shut = Contains-from_has t ts found
leaf-from_begins true t ts found shut = cc

-- and it finds each leaf
pub begins-from_leaf : (wide : Bool) (t : Tag) (ts : List Tag) → (wide ≡ false → Contains ts t) → (wide || has t ts) ≡ true
begins-from_leaf false t ts is = has-from_Contains t ts (is refl)
begins-from_leaf true t ts is = refl
