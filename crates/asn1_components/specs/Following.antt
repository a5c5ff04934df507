-- The records that follow a component that may be absent.
use Rattle.std.specs.Prelude.{⊤, Bool, true, false, ◌&&◌, List, [], ◌∷◌, ◌++◌}
use Rattle.asn1_tags.specs.Trees.{Tree}
use Rattle.asn1_model.specs.Records.{Record}
use Rattle.asn1_model.specs.Tags.{ShareNone, tree_tags, first_tags}
use Rattle.asn1_fields.specs.FieldViews.{may_be_absent}
use Rattle.asn1_components.specs.ComponentTypes.{ComponentType}

-- the list does not begin with a tag of the tree
abbrev pub BeginsApart : Tree → List Record → Type 0
BeginsApart tree rs = ShareNone (tree_tags tree) (first_tags rs)

-- the premise holds if the answer is yes
abbrev pub When : Bool → Type 0 → Type 0
When true P = P
When false P = ⊤

-- the records of the components, and then what follows these
abbrev pub records_then : {V : Type 0} → List (ComponentType V) → V → List Record → List Record
records_then [] v rest = rest
records_then (c ∷ cs) v rest = c.records v ++ records_then cs v rest

-- each of them may be absent
abbrev pub all_may_be_absent : {V : Type 0} → List (ComponentType V) → Bool
all_may_be_absent [] = true
all_may_be_absent (c ∷ cs) = may_be_absent c.presence && all_may_be_absent cs

-- The records after the components do not begin with a tag of one of those after the last that is always there.
abbrev pub EndsApart : {V : Type 0} → List (ComponentType V) → List Record → Type 0
EndsApart [] rest = ⊤
EndsApart (c ∷ cs) rest = When (may_be_absent c.presence && all_may_be_absent cs) (BeginsApart c.tree rest) × EndsApart cs rest

-- The records after a component that may be absent, whether it is there or not, do not begin with one of its tags.
abbrev pub EachApart : {V : Type 0} → List (ComponentType V) → V → List Record → Type 0
EachApart [] v rest = ⊤
EachApart (c ∷ cs) v rest = When (may_be_absent c.presence) (BeginsApart c.tree (records_then cs v rest)) × EachApart cs v rest

-- the tree shares no tag with one of the components
abbrev pub ApartFromEach : {V : Type 0} → Tree → List (ComponentType V) → Type 0
ApartFromEach tree [] = ⊤
ApartFromEach tree (c ∷ cs) = ShareNone (tree_tags tree) (tree_tags c.tree) × ApartFromEach tree cs

-- no two of the components share a tag
abbrev pub AllApart : {V : Type 0} → List (ComponentType V) → Type 0
AllApart [] = ⊤
AllApart (c ∷ cs) = ApartFromEach c.tree cs × AllApart cs
