-- The records of a value of each type, written out by hand.
use Rattle.std.specs.Prelude.{ℕ, Bool, true, false, List, [], ◌∷◌, Some, codes}
use Rattle.asn1_model.specs.ConstraintSets.{unconstrained}
use Rattle.asn1_model.specs.RecordTables.{Row, Table}
use Rattle.asn1_model.specs.Records.{Name, Record, arcs, boolean, explicit_tag, holding, scalar, sequence, sequence_of, set_of, units, utf8}
use Rattle.asn1_model.specs.Tags.{context, universal}
use Rattle.asn1_tags.specs.declared.tags.Tag.{Tag}

-- a BOOLEAN by itself
abbrev truth : Bool → Record
truth b = scalar (universal 1) unconstrained (Some (codes "BOOLEAN")) (boolean b)

-- SET OF BOOLEAN: {TRUE, FALSE}
abbrev pub set_of_true_and_false : List Record
set_of_true_and_false =
    holding (set_of (universal 17) unconstrained (Some (codes "SET_OF"))) (
    truth true ∷
    truth false ∷ []) ∷ []

-- SEQUENCE OF BOOLEAN: {TRUE}
abbrev pub sequence_of_true : List Record
sequence_of_true =
    holding (sequence_of (universal 16) unconstrained (Some (codes "SEQUENCE_OF"))) (
    truth true ∷ []) ∷ []

-- the UTF8String "Ann", under a tag and a name
abbrev pub ann_under : Tag → List ℕ → List Record
ann_under t name = scalar t unconstrained (Some name) (units utf8 (codes "Ann")) ∷ []

-- TRUE under an explicit tag, which has this name
abbrev pub explicit_true : Tag → Name → List Record
explicit_true t n = holding (explicit_tag t n) (truth true ∷ []) ∷ []

-- INSTANCE OF, by its table: the name 1.2 of the type, and TRUE under an explicit tag (X.681, annex C)
abbrev pub instance_of_true : Table Row → List Record
instance_of_true table =
    holding (sequence (universal 8) table (Some (codes "SEQUENCE"))) (
    scalar (universal 6) unconstrained (Some (codes "OBJECT_IDENTIFIER")) (arcs (1 ∷ 2 ∷ [])) ∷
    holding (explicit_tag (context 0) (Some (codes "SEQUENCE"))) (truth true ∷ []) ∷ []) ∷ []
