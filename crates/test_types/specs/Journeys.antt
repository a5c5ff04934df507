-- Journey ::= SEQUENCE {
--     id INTEGER (0..255), ...,
--     [[ from [0] BOOLEAN OPTIONAL, [[ over [1] BOOLEAN OPTIONAL ]] ]]
-- }
use Rattle.std.specs.Prelude.{ℕ, Bool, true, false, List, [], ◌∷◌, Option, None, Some, codes, pos}
use Rattle.asn1_components.specs.ComponentTypes.{optional, required}
use Rattle.asn1_components.specs.Components.{Components, constructed_type, extensible_sequence, group, sequence}
use Rattle.asn1_model.specs.ConstraintSets.{unconstrained, values_of}
use Rattle.asn1_model.specs.Meaning.{Meaning}
use Rattle.asn1_model.specs.RecordTables.{Row, Table}
use Rattle.asn1_model.specs.Records.{Record, boolean, group_absent, group_end, group_start, holding, in_root, number, presence_mark, present, scalar, sequence as sequence_head}
use Rattle.asn1_model.specs.TaggedTypes.{tagged, untagged}
use Rattle.asn1_model.specs.Tags.{context, universal}
use Rattle.asn1_model.specs.contracts.impls.boolean.BoolAsnType.TheImpl.{ghosts as flag}
use Rattle.asn1_model.specs.contracts.impls.built_in_integers.U8AsnType.TheImpl.{ghosts as octet_number}
use Rattle.asn1_ranges.specs.declared.bounded.Bounded.TheVariants.{Range}
use Rattle.asn1_tags.specs.Trees.{Tree, choice, leaf, more, none}

pub record Stop : Type 0 where
  pub over : Option Bool

pub record Route : Type 0 where
  pub from : Option Bool
  pub stop : Option Stop

pub record Journey : Type 0 where
  pub id : ℕ
  pub route : Option Route

-- [[ over [1] BOOLEAN OPTIONAL ]]
abbrev stop_components : Components Stop
stop_components = sequence (
    optional (codes "over") (λ s. s.over) (tagged (context 1) flag.meaning) ∷ [])

-- [[ from [0] BOOLEAN OPTIONAL, [[ over .. ]] ]]
abbrev route_components : Components Route
route_components = sequence (
    optional (codes "from") (λ r. r.from) (tagged (context 0) flag.meaning) ∷
    group (codes "stop") (λ r. r.stop) stop_components ∷ [])

abbrev pub journey_type : Meaning Journey
journey_type = constructed_type (codes "Journey") (extensible_sequence
    (required (codes "id") (λ j. j.id) (untagged octet_number.meaning) ∷ [])
    (group (codes "route") (λ j. j.route) route_components ∷ []))

-- a component or a group of this name
abbrev needed : List ℕ → Tree → Row
needed name tree = record { name = name; tree = tree; may_be_absent = false }

abbrev at_will : List ℕ → Tree → Row
at_will name tree = record { name = name; tree = tree; may_be_absent = true }

-- a group begins with the tag of any of its components
abbrev stop_tree : Tree
stop_tree = choice (more (leaf (context 1)) none)

abbrev route_tree : Tree
route_tree = choice (more (leaf (context 0)) (more stop_tree none))

-- the table of the inner group
abbrev stop_table : Table Row
stop_table = record {
  root = at_will (codes "over") (leaf (context 1)) ∷ [];
  additions = None;
}

-- the table of the outer group
abbrev route_table : Table Row
route_table = record {
  root =
      at_will (codes "from") (leaf (context 0)) ∷
      at_will (codes "stop") stop_tree ∷ [];
  additions = None;
}

-- the table of the journey
abbrev journey_table : Table Row
journey_table = record {
  root = needed (codes "id") (leaf (universal 2)) ∷ [];
  additions = Some (at_will (codes "route") route_tree ∷ []);
}

-- { id 7, from TRUE }, whose inner group is absent
abbrev pub journey : Journey
journey = record { id = 7; route = Some (record { from = Some true; stop = None }) }

-- its records, beside the tables of the journey and of its groups
abbrev pub journey_records : List Record
journey_records = holding (sequence_head (universal 16) journey_table (Some (codes "Journey"))) (
    scalar (universal 2) (values_of (Range (Some (pos 0)) (Some (pos 255)))) (Some (codes "INTEGER")) (number (pos 7)) ∷
    presence_mark (group_start route_table) ∷
    presence_mark (present in_root (context 0)) ∷
    scalar (context 0) unconstrained (Some (codes "BOOLEAN")) (boolean true) ∷
    presence_mark (group_absent stop_table) ∷
    presence_mark group_end ∷ []) ∷ []
