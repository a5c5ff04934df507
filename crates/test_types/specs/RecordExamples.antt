-- The records that the examples of the definitions of records are about.
use Rattle.std.specs.Prelude.{List, [], ◌∷◌, None, Some, codes, ℕ}
use Rattle.asn1_model.specs.Composites.{choice_records}
use Rattle.asn1_model.specs.ConstraintSets.{ConstraintSet, size_of, unconstrained}
use Rattle.asn1_model.specs.RecordTables.{no_table}
use Rattle.asn1_model.specs.Records.{Name, Record, alternative, holding, null, scalar, sequence, set, set_of}
use Rattle.asn1_model.specs.Tags.{universal}
use Rattle.asn1_tags.specs.declared.tags.Tag.{Tag}

-- a SEQUENCE, a SET and a SET OF that hold these records, without a name
abbrev pub sequence_with : List Record → Record
sequence_with rs = holding (sequence (universal 16) no_table None) rs

abbrev pub set_with : List Record → Record
set_with rs = holding (set (universal 17) no_table None) rs

abbrev pub set_of_with : List Record → Record
set_of_with rs = holding (set_of (universal 17) unconstrained None) rs

-- a NULL
abbrev null_record : Record
null_record = scalar (universal 5) unconstrained None null

-- the NULL, chosen in a CHOICE of these constraints and this name
abbrev pub chosen_null : ConstraintSet → List ℕ → Record
chosen_null c name = holding (alternative (universal 5) c no_table (Some name)) (null_record ∷ [])

-- the same CHOICE, whose own constraint is a size of 1 and whose own name is C, as it is written under this tag, with a
-- size of 2 and this name
abbrev pub choice_of_null : Tag → Name → List Record
choice_of_null t n = choice_records (universal 5) no_table (null_record ∷ []) (size_of 1) (Some (codes "C")) t (size_of 2) n
