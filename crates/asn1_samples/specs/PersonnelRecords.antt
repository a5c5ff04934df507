-- The records of a Date, and of a PersonnelRecord without children (X.690, annex A).
use Rattle.std.specs.Prelude.{List, [], ◌∷◌, ◌++◌, Some, codes}
use Rattle.asn1_model.specs.Composites.{explicit_tag_records, set_records}
use Rattle.asn1_model.specs.Meaning.{own_records}
use Rattle.asn1_model.specs.Records.{Record}
use Rattle.asn1_types.specs.Words.{absent, application, context, in_root, number, presence_mark, rows, scalar, unconstrained, units, universal, visible}
use Rattle.asn1_samples.specs.contracts.personnel.name.NameAsnType.TheImpl.{ghosts as names}
use Rattle.asn1_samples.specs.contracts.personnel.record.PersonnelRecordFieldTable.TheImpl.{ghosts as personnel}
use Rattle.asn1_samples.specs.declared.personnel.date.Date.{Date}
use Rattle.asn1_samples.specs.declared.personnel.record.PersonnelRecord.{PersonnelRecord}

-- Date ::= [APPLICATION 3] IMPLICIT VisibleString
abbrev pub date_records : Date → List Record
date_records date = scalar (application 3) unconstrained (Some (codes "Date")) (units visible date.0) ∷ []

-- PersonnelRecord ::= [APPLICATION 0] IMPLICIT SET {
--     name Name, title [0] VisibleString, number EmployeeNumber, dateOfHire [1] Date, nameOfSpouse [2] Name,
--     children [3] IMPLICIT SEQUENCE OF ChildInformation DEFAULT {}
-- }
-- A record without children. [0], [1] and [2] are explicit tags.
abbrev pub records_without_children : PersonnelRecord → List Record
records_without_children p = set_records (application 0) (rows personnel.components) (Some (codes "PersonnelRecord")) (
    own_records names.meaning p.name ++
    explicit_tag_records (context 0) (Some (codes "VisibleString")) (scalar (universal 26) unconstrained (Some (codes "VisibleString")) (units visible p.title) ∷ []) ++
    scalar (application 2) unconstrained (Some (codes "INTEGER")) (number p.number) ∷
    explicit_tag_records (context 1) (Some (codes "Date")) (date_records p.date_of_hire) ++
    explicit_tag_records (context 2) (Some (codes "Name")) (own_records names.meaning p.name_of_spouse) ++
    presence_mark (absent in_root (context 3)) ∷ [])
