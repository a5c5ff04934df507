-- Why each component of a SET is one record, or absent: for the law of a SET that is read.
use Rattle.std.specs.Prelude.{◌≤◌, List, Option, None, Some}
use Rattle.std.specs.Option.{option_map}
use Rattle.std.proofs.Common.{arith}
use Rattle.asn1_laws.specs.Reading.{records_in}
use Rattle.asn1_model.specs.Composites.{option_records}
use Rattle.asn1_model.specs.Records.{Record, Side}
use Rattle.asn1_tags.specs.declared.tags.Tag.{Tag}

-- one that may be absent
pub optional_is_one : {W : Type 0} (side : Side) (t : Tag) (records : W → List Record) (o : Option W) → ((w : W) → records_in (records w) ≤ 1) →
    records_in (option_records side t (option_map records o)) ≤ 1
optional_is_one side t records None one = omega arith
optional_is_one side t records (Some w) one = one w
