-- A record is one element.
use Rattle.std.specs.Prelude.{ℕ, IsTrue, List}
use Rattle.asn1_der_items.specs.Series.{is_one_element, tag_of}
use Rattle.asn1_model.specs.Records.{Record}
use Rattle.asn1_model.specs.Tags.{Has, record_tags}

-- The bytes are one element, whose tag is one with which the record can begin.
pub record IsElementOfRecord (r : Record) (bytes : List ℕ) : Type 0 where
  pub one : IsTrue (is_one_element bytes)
  pub tag : Has (record_tags r) (tag_of bytes)
