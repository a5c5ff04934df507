-- The records without an output.
use Rattle.std.specs.Prelude.{List}
use Rattle.asn1_der_items.specs.Bytes.{SomeHasNoDer}
use Rattle.asn1_model.specs.Orders.{SameRecords}
use Rattle.asn1_model.specs.Records.{Record, held}

-- One of the records, at whatever depth, has no DER, with the elements of sets in some order.
pub record HaveNoDer (rs : List Record) : Type 0 where
  pub exactly : List Record
  pub have_none : SomeHasNoDer (held exactly)
  pub same : SameRecords exactly rs
