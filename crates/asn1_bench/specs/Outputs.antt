-- The records without an output.
use Rattle.std.specs.Prelude.{List}
use Rattle.asn1_items.specs.Items.{MarkBytes, SomeTooLong, written_with}
use Rattle.asn1_model.specs.Orders.{SameRecords}
use Rattle.asn1_model.specs.Records.{Record, held}

-- Some item of the records, at whatever depth, has 2^32 bytes or more inside, with presence marks of these bytes and the elements
-- of sets in some order.
pub record AreTooLong (marks : MarkBytes) (rs : List Record) : Type 0 where
  pub exactly : List Record
  pub too_long : SomeTooLong (written_with marks) (held exactly)
  pub same : SameRecords exactly rs
