-- The tag form: there are no presence marks, and the item that is next tells what is there.
use Rattle.std.specs.Prelude.{List, []}
use Rattle.asn1_items.specs.Items.{HaveBytes, MarkBytes, read_with}
use Rattle.asn1_items.specs.Slices.{left_inside}
use Rattle.asn1_items.specs.declared.slices.Slices.{Slices}
use Rattle.asn1_model.specs.Records.{Record, held}

-- presence marks have no bytes
abbrev pub no_marks : MarkBytes
no_marks m = []

-- the records are left of the innermost list
abbrev pub AreLeft : List Record → Slices → Type 0
AreLeft rs s = HaveBytes (read_with no_marks) (held rs) (left_inside s)
