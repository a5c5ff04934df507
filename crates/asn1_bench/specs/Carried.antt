-- The records that bytes of items carry.
use Rattle.std.specs.Prelude.{◌≢◌, ℕ, ⊤, List, []}
use Rattle.asn1_buffers.specs.Encoder.{CarriesUpToOrder}
use Rattle.asn1_items.specs.Items.{HaveBytes, MarkBytes, packed_marks, written_with}
use Rattle.asn1_model.specs.Records.{Record, held, presence_mark}

-- The bytes are those of these records, with presence marks of these bytes, and up to the order inside sets.
abbrev pub CarriesWith : MarkBytes → List ℕ → List Record → Type 0
CarriesWith marks bytes rs = CarriesUpToOrder (λ exactly own. HaveBytes (written_with marks) (held exactly) own) bytes rs

-- the packed bytes are those of these records
abbrev pub Carries : List ℕ → List Record → Type 0
Carries bytes rs = CarriesWith packed_marks bytes rs

-- The record has bytes: it is no presence mark, or one that has some.
abbrev pub TakesBytes : MarkBytes → Record → Type 0
TakesBytes marks (presence_mark m) = marks m ≢ []
TakesBytes marks _ = ⊤
