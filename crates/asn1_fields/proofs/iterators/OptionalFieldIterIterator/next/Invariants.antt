use Rattle.std.proofs.Common.{◌≡◌, length}
use Rattle.std.specs.Slice.Iter.{iter_rest}
use Rattle.asn1_fields.specs.FieldLists.{optional_left}
use Rattle.asn1_fields.proofs.iterators.OptionalFieldIterIterator.next.Given as goal

-- only fields that are always there are passed over
abbrev pub invariant-loop-field : goal.invariant-loop-field
invariant-loop-field l = optional_left l.initial.self ≡ optional_left l.self

abbrev pub decreases-loop-field : goal.decreases-loop-field
decreases-loop-field l = length (iter_rest l.self.left)
