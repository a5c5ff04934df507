use Rattle.std.proofs.Common.{◌≡◌, ◌++◌, map}
use Rattle.std.specs.List.{flat_map}
use Rattle.std.specs.Prelude.{All}
use Rattle.std.specs.Slice.Iter.{iter_rest}
use Rattle.asn1_model.specs.Meaning.{own_records}
use Rattle.asn1_laws.specs.Writing.{Appends}
use Rattle.asn1_enc.proofs.encoder.Encoder.encode_set_of.Given as goal

abbrev pub invariant-loop-element : goal.invariant-loop-element
invariant-loop-element g l =
    let given = map (λ r. r.now) l.yielded in
    (given ++ iter_rest l.element-iterator ≡ l.elements) ×
    Appends g.Self.Encoder.writer l.initial.self (flat_map (own_records g.T.AsnType.meaning) given) (All g.T.AsnType.meaning.IsOfType given) l.self
