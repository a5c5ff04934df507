use Rattle.std.proofs.Common.{take}
use Rattle.std.specs.List.{flat_map}
use Rattle.std.specs.Prelude.{All}
use Rattle.asn1_model.specs.Meaning.{own_records}
use Rattle.asn1_laws.specs.Writing.{Appends}
use Rattle.asn1_enc.proofs.encoder.Encoder.encode_sequence_of.Given as goal

abbrev pub invariant-loop-element : goal.invariant-loop-element
invariant-loop-element g l =
    let done = take l.element-index l.elements in
    Appends g.Self.Encoder.writer l.initial.self (flat_map (own_records g.T.AsnType.meaning) done) (All g.T.AsnType.meaning.IsOfType done) l.self
