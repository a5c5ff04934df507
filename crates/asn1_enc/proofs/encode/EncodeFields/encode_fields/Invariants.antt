use Rattle.std.proofs.Common.{take}
use Rattle.asn1_components.specs.ComponentLists.{all_records, EachIsOfType}
use Rattle.asn1_components.specs.Components.{all_components}
use Rattle.asn1_laws.specs.Writing.{Appends}
use Rattle.asn1_enc.proofs.encode.EncodeFields.encode_fields.Given as goal

abbrev pub invariant-loop-index : goal.invariant-loop-index
invariant-loop-index g l =
    let done = take l.index (all_components g.Self.FieldTable.components) in
    Appends g.E.Encoder.writer l.initial.encoder (all_records done l.self) (EachIsOfType done l.self) l.encoder
