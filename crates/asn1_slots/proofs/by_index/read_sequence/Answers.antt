use Rattle.asn1_laws.proofs.ReadingSequences.{opened_sequence}
use Rattle.std.proofs.Common.{Ok}
use Rattle.asn1_slots.proofs.by_index.read_sequence.Goals as goal

pub returns-clause-read : goal.returns-clause-read
returns-clause-read g c =
    let is_open = opened_sequence g.D.Decoder.reader g.S.FieldTable.components c.args.tag c.args.decoder.now _ (Ok tt) c.in_ok-open_sequence.ensures.read c.in_ok-open_sequence.ensures.takes_depth in
    c.finish_sequence.ensures.read c.args.decoder.now _ is_open c.decode_fields_naming_errors-components.ensures.read

pub returns-clause-keeps_depth : goal.returns-clause-keeps_depth
returns-clause-keeps_depth g c =
    let is_open = opened_sequence g.D.Decoder.reader g.S.FieldTable.components c.args.tag c.args.decoder.now _ (Ok tt) c.in_ok-open_sequence.ensures.read c.in_ok-open_sequence.ensures.takes_depth in
    c.finish_sequence.ensures.keeps_depth c.args.decoder.now _ is_open c.decode_fields_naming_errors-components.ensures.same_depth

pub returns-clause-only : goal.returns-clause-only
returns-clause-only g c =
    c.finish_sequence.ensures.only c.args.decoder.now _ c.in_ok-open_sequence.ensures.only c.decode_fields_naming_errors-components.ensures.only
