use Rattle.std.proofs.Common.{◌∷◌, Ok, Err, Some, None}
use Rattle.asn1_laws.proofs.ReadingUpToOrder.{tells_next_tag}
use Rattle.asn1_components.specs.Components.{all_components, rows}
use Rattle.asn1_model.specs.Records.{set}
use Rattle.asn1_bench.proofs.NextTags.{next_found, next_header, none_found}
use Rattle.asn1_bench.specs.Decoder.{in_one_order}
use Rattle.asn1_bench.proofs.ReadItems.{marks_taken}
use Rattle.asn1_bench.proofs.decoder.ItemDecoderDecoder.next_component.Goals as goal

pub returns-then-is_at_end-clause-read : goal.returns-then-is_at_end-clause-read
returns-then-is_at_end-clause-read g c = λ tag n can.
    let marks = g.P.Presence.mark_bytes in
    let cs = all_components g.C.FieldTable.components in
    let h = set tag (rows g.C.FieldTable.components) n in
    tells_next_tag (in_one_order marks) c.args.self.now _ h cs (Ok None)
    (λ items rest outer at.
    none_found cs marks c.args.self.now _ c.skip_marks.ensures.keeps_outside c.if-state.false items ((h, rest) ∷ outer) (c.skip_marks.ensures.passed items at.inside) at (c.is_at_end.ensures.at_end.0 c.if-is_at_end.true))

pub returns-in-Ok-clause-read : goal.returns-in-Ok-clause-read
returns-in-Ok-clause-read g c = λ tag n can.
    let marks = g.P.Presence.mark_bytes in
    let cs = all_components g.C.FieldTable.components in
    let h = set tag (rows g.C.FieldTable.components) n in
    tells_next_tag (in_one_order marks) c.args.self.now _ h cs (Ok (Some c.in-Ok.header.tag))
    (λ items rest outer at.
    next_found cs marks c.args.self.now _ c.skip_marks.ensures.keeps_outside c.if-state.false items ((h, rest) ∷ outer) (c.skip_marks.ensures.passed items at.inside) at c.in-Ok.header.tag
    (λ none. let wrong = c.is_at_end.ensures.at_end.1 none in cc) (λ h e. (c.in-Ok.ensures.found h e).tag))

pub returns-in-Err-clause-read : goal.returns-in-Err-clause-read
returns-in-Err-clause-read g c = λ tag n can.
    let marks = g.P.Presence.mark_bytes in
    let cs = all_components g.C.FieldTable.components in
    let h = set tag (rows g.C.FieldTable.components) n in
    tells_next_tag (in_one_order marks) c.args.self.now c.args.self.now h cs (Err c.fail_with.result)
    (λ items rest outer at.
    let next = next_header marks _ items (λ none. let wrong = c.is_at_end.ensures.at_end.1 none in cc) (c.skip_marks.ensures.passed items at.inside) in
    absurd (c.in-Err.ensures.found next.header next.at))

pub returns-then-is_at_end-clause-only : goal.returns-then-is_at_end-clause-only
returns-then-is_at_end-clause-only g c = marks_taken g.P.Presence.mark_bytes c.args.self.now _ c.if-state.false c.skip_marks.ensures.keeps_outside c.skip_marks.ensures.only

pub returns-in-Ok-clause-only : goal.returns-in-Ok-clause-only
returns-in-Ok-clause-only g c = marks_taken g.P.Presence.mark_bytes c.args.self.now _ c.if-state.false c.skip_marks.ensures.keeps_outside c.skip_marks.ensures.only
