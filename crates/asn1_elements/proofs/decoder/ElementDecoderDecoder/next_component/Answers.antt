use Rattle.asn1_elements.proofs.ReadExactly.{no_marks_taken, on_both}
use Rattle.std.proofs.Common.{◌∷◌}
use Rattle.asn1_laws.proofs.ReadingUpToOrder.{tells_next_tag}
use Rattle.asn1_components.specs.Components.{all_components, rows}
use Rattle.asn1_elements.proofs.PresenceByTag.{next_tag_found}
use Rattle.asn1_elements.specs.Decoder.{in_one_order}
use Rattle.asn1_model.specs.Records.{set}
use Rattle.asn1_elements.proofs.decoder.ElementDecoderDecoder.next_component.Goals as goal

pub returns-clause-read : goal.returns-clause-read
returns-clause-read g c = λ tag n can.
    let cs = all_components g.C.FieldTable.components in
    let h = set tag (rows g.C.FieldTable.components) n in
    let found = c.next_tag.ensures in
    tells_next_tag (in_one_order g.F.ElementForm.form) c.args.self.now c.next_tag.new.self h cs c.next_tag.result
    (λ items rest outer. next_tag_found g.met.F.ElementForm.lawful cs c.args.self.now c.next_tag.new.self items ((h, rest) ∷ outer) c.next_tag.result found.found found.same_bytes found.opens_nothing.keeps_depth.no_failure)

pub returns-clause-only : goal.returns-clause-only
returns-clause-only g c =
    let found = c.next_tag.ensures in
    on_both _ _ _ c.next_tag.result (λ no_failure same. no_marks_taken g.F.ElementForm.form c.args.self.now c.next_tag.new.self no_failure same) found.no_failure found.same_bytes
