use Rattle.std.proofs.Common.{◌≡◌, ◌∙◌, ◌⊎◌, None, Some, ap, inl, inr, refl, subst, sym}
use Rattle.std.proofs.lemmas.Result.{err_from_is_err_and}
use Rattle.asn1_components.specs.Components.{all_components}
use Rattle.asn1_slots.proofs.FilledGroups.{fills_no_part, fills_part}
use Rattle.asn1_slots.proofs.Layouts.{slots_of_type}
use Rattle.asn1_slots.specs.Slots.{AreEmpty}
use Rattle.asn1_slots.proofs.group_in_set.component_of_group.Goals.{in-None, in-Some, in-Some-component_with_tag+in_ok-decode_field, in_default}
use Rattle.asn1_slots.proofs.group_in_set.component_of_group.Goals as goal

pub returns-in_err-decode_field-clause-read : goal.returns-in_err-decode_field-clause-read
returns-in_err-decode_field-clause-read g c =
    let p = err_from_is_err_and c.from_residual.result c.from_residual.ensures.1 in
    let hs = g.G.DecodeSetByIndex.layout in
    let first : (c.args.slot.now ≡ Some c.match-take.slots) ⊎ ((c.args.slot.now ≡ None) × AreEmpty hs c.match-take.slots) = elim c.match-take.branch [
      | in-Some w ↦ inl (sym c.take.ensures.value ∙ w.in-Some.is ∙ ap Some (sym w.slots-is))
      | in-None w ↦ inr (sym c.take.ensures.value ∙ w.in-None.is, subst (AreEmpty hs) (sym w.slots-is) (c.requires.empty_at_first _ w.default-slots.ensures))
    ] in
    rw (p.1, p.2) (fills_part g.D.Decoder.reader (all_components g.G.FieldTable.components) hs (slots_of_type g.G.FieldTable.components hs c.requires.laid_out) c.args.tag
    c.in-Some-component_with_tag.index c.args.decoder.now c.decode_field.new.decoder c.args.slot.now c.take.new.self c.match-take.slots c.decode_field.new.slots _
    c.in-Some-component_with_tag.ensures first c.in_err-decode_field.ensures.read c.in_err-decode_field.ensures.kept tt)

pub returns-clause-read : goal.returns-clause-read
returns-clause-read g c =
    let hs = g.G.DecodeSetByIndex.layout in
    let cs = all_components g.G.FieldTable.components in
    let are = slots_of_type g.G.FieldTable.components hs c.requires.laid_out in
    let first : (c.args.slot.now ≡ Some c.match-take.slots) ⊎ ((c.args.slot.now ≡ None) × AreEmpty hs c.match-take.slots) = elim c.match-take.branch [
      | in-Some w ↦ inl (sym c.take.ensures.value ∙ w.in-Some.is ∙ ap Some (sym w.slots-is))
      | in-None w ↦ inr (sym c.take.ensures.value ∙ w.in-None.is, subst (AreEmpty hs) (sym w.slots-is) (c.requires.empty_at_first _ w.default-slots.ensures))
    ] in
    elim c.match-component_with_tag.branch [
      | in-Some-component_with_tag+in_ok-decode_field w ↦ rw (w.decoder-is, w.slots-is) (fills_part g.D.Decoder.reader cs hs are c.args.tag w.in-Some-component_with_tag.index c.args.decoder.now
          w.decode_field.new.decoder c.args.slot.now _ c.match-take.slots w.decode_field.new.slots _ w.in-Some-component_with_tag.ensures first w.in_ok-decode_field.ensures.read w.in_ok-decode_field.ensures.kept refl)
      | in_default w ↦ rw (w.decoder-is, w.slots-is) (fills_no_part g.D.Decoder.reader cs hs are c.args.tag c.args.decoder.now c.args.decoder.now c.args.slot.now _ c.match-take.slots _ w.in_default.ensures first refl refl)
    ]
