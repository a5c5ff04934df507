-- The elements left to a decoder: presence marks have no bytes, and a record is not the end.
use Rattle.std.proofs.Common.{◌≡◌, ◌∙◌, ◌≤◌, ℕ, false, List, [], ◌∷◌, ◌++◌, length, sym, ap, subst, arith}
use Rattle.asn1_laws.proofs.RemainingRecords.{same_as_record}
use Rattle.asn1_laws.specs.Reading.{Outside}
use Rattle.asn1_der_items.proofs.OneElement.{one}
use Rattle.asn1_der_items.proofs.RecordElements.{HasElement}
use Rattle.asn1_der_items.specs.Elements.{Element}
use Rattle.asn1_der_items.specs.RecordElements.{IsElementOfRecord}
use Rattle.asn1_der_items.specs.Series.{IsAlone, tag_found}
use Rattle.asn1_der_items.specs.declared.content_order.ContentOrder.{ContentOrder}
use Rattle.asn1_elements.specs.Decoder.{Remains}
use Rattle.asn1_elements.specs.ElementForms.{IsElementForm}
use Rattle.asn1_elements.specs.declared.decoder.ElementDecoder.{ElementDecoder}
use Rattle.asn1_items.specs.Slices.{left_inside, left_outside}
use Rattle.asn1_model.proofs.SameRecords.{same-mark}
use Rattle.asn1_model.specs.Records.{PresenceMark, Record, is_presence_mark, presence_mark}
use Rattle.asn1_model.specs.Tags.{Has, record_tags}
use Rattle.asn1_items.proofs.DecodeStates.{nothing_is_left, some_left}
use Rattle.asn1_items.specs.DecodeStates.{AllHave, IsReadForm, ReadForm, RemainsExactly, lists_outside}
use Rattle.asn1_items.specs.declared.decode_state.DecodeState.{DecodeState}

-- the element of a record
pub element_of_record : (r : Record) (own : List ℕ) → IsElementOfRecord r own → HasElement r own
element_of_record r own is =
    let o = one own is.one in
    record { element = o.element; alone = o.alone; has = subst (Has (record_tags r)) (ap tag_found o.alone.at) is.tag }

-- so its bytes are not nothing
alone_long : (e : Element) (own : List ℕ) → IsAlone e own → 1 ≤ length own
alone_long e [] is = let wrong = is.at in cc
alone_long e (o ∷ own) is = omega arith

module _ {F : ReadForm} {AreInOrder : ContentOrder → List ℕ → Type 0} (form : IsElementForm F AreInOrder) where
  -- a record that is no presence mark has bytes
  record_long : (r : Record) (own : List ℕ) → is_presence_mark r ≡ false → F.Has r own → 1 ≤ length own
  record_long r own no_mark has = let e = element_of_record r own (form.element r own no_mark has) in alone_long e.element own e.alone

  -- it is a form that a decoder reads
  pub is_form : IsReadForm F
  is_form = record { nothing = form.nothing; only_nothing = form.only_nothing; joined = form.joined; long = λ r bytes no_mark p. record_long r bytes no_mark p }

  -- a presence mark in front changes no bytes
  pub without_mark : (m : PresenceMark) (rs : List Record) (bytes : List ℕ) → F.Have (presence_mark m ∷ rs) bytes → F.Have rs bytes
  without_mark m rs bytes have =
      let j = form.joined (presence_mark m) rs bytes have in
      subst (λ b. F.Have rs b) (sym (j.are ∙ ap (λ f. f ++ j.others) (form.mark m j.first j.is_first))) j.are_others

  pub past_mark : (s e : DecodeState) (m : PresenceMark) (rest : List Record) (outer : Outside) → e.failed ≡ false → e.slices ≡ s.slices → RemainsExactly F s (presence_mark m ∷ rest, outer) → RemainsExactly F e (rest, outer)
  past_mark s e m rest outer no_failure same at = record {
    no_failure = no_failure;
    inside = subst (λ l. F.Have rest (left_inside l)) (sym same) (without_mark m rest (left_inside s.slices) at.inside);
    outside = subst (λ l. AllHave F (lists_outside outer) (left_outside l)) (sym same) at.outside;
  }

  -- a record that is left is not the end, if it is no presence mark
  pub not_at_end : {C : Type 0} (d : ElementDecoder C) (r : Record) (rest : List Record) → is_presence_mark r ≡ false → Remains F d (r ∷ rest, []) → Remains F d ([], []) → ⊥
  not_at_end d r rest no_mark at end =
      let a = same_as_record at.same in
      let exact = subst (λ l. RemainsExactly F d.state l) a.is at.remains in
      some_left is_form a.first a.rest (left_inside d.state.slices) (same-mark a.same ∙ no_mark) exact.inside (nothing_is_left is_form (λ d. d.state) d end).inside
