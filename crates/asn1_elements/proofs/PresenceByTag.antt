-- A component is present if the next tag is one of its own; and the next component of a SET is the one with the next tag.
use Rattle.std.proofs.Common.{◌≡◌, ℕ, Bool, true, false, List, [], ◌∷◌, Option, None, Some, Ok, Err, refl, ap, sym, subst, ◌∙◌, arith}
use Rattle.std.specs.Prelude.{◌↔◌, IsTrue, MatchResult, OnOk, Result}
use Rattle.asn1_laws.proofs.MarksPassed.{first_left, none_left}
use Rattle.asn1_laws.proofs.TellingTags.{selects_itself}
use Rattle.asn1_laws.specs.Reading.{Advances, HasAdvanced, IsNextTag, Outside, TellsPresence, marks_passed}
use Rattle.asn1_laws.specs.declared.decode_error.DecodeError.{DecodeError}
use Rattle.asn1_components.specs.ComponentTypes.{ComponentType}
use Rattle.asn1_der_items.specs.declared.content_order.ContentOrder.{ContentOrder}
use Rattle.asn1_elements.specs.Decoder.{AreLeft, in_one_order}
use Rattle.asn1_elements.specs.ElementForms.{IsElementForm}
use Rattle.asn1_items.specs.NextTags.{IsNext}
use Rattle.asn1_elements.specs.declared.decoder.ElementDecoder.{ElementDecoder}
use Rattle.asn1_elements.proofs.RemainingElements.{element_of_record, is_form, past_mark, without_mark}
use Rattle.asn1_der_items.proofs.TrailingBytes.{element_at-append, element_before}
use Rattle.asn1_der_items.specs.Elements.{Element, element_at}
use Rattle.asn1_items.specs.Slices.{left_inside, left_outside}
use Rattle.asn1_items.specs.declared.slices.Slices.{Slices}
use Rattle.asn1_model.proofs.TagSets.{lies_has}
use Rattle.asn1_model.specs.Records as model
use Rattle.asn1_model.specs.Tags.{Tags, Has, first_tags, record_tags}
use Rattle.asn1_items.proofs.DecodeStates.{some_left}
use Rattle.asn1_items.specs.DecodeStates.{AllHave, ReadForm, RemainsExactly, lists_outside}
use Rattle.asn1_tags.specs.declared.tags.Tag.{Tag}

-- The record that is next, after the presence marks that are passed over, and its element.
record NextElement (left : List ℕ) (items : List model.Record) : Type 0 where
  pub first : model.Record
  pub others : List model.Record
  pub is_next : marks_passed items ≡ first ∷ others
  pub element : Element
  pub at : element_at left ≡ Some element
  pub has : Has (record_tags first) element.tag

-- the tag that was found is that of the element
pub found_tag : (s : Slices) (bytes : List ℕ) (f : Element) → bytes ≡ left_inside s → element_at bytes ≡ Some f → (e : Element) → element_at (left_inside s) ≡ Some e → f.tag ≡ e.tag
found_tag s bytes f is found e at =
    let both : Some f ≡ Some e = sym found ∙ ap element_at is ∙ at in
    let same : f ≡ e = cc in
    ap (λ (x : Element). x.tag) same

false_of : (b : Bool) → (IsTrue b → ⊥) → b ≡ false
false_of true h = absurd (h refl)
false_of false h = refl

module _ {F : ReadForm} {AreInOrder : ContentOrder → List ℕ → Type 0} (form : IsElementForm F AreInOrder) where
  -- the marks in front are passed over wherever the records are left
  pub passed : (rs : List model.Record) (bytes : List ℕ) → F.Have rs bytes → F.Have (marks_passed rs) bytes
  passed [] bytes p = p
  passed (model.scalar t c n x ∷ rs) bytes p = p
  passed (model.scope h is ∷ rs) bytes p = p
  passed (model.open_type n own ∷ rs) bytes p = p
  passed (model.presence_mark m ∷ rs) bytes p = passed rs bytes (without_mark form m rs bytes p)

  next_element : (left : List ℕ) (items : List model.Record) → (left ≡ [] → ⊥) → F.Have items left → NextElement left items
  next_element left items some have = by (marks_passed items) refl (passed items left have)
    where
      by : (l : List model.Record) → marks_passed items ≡ l → F.Have l left → NextElement left items
      by [] is have = absurd (some (form.only_nothing left have))
      by (s ∷ ss) is have =
          let j = form.joined s ss left have in
          let one = element_of_record s j.first (form.element s j.first (first_left items s ss is).no_mark j.is_first) in
          record {
            first = s;
            others = ss;
            is_next = is;
            element = element_before one.element j.others;
            at = ap element_at j.are ∙ element_at-append j.first j.others one.element one.alone.at;
            has = one.has;
          }

  -- no record is next where nothing is left
  none_next : (left : List ℕ) (items : List model.Record) → left ≡ [] → F.Have items left → marks_passed items ≡ []
  none_next left items none have = by (marks_passed items) refl (passed items left have)
    where
      by : (l : List model.Record) → marks_passed items ≡ l → F.Have l left → l ≡ []
      by [] is have = refl
      by (s ∷ ss) is have = absurd (some_left (is_form form) s ss left (first_left items s ss is).no_mark have none)

  -- the tag of the next element, and none at the end
  pub element_tells : (s : Slices) (t : Tag) (rs : List model.Record) → (left_inside s ≡ [] → ⊥) → ((e : Element) → element_at (left_inside s) ≡ Some e → t ≡ e.tag) → AreLeft F rs s → IsNext rs (Some t)
  element_tells s t rs some found left =
      let n = next_element (left_inside s) rs some left in
      let first = first_left rs n.first n.others n.is_next in
      let has : Has (first_tags rs) t = subst (λ ts. Has ts t) (sym first.tags) (subst (Has (record_tags n.first)) (sym (found n.element n.at)) n.has) in
      record { none = λ e. cc; some = λ u e. let same : t ≡ u = cc in subst (Has (first_tags rs)) same has }

  pub end_tells : (s : Slices) (rs : List model.Record) → left_inside s ≡ [] → AreLeft F rs s → IsNext rs None
  end_tells s rs none left = record { none = λ _. none_left rs (none_next (left_inside s) rs none left); some = λ t e. cc }

  -- there is an element
  pub has_element : (s : Slices) (rs : List model.Record) → (left_inside s ≡ [] → ⊥) → ((e : Element) → element_at (left_inside s) ≡ Some e → ⊥) → AreLeft F rs s → ⊥
  has_element s rs some never left = let n = next_element (left_inside s) rs some left in never n.element n.at

  module _ {C : Type 0} (d e : ElementDecoder C) (there away : model.PresenceMark) (own : Tags) where
    -- an element is next: the component is there if and only if its tag is one of the component's
    pub found : (t : Tag) (b : Bool) (next : Option Tag) → next ≡ Some t → e.state.failed ≡ false → e.state.slices ≡ d.state.slices → ((rs : List model.Record) → d.state.failed ≡ false → AreLeft F rs d.state.slices → IsNext rs next) → IsTrue b ↔ Has own t →
        TellsPresence (in_one_order F) d e there away own (Ok b)
    found t b next is no_failure same tells has = record {
      there = λ rest outer begins at.
          let left = without_mark form there rest (left_inside d.state.slices) at.inside in
          record {
            answer = has.1 (lies_has (first_tags rest) own begins.within t ((tells rest at.no_failure left).some t is));
            at = past_mark form d.state e.state there rest outer no_failure same at;
            within_depth_left = omega arith;
          };
      away = λ rest outer apart at.
          let left = without_mark form away rest (left_inside d.state.slices) at.inside in
          record {
            answer = false_of b (λ yes. apart t (has.0 yes) ((tells rest at.no_failure left).some t is));
            at = past_mark form d.state e.state away rest outer no_failure same at;
            within_depth_left = omega arith;
          };
    }

    -- none is next: it is absent
    pub none_found : (next : Option Tag) → next ≡ None → e.state.failed ≡ false → e.state.slices ≡ d.state.slices → ((rs : List model.Record) → d.state.failed ≡ false → AreLeft F rs d.state.slices → IsNext rs next) →
        TellsPresence (in_one_order F) d e there away own (Ok false)
    none_found next is no_failure same tells = record {
      there = λ rest outer begins at.
          let wrong = sym begins.some ∙ (tells rest at.no_failure (without_mark form there rest (left_inside d.state.slices) at.inside)).none is in cc;
      away = λ rest outer apart at. record { answer = refl; at = past_mark form d.state e.state away rest outer no_failure same at; within_depth_left = omega arith };
    }

    -- if records are left, a component is present or absent
    pub not_found : (result : Result Bool DecodeError) (error : DecodeError) → result ≡ Err error → ((rs : List model.Record) → d.state.failed ≡ false → AreLeft F rs d.state.slices → ⊥) → TellsPresence (in_one_order F) d e there away own result
    not_found result error is never = record {
      there = λ rest outer begins at. absurd (never rest at.no_failure (without_mark form there rest (left_inside d.state.slices) at.inside));
      away = λ rest outer apart at. absurd (never rest at.no_failure (without_mark form away rest (left_inside d.state.slices) at.inside));
    }

  -- the tag of the next record of a SET
  pub next_found : {C V : Type 0} (cs : List (ComponentType V)) (d e : ElementDecoder C) (items : List model.Record) (outer : Outside) (next : Option Tag) → e.state.failed ≡ false → e.state.slices ≡ d.state.slices → IsNext items next →
      RemainsExactly F d.state (items, outer) → HasAdvanced (in_one_order F) d e 0 (marks_passed items, outer) (IsNextTag cs items next)
  next_found cs d e items outer next no_failure same is at = record {
    answer = record { none = is.none; some = λ t found. (t, (is.some t found, selects_itself cs (first_tags items) t (is.some t found))) };
    at = record {
      no_failure = no_failure;
      inside = subst (λ s. F.Have (marks_passed items) (left_inside s)) (sym same) (passed items (left_inside d.state.slices) at.inside);
      outside = subst (λ s. AllHave F (lists_outside outer) (left_outside s)) (sym same) at.outside;
    };
    within_depth_left = omega arith;
  }

  pub next_tag_found : {C V : Type 0} (cs : List (ComponentType V)) (d e : ElementDecoder C) (items : List model.Record) (outer : Outside) (result : Result (Option Tag) DecodeError) →
      ((rs : List model.Record) → d.state.failed ≡ false → AreLeft F rs d.state.slices → MatchResult result (IsNext rs) (λ _. ⊥)) → OnOk result (e.state.slices ≡ d.state.slices) → OnOk result (e.state.failed ≡ false) →
      Advances (in_one_order F) d e 0 (items, outer) (marks_passed items, outer) (IsNextTag cs items) result
  next_tag_found cs d e items outer (Ok next) found same no_failure at = next_found cs d e items outer next no_failure same (found items at.no_failure at.inside) at
  next_tag_found cs d e items outer (Err error) found same no_failure at = absurd (found items at.no_failure at.inside)
