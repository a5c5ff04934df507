-- The contents of a record that holds others.
use Rattle.std.proofs.Common.{◌≡◌, ℕ, true, List, Ok, Err, refl, subst, sym, ◌∙◌}
use Rattle.std.specs.Prelude.{Option, Some, None, IfOk, IfSome, OnOk, Result}
use Rattle.asn1_laws.specs.declared.decode_error.DecodeError.{DecodeError}
use Rattle.asn1_der_items.specs.declared.content_order.ContentOrder.{ContentOrder}
use Rattle.asn1_der_items.specs.declared.content_order.ContentOrder.TheVariants.{AsDefined, ByTag, ByEncoding, Chosen}
use Rattle.asn1_der_items.proofs.OneElement.{element_alone, element_of}
use Rattle.asn1_der_items.specs.Bytes.{content_order_of}
use Rattle.asn1_elements.specs.Decoder.{BeginWithScope, HoldsOthers, IsFirstOf}
use Rattle.asn1_elements.specs.ElementForms.{HoldsInside, IsHolding, IsInsideElement, IsParsed}
use Rattle.asn1_elements.specs.declared.parsed_element.ParsedElement.{ParsedElement}
use Rattle.asn1_der_items.specs.Elements.{Element, IsElement}
use Rattle.asn1_items.specs.Slices.{left_inside}
use Rattle.asn1_items.specs.DecodeStates.{IsOpen, ReadForm}
use Rattle.asn1_items.specs.declared.decode_state.Opened.{Opened}
use Rattle.asn1_items.specs.declared.decode_state.DecodeState.{DecodeState}
use Rattle.asn1_model.specs.Records.{Head, Record}
use Rattle.asn1_model.specs.Tags.{head_tag}
use Rattle.asn1_tags.specs.declared.tags.Tag.{Tag}

-- its tag is the one that is asked for, if one is
pub asked_tag : (tag : Option Tag) (own t : Tag) → own ≡ t → IfSome tag (λ asked. t ≡ asked) → IfSome tag (λ asked. own ≡ asked)
asked_tag None own t same is = is
asked_tag (Some asked) own t same is = same ∙ is

-- what is inside a scope that was opened is what was inside the element
pub opened_in_order : (IsInOrder : List ℕ → Type 0) (inside : List ℕ) (old new : DecodeState) (tag : Tag) (result : Result Opened DecodeError) →
    IsInOrder inside → IfOk result (IsOpen old new tag inside) → OnOk result (IsInOrder (left_inside new.slices))
opened_in_order IsInOrder inside old new tag (Err e) is opened = tt
opened_in_order IsInOrder inside old new tag (Ok w) is opened = subst IsInOrder (sym opened.inside_is) is

-- an element that was opened holds others
holds_others : (content_order : ContentOrder) (e : Element) (own inside : List ℕ) → IsInsideElement content_order e own inside → HoldsOthers content_order e
holds_others AsDefined e own inside is = is.constructed
holds_others ByTag e own inside is = is.constructed
holds_others ByEncoding e own inside is = is.constructed
holds_others Chosen e own inside is = tt

-- and it is the first one
pub begin_with_scope : (content_order : ContentOrder) (tag : Option Tag) (parsed : ParsedElement) (inside bytes : List ℕ) (result : Result Opened DecodeError) → IsFirstOf parsed bytes → IfSome tag (λ t. parsed.tag ≡ t) →
    ((e : Element) (own : List ℕ) → IsParsed parsed e own → IsInsideElement content_order e own inside) → OnOk result (BeginWithScope content_order tag bytes)
begin_with_scope content_order tag parsed inside bytes (Err e) first under is = tt
begin_with_scope content_order tag parsed inside bytes (Ok w) first under is =
    let e : Element = record { tag = parsed.tag; constructed = parsed.constructed; contents = parsed.contents.now; rest = first.rest } in
    record {
      element = e;
      at = first.at;
      has_tag = under;
      holds_others = holds_others content_order e parsed.bytes.now inside (is e parsed.bytes.now (record { tag = refl; constructed = refl; contents = refl; bytes = refl }));
    }

-- what is inside a constructed element
pub constructed_inside : (F : ReadForm) (AreInOrder : ContentOrder → List ℕ → Type 0) (h : Head) (rs : List Record) (own inside : List ℕ) → IsElement (head_tag h) true inside own →
    ((e : Element) → IsHolding e inside → IsInsideElement (content_order_of h) e own inside) → AreInOrder (content_order_of h) inside → F.Have rs inside → HoldsInside F AreInOrder h rs own
constructed_inside F AreInOrder h rs own inside element holds in_order have = record {
  element = element_of (head_tag h) true inside;
  alone = element_alone (head_tag h) true inside own element;
  tag = refl;
  inside = inside;
  is = holds (element_of (head_tag h) true inside) (record { constructed = refl; contents = refl });
  in_order = in_order;
  have = have;
}

-- octets of an element that holds others are those of a constructed element with these inside
pub constructed_octets : (e : Element) (t : Tag) (own inside : List ℕ) → IsElement e.tag e.constructed e.contents own → e.tag ≡ t → IsHolding e inside → IsElement t true inside own
constructed_octets e t own inside octets tag holding =
    subst (λ u. IsElement u true inside own) tag (subst (λ b. IsElement e.tag b inside own) holding.constructed (subst (λ l. IsElement e.tag e.constructed l own) holding.contents octets))
