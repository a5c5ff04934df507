-- One element in front of others, and cut off.
use Rattle.std.proofs.Common.{◌≡◌, ℕ, ◌-◌, false, List, ◌++◌, Option, None, Some, length, length-append, take, drop, refl, sym, ap, ◌∙◌, arith}
use Rattle.std.proofs.Math.Seq.{take-append_seam, drop-append_seam}
use Rattle.std.specs.Prelude.{IsTrue}
use Rattle.std.specs.List.{IsSplitAt}
use Rattle.asn1_der_items.proofs.TrailingBytes.{element_at-append, element_before}
use Rattle.asn1_der_items.proofs.OneElement.{one}
use Rattle.asn1_der_items.specs.Elements.{Element, element_at}
use Rattle.asn1_der_items.specs.Series.{ends, is_one_element, is_whole, tag_found, tag_of}
use Rattle.asn1_tags.specs.declared.tags.Tag.{Tag}

some_is : {A : Type 0} {x y : A} → Some x ≡ Some y → x ≡ y
some_is e = cc

-- An element that is found in front of others.
pub record IsFoundInFront (own back : List ℕ) : Type 0 where
  pub element : Element
  pub at : element_at (own ++ back) ≡ Some element
  pub rest : element.rest ≡ back
  pub tag : element.tag ≡ tag_of own

pub found_in_front : (own back : List ℕ) → IsTrue (is_one_element own) → IsFoundInFront own back
found_in_front own back is =
    let o = one own is in
    record {
      element = element_before o.element back;
      at = element_at-append own back o.element o.alone.at;
      rest = ap (λ l. l ++ back) o.alone.alone;
      tag = sym (ap tag_found o.alone.at);
    }

-- bytes that begin with an element begin with one
pub is_found : (own back bytes : List ℕ) (P : Type 0) → IsTrue (is_one_element own) → bytes ≡ own ++ back → ((e : Element) → element_at bytes ≡ Some e → P) → P
is_found own back bytes P one is f = let found = found_in_front own back one in f found.element (ap element_at is ∙ found.at)

-- The element that was cut off.
pub record IsCutOff (own back front rest : List ℕ) (tag : Tag) : Type 0 where
  pub front_is : front ≡ own
  pub rest_is : rest ≡ back
  pub tag_is : tag ≡ tag_of own

pub cut_off : (own back bytes front rest : List ℕ) (e : Element) → IsTrue (is_one_element own) → bytes ≡ own ++ back → element_at bytes ≡ Some e → IsSplitAt bytes (length bytes - length e.rest) front rest → IsCutOff own back front rest e.tag
cut_off own back bytes front rest e one is at split =
    let found = found_in_front own back one in
    let same : found.element ≡ e = some_is (sym found.at ∙ sym (ap element_at is) ∙ at) in
    let after : e.rest ≡ back = sym (ap (λ (g : Element). g.rest) same) ∙ found.rest in
    let size : length bytes - length e.rest ≡ length own = omega (arith, ap length is, length-append own back, ap length after) in
    record {
      front_is = split.1 ∙ ap (λ n. take n bytes) size ∙ ap (take (length own)) is ∙ take-append_seam own back;
      rest_is = split.2 ∙ ap (λ n. drop n bytes) size ∙ ap (drop (length own)) is ∙ drop-append_seam own back;
      tag_is = sym (ap (λ (g : Element). g.tag) same) ∙ found.tag;
    }

-- the definitions that read the bytes, by the element that was found
pub whole_by : (bytes : List ℕ) (e : Element) → element_at bytes ≡ Some e → is_one_element bytes ≡ ends e.rest
whole_by bytes e at = ap is_whole at

pub tag_by : (bytes : List ℕ) (e : Element) → element_at bytes ≡ Some e → tag_of bytes ≡ e.tag
tag_by bytes e at = ap tag_found at

-- where no element was found there is none
pub not_whole : (bytes : List ℕ) → ((e : Element) → element_at bytes ≡ Some e → ⊥) → is_one_element bytes ≡ false
not_whole bytes none = by (element_at bytes) refl
  where
    by : (o : Option Element) → element_at bytes ≡ o → is_whole o ≡ false
    by None at = refl
    by (Some e) at = absurd (none e at)
