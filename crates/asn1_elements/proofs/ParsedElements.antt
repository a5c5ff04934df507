-- The element that was found is the next one.
use Rattle.std.proofs.Common.{◌≡◌, ℕ, ◌-◌, List, ◌++◌, Some, length, length-append, take, refl, sym, ap, ◌∙◌, arith}
use Rattle.std.proofs.Math.Seq.{take-append_seam}
use Rattle.asn1_der_items.specs.Series.{IsAlone}
use Rattle.asn1_elements.specs.Decoder.{IsElementTaken}
use Rattle.asn1_elements.specs.declared.parsed_element.ParsedElement.{ParsedElement}
use Rattle.asn1_der_items.proofs.TrailingBytes.{element_at-append, element_before}
use Rattle.asn1_der_items.specs.Elements.{Element, element_at}
use Rattle.asn1_items.specs.Slices.{left_inside}
use Rattle.asn1_items.specs.declared.slices.Slices.{Slices}

-- what is found where an element is alone, and where trailing bytes follow
pub found_before : (e found : Element) (own back left : List ℕ) → IsAlone e own → left ≡ own ++ back → element_at left ≡ Some found →
    found ≡ record { tag = e.tag; constructed = e.constructed; contents = e.contents; rest = back }
found_before e found own back left alone is at =
    let same : Some found ≡ Some (element_before e back) = sym at ∙ ap element_at is ∙ element_at-append own back e alone.at in
    let whole : found ≡ element_before e back = cc in
    whole ∙ ap (λ l. record { tag = e.tag; constructed = e.constructed; contents = e.contents; rest = l ++ back }) alone.alone

-- the bytes in front of what is left
pub front_of : (own back : List ℕ) (n : ℕ) → n ≡ length (own ++ back) - length back → take n (own ++ back) ≡ own
front_of own back n is =
    let long : n ≡ length own = omega (arith, is, length-append own back) in
    ap (λ k. take k (own ++ back)) long ∙ take-append_seam own back

pub was_taken : (parsed : ParsedElement) (e found : Element) (own back left : List ℕ) (new : Slices) → IsAlone e own → left ≡ own ++ back → element_at left ≡ Some found →
    parsed.tag ≡ found.tag → parsed.constructed ≡ found.constructed → parsed.contents.now ≡ found.contents →
    parsed.bytes.now ≡ take (length left - length found.rest) left → left_inside new ≡ found.rest → IsElementTaken parsed e own back new
was_taken parsed e found own back left new alone is at tag form contents bytes rest =
    let same = found_before e found own back left alone is at in
    let behind : found.rest ≡ back = ap (λ (x : Element). x.rest) same in
    record {
      seen = record {
        tag = tag ∙ ap (λ (x : Element). x.tag) same;
        constructed = form ∙ ap (λ (x : Element). x.constructed) same;
        contents = contents ∙ ap (λ (x : Element). x.contents) same;
        bytes = bytes ∙ ap (λ l. take (length left - length l) left) behind ∙ ap (λ l. take (length l - length back) l) is ∙ front_of own back (length (own ++ back) - length back) refl;
      };
      left = rest ∙ behind;
    }

-- where an element is next, it is found
pub is_found : (e : Element) (own back left : List ℕ) → IsAlone e own → left ≡ own ++ back → ((f : Element) → element_at left ≡ Some f → ⊥) → ⊥
is_found e own back left alone is never = never (element_before e back) (ap element_at is ∙ element_at-append own back e alone.at)

-- bytes are one element alone at most
pub one_element : (e f : Element) (own : List ℕ) → IsAlone e own → IsAlone f own → e ≡ f
one_element e f own first second =
    let same : Some e ≡ Some f = sym first.at ∙ second.at in
    cc
