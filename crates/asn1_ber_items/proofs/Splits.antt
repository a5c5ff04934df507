-- The element with which bytes begin, apart from those after it.
use Rattle.std.proofs.Common.{◌≡◌, ◌⊎◌, inl, inr, ℕ, Bool, true, false, List, [], ◌∷◌, ◌++◌, append-nil, None, Some, length, take, drop, refl, ap, sym, subst, ◌∙◌}
use Rattle.std.proofs.Math.Seq.{drop-append_seam, take-append_seam}
use Rattle.std.specs.Borrow.{Bor}
use Rattle.asn1_der_items.proofs.Encodings.{one_element}
use Rattle.asn1_der_items.proofs.OneElement.{alone as none_after, element_is_one, some_bytes as one_has_bytes}
use Rattle.asn1_der_items.specs.Elements.{IsElement}
use Rattle.asn1_der_items.specs.Series.{is_one_element}
use Rattle.asn1_ber_items.specs.Headers.{Header, end_of_contents}
use Rattle.asn1_tags.specs.declared.tags.Tag.{Tag}
use Rattle.asn1_ber_items.specs.Walks.{IsClosing, IsCopy, IsEnd, IsSplit, Splits, end_octets, nothing_left}
use Rattle.asn1_ber_items.specs.declared.open_element.Extent.TheVariants.{Definite, Indefinite}
use Rattle.asn1_ber_items.specs.Spellings.{BeginWith, IsDefinite, Spells, definite, indefinite, nothing, primitive}

some_is : {A : Type 0} {x y : A} → Some x ≡ Some y → x ≡ y
some_is e = cc

-- no element begins there
pub no_element : (constructed : Bool) (h : Header) (rest : List ℕ) → IsEnd rest → BeginWith constructed h rest → ⊥
no_element constructed h _ nothing_left begin = let e : None ≡ Some h = begin.at in cc
no_element constructed h _ (end_octets back) begin =
    let e : Some (record { tag = end_of_contents; constructed = false; size = Some 0; rest = back }) ≡ Some h = begin.at in
    begin.is_element (sym (ap (λ (g : Header). g.tag) (some_is e)))

-- the header with which bytes begin is one
pub one_header : (c d : Bool) (g h : Header) (bytes : List ℕ) → BeginWith c g bytes → BeginWith d h bytes → g ≡ h
one_header c d g h bytes a b = some_is (sym a.at ∙ b.at)

pub one_form : (c d : Bool) (g h : Header) (bytes : List ℕ) → BeginWith c g bytes → BeginWith d h bytes → c ≡ d
one_form c d g h bytes a b = sym a.form ∙ ap (λ (i : Header). i.constructed) (one_header c d g h bytes a b) ∙ b.form

-- so are the contents octets and what follows them
pub record AreSame (contents back others rest : List ℕ) : Type 0 where
  pub contents_are : contents ≡ others
  pub back_is : back ≡ rest

pub one_extent : (h : Header) (contents back others rest : List ℕ) → IsDefinite h contents back → IsDefinite h others rest → AreSame contents back others rest
one_extent h contents back others rest a b =
    let long : length contents ≡ length others = some_is (sym a.size ∙ b.size) in
    let joined : contents ++ back ≡ others ++ rest = sym a.are ∙ b.are in
    record {
      contents_are = sym (take-append_seam contents back) ∙ ap (λ l. take (length contents) l) joined ∙ ap (λ n. take n (others ++ rest)) long ∙ take-append_seam others rest;
      back_is = sym (drop-append_seam contents back) ∙ ap (λ l. drop (length contents) l) joined ∙ ap (λ n. drop n (others ++ rest)) long ∙ drop-append_seam others rest;
    }

pub not_both : (h : Header) (contents back : List ℕ) → IsDefinite h contents back → h.size ≡ None → ⊥
not_both h contents back a none = let e : Some (length contents) ≡ None = sym a.size ∙ none in cc

-- an element has bytes
no_bytes : (own others : List ℕ) → own ++ others ≡ [] → own ≡ []
no_bytes [] others e = refl
no_bytes (o ∷ own) others e = cc

element_bytes : (t : Tag) (c : Bool) (contents own others : List ℕ) → IsElement t c contents own → own ++ others ≡ [] → ⊥
element_bytes t c contents own others is none = one_has_bytes own (element_is_one t c contents own is) (no_bytes own others none)

-- where there are no elements, all bytes are left
pub none_there : (left others rest : List ℕ) → Spells left others rest → others ≡ [] → left ≡ rest
none_there _ _ _ (nothing bytes) none = refl
none_there _ _ _ (primitive bytes contents own back others rest h begin is element spells) none = absurd (element_bytes h.tag false contents own others element none)
none_there _ _ _ (definite bytes contents inside own back others rest h begin is inner element spells) none = absurd (element_bytes h.tag true inside own others element none)
none_there _ _ _ (indefinite bytes inside own back others rest h begin size inner element spells) none = absurd (element_bytes h.tag true inside own others element none)

-- Where the first of the elements is one of which this holds, and there is one alone, it is that one.
module _ (Is : List ℕ → List ℕ → Type 0) (elements : (own back : List ℕ) → Is own back → is_one_element own ≡ true) where
  single : (others rest : List ℕ) → is_one_element others ≡ true → IsSplit Is others rest → Is others rest
  single others rest one s =
      let none : s.later ≡ [] = none_after s.own s.later (elements s.own s.back s.is) (ap is_one_element (sym s.are) ∙ one) in
      let own : s.own ≡ others = sym (append-nil s.own) ∙ ap (λ l. s.own ++ l) (sym none) ∙ sym s.are in
      subst (λ l. Is l rest) own (subst (λ l. Is s.own l) (none_there s.back s.later rest s.spell none) s.is)

  splits_by : (left : List ℕ) (constructed : Bool) (h : Header) → BeginWith constructed h left →
      ((others rest : List ℕ) → (left ≡ rest → others ≡ [] → ⊥) → Spells left others rest → IsSplit Is others rest) →
      ((own back later rest : List ℕ) → Is own back → Spells back later rest → Spells left (own ++ later) rest) → Splits Is left
  splits_by left constructed h begin ahead behind = record {
    alone = λ own back s. single own back s.one (ahead own back (λ same none. one_has_bytes own s.one none) s.spells);
    one = λ own back is. record { spells = subst (λ l. Spells left l back) (append-nil own) (behind own back [] back is (nothing back)); one = elements own back is };
    ahead = λ others rest end spells. ahead others rest (λ same none. no_element constructed h rest end (subst (λ l. BeginWith constructed h l) same begin)) spells;
    behind = behind;
  }

-- a primitive element
pub primitive_splits : (h : Header) (left contents own back : List ℕ) → BeginWith false h left → IsDefinite h contents back → IsElement h.tag false contents own → Splits (IsCopy own back) left
primitive_splits h left contents own back begin is element =
    splits_by (IsCopy own back) (λ mine after copy. element_is_one h.tag false contents mine (subst (λ l. IsElement h.tag false contents l) (sym copy.own_is) element))
    left false h begin
    (λ others rest some spells. ahead left others rest spells some begin)
    (λ mine after later rest copy spells.
    subst (λ l. Spells left (l ++ later) rest) (sym copy.own_is)
    (primitive left contents own back later rest h begin is element (subst (λ l. Spells l later rest) copy.back_is spells)))
  where
    ahead : (bytes others rest : List ℕ) → Spells bytes others rest → (bytes ≡ rest → others ≡ [] → ⊥) → BeginWith false h bytes → IsSplit (IsCopy own back) others rest
    ahead _ _ _ (nothing bytes) some begin = absurd (some refl refl)
    ahead _ _ _ (primitive bytes contents' own' back' others rest g begin' is' element' spells) some begin =
        let same = one_header false false g h bytes begin' begin in
        let extent = one_extent h contents' back' contents back (subst (λ (i : Header). IsDefinite i contents' back') same is') is in
        record {
          own = own';
          back = back';
          later = others;
          is = record {
            own_is = one_element h.tag false contents own' own (subst (λ l. IsElement h.tag false l own') extent.contents_are (subst (λ (i : Header). IsElement i.tag false contents' own') same element')) element;
            back_is = extent.back_is;
          };
          are = refl;
          spell = spells;
        }
    ahead _ _ _ (definite bytes contents' inside own' back' others rest g begin' is' inner element' spells) some begin =
        let e : true ≡ false = one_form true false g h bytes begin' begin in cc
    ahead _ _ _ (indefinite bytes inside own' back' others rest g begin' none inner element' spells) some begin =
        let e : true ≡ false = one_form true false g h bytes begin' begin in cc

-- a constructed element of a definite length
pub definite_splits : (h : Header) (left contents : List ℕ) (after : Bor (List ℕ)) → BeginWith true h left → IsDefinite h contents after.now → Splits (IsClosing h.tag (Definite after) contents) left
definite_splits h left contents after begin is =
    splits_by (IsClosing h.tag (Definite after) contents) (λ own back i. element_is_one h.tag true i.others own i.element)
    left true h begin
    (λ others rest some spells. ahead left others rest spells some begin)
    (λ own back later rest i spells.
    definite left contents i.others own after.now later rest h begin is i.spell i.element (subst (λ l. Spells l later rest) (sym i.after) spells))
  where
    ahead : (bytes others rest : List ℕ) → Spells bytes others rest → (bytes ≡ rest → others ≡ [] → ⊥) → BeginWith true h bytes → IsSplit (IsClosing h.tag (Definite after) contents) others rest
    ahead _ _ _ (nothing bytes) some begin = absurd (some refl refl)
    ahead _ _ _ (primitive bytes contents' own' back' others rest g begin' is' element' spells) some begin =
        let e : false ≡ true = one_form false true g h bytes begin' begin in cc
    ahead _ _ _ (definite bytes contents' inside own' back' others rest g begin' is' inner element' spells) some begin =
        let same = one_header true true g h bytes begin' begin in
        let extent = one_extent h contents' back' contents after.now (subst (λ (i : Header). IsDefinite i contents' back') same is') is in
        record {
          own = own';
          back = back';
          later = others;
          is = record {
            others = inside;
            spell = subst (λ l. Spells l inside []) extent.contents_are inner;
            after = sym extent.back_is;
            element = subst (λ (i : Header). IsElement i.tag true inside own') same element';
          };
          are = refl;
          spell = spells;
        }
    ahead _ _ _ (indefinite bytes inside own' back' others rest g begin' none inner element' spells) some begin =
        let same = one_header true true g h bytes begin' begin in
        absurd (not_both h contents after.now is (subst (λ (i : Header). i.size ≡ None) same none))

-- a constructed element of an indefinite length
pub indefinite_splits : (h : Header) (left : List ℕ) → BeginWith true h left → h.size ≡ None → Splits (IsClosing h.tag Indefinite h.rest) left
indefinite_splits h left begin none =
    splits_by (IsClosing h.tag Indefinite h.rest) (λ own back i. element_is_one h.tag true i.others own i.element)
    left true h begin
    (λ others rest some spells. ahead left others rest spells some begin)
    (λ own after later rest i spells. indefinite left i.others own after later rest h begin none i.spell i.element spells)
  where
    ahead : (bytes others rest : List ℕ) → Spells bytes others rest → (bytes ≡ rest → others ≡ [] → ⊥) → BeginWith true h bytes → IsSplit (IsClosing h.tag Indefinite h.rest) others rest
    ahead _ _ _ (nothing bytes) some begin = absurd (some refl refl)
    ahead _ _ _ (primitive bytes contents' own' back' others rest g begin' is' element' spells) some begin =
        let e : false ≡ true = one_form false true g h bytes begin' begin in cc
    ahead _ _ _ (definite bytes contents' inside own' back' others rest g begin' is' inner element' spells) some begin =
        let same = one_header true true g h bytes begin' begin in
        absurd (not_both h contents' back' (subst (λ (i : Header). IsDefinite i contents' back') same is') none)
    ahead _ _ _ (indefinite bytes inside own' back' others rest g begin' none' inner element' spells) some begin =
        let same = one_header true true g h bytes begin' begin in
        record {
          own = own';
          back = back';
          later = others;
          is = record {
            others = inside;
            spell = subst (λ (i : Header). Spells i.rest inside (0 ∷ 0 ∷ back')) same inner;
            after = tt;
            element = subst (λ (i : Header). IsElement i.tag true inside own') same element';
          };
          are = refl;
          spell = spells;
        }

-- The bytes begin with an element: its header is there, it is no end-of-contents octets, and it has one of three forms.
pub data Begins (left : List ℕ) : Type 0 where
  with_octets : (h : Header) (contents back : List ℕ) → BeginWith false h left → IsDefinite h contents back → Begins left
  with_length : (h : Header) (contents back : List ℕ) → BeginWith true h left → IsDefinite h contents back → Begins left
  with_end : (h : Header) → BeginWith true h left → h.size ≡ None → Begins left

-- elements are none, or begin with one
pub none_or_more : (left others rest : List ℕ) → Spells left others rest → ((left ≡ rest) × (others ≡ [])) ⊎ Begins left
none_or_more _ _ _ (nothing bytes) = inl (refl, refl)
none_or_more _ _ _ (primitive bytes contents own back others rest h begin is element spells) = inr (with_octets h contents back begin is)
none_or_more _ _ _ (definite bytes contents inside own back others rest h begin is inner element spells) = inr (with_length h contents back begin is)
none_or_more _ _ _ (indefinite bytes inside own back others rest h begin none inner element spells) = inr (with_end h begin none)

-- no element begins at an end
pub none_begins : (rest : List ℕ) → IsEnd rest → Begins rest → ⊥
none_begins rest end (with_octets h contents back begin is) = no_element false h rest end begin
none_begins rest end (with_length h contents back begin is) = no_element true h rest end begin
none_begins rest end (with_end h begin none) = no_element true h rest end begin
