-- The order of elements inside sets, from one to the next.
use Rattle.std.proofs.Common.{◌≡◌, ℕ, zero, suc, ◌+◌, ◌-◌, Bool, false, List, [], ◌∷◌, ◌++◌, Some, length, take, refl, sym, ap, subst, ◌∙◌, arith}
use Rattle.std.specs.Prelude.{All, IsTrue, true, ◌==◌, slice_index_or}
use Rattle.std.specs.List.{flat_map}
use Rattle.std.specs.List.Sorted.{IsSortedBy}
use Rattle.std.specs.Ordering.{is_lt, nat_cmp}
use Rattle.std.proofs.lemmas.Bool.Decides.{nat_tests}
use Rattle.std.proofs.lemmas.List.Elements.{All-cons, All-head, All-nil, All-tail}
use borrow.Author.Tests.{eqb-true}
use Rattle.asn1_der.specs.Ascending.{AreAfter, IsReached, AscendFrom, precedes}
use Rattle.asn1_der_items.specs.declared.content_order.ContentOrder.{ContentOrder}
use Rattle.asn1_der_items.specs.declared.content_order.ContentOrder.TheVariants.{AsDefined, ByTag, ByEncoding, Chosen}
use Rattle.asn1_der_items.proofs.TrailingBytes.{cut_off}
use Rattle.asn1_der_items.proofs.OneElement.{one}
use Rattle.asn1_elements.proofs.ParsedElements.{found_before, front_of, is_found}
use Rattle.asn1_der_items.specs.Elements.{Element, element_at}
use Rattle.asn1_der_items.specs.Series.{IsAlone, is_one_element, is_whole, tag_found, tag_of}
use Rattle.asn1_model.specs.Tags.{CHOICE}
use Rattle.asn1_tags.specs.Tags.{tag_cmp}
use Rattle.asn1_tags.specs.declared.classes.Class.{Class}
use Rattle.asn1_tags.specs.declared.classes.Class.TheVariants.{Universal, Application, Context, Private}
use Rattle.asn1_tags.specs.declared.tags.Tag.{Tag}

-- no tag is below the CHOICE marker tag, and no bytes are below none
not_lower : (n : ℕ) → is_lt (nat_cmp n 0) ≡ false
not_lower n = grind (arith, nat_tests)

no_lower_tag : (class : Class) (value : ℕ) → is_lt (tag_cmp (record { class = class; value = value }) CHOICE) ≡ false
no_lower_tag Universal n = not_lower n
no_lower_tag Application n = refl
no_lower_tag Context n = refl
no_lower_tag Private n = refl

none_below : (content_order : ContentOrder) (own : List ℕ) → precedes content_order own [] ≡ false
none_below AsDefined own = refl
none_below ByTag own = no_lower_tag (tag_of own).class (tag_of own).value
none_below ByEncoding [] = refl
none_below ByEncoding (b ∷ own) = refl
none_below Chosen own = refl

-- sorted elements ascend one after another
later : {X : Type 0} (lt : X → X → Bool) (x : X) (xs : List X) → IsSortedBy lt (x ∷ xs) → IsSortedBy lt xs
later lt x xs sorted k d low high =
    let next : k + 1 ≡ suc k = omega arith in
    let after : k + 1 + 1 ≡ suc (k + 1) = omega arith in
    let s = sorted (k + 1) d (omega arith) (omega (arith, high)) in
    let t = subst (λ n. lt (slice_index_or (x ∷ xs) n d) (slice_index_or (x ∷ xs) (k + 1) d) ≡ false) after s in
    subst (λ n. lt (slice_index_or xs (k + 1) d) (slice_index_or (x ∷ xs) n d) ≡ false) next t

ascend_after : (content_order : ContentOrder) (x : List ℕ) (xs : List (List ℕ)) → IsSortedBy (precedes content_order) (x ∷ xs) → AscendFrom content_order x xs
ascend_after content_order x [] sorted = tt
ascend_after content_order x (y ∷ ys) sorted = (sorted 0 x (omega arith) (omega arith), ascend_after content_order y ys (later (precedes content_order) x (y ∷ ys) sorted))

ascend : (content_order : ContentOrder) (xs : List (List ℕ)) → IsSortedBy (precedes content_order) xs → AscendFrom content_order [] xs
ascend content_order [] sorted = tt
ascend content_order (x ∷ xs) sorted = (none_below content_order x, ascend_after content_order x xs sorted)

-- and elements that ascend one after another are sorted
with_first : {X : Type 0} (lt : X → X → Bool) (x y : X) (ys : List X) → lt y x ≡ false → IsSortedBy lt (y ∷ ys) → IsSortedBy lt (x ∷ y ∷ ys)
with_first lt x y ys above sorted zero d low high = above
with_first lt x y ys above sorted (suc k) d low high =
    let after : suc (k + 1) ≡ suc k + 1 = omega arith in
    let s = sorted k d (omega arith) (omega (arith, high)) in
    subst (λ n. lt (slice_index_or (x ∷ y ∷ ys) n d) (slice_index_or (y ∷ ys) k d) ≡ false) after s

sorted_after : (content_order : ContentOrder) (x : List ℕ) (xs : List (List ℕ)) → AscendFrom content_order x xs → IsSortedBy (precedes content_order) (x ∷ xs)
sorted_after content_order x [] ascends = λ k d low high. absurd (omega (arith, high))
sorted_after content_order x (y ∷ ys) ascends = with_first (precedes content_order) x y ys ascends.0 (sorted_after content_order y ys ascends.1)

sorted : (content_order : ContentOrder) (xs : List (List ℕ)) → AscendFrom content_order [] xs → IsSortedBy (precedes content_order) xs
sorted content_order [] ascends = λ k d low high. absurd (omega (arith, high))
sorted content_order (x ∷ xs) ascends = sorted_after content_order x xs ascends.1

-- at the beginning
pub begin : (content_order : ContentOrder) (contents : List ℕ) → IsReached content_order contents CHOICE [] contents
begin content_order contents = record {
  its_tag = refl;
  ahead = λ are. record { elements = are.elements; each = are.each; ascend = ascend content_order are.elements are.order; are = are.are };
  back = λ after. record { elements = after.elements; each = after.each; order = sorted content_order after.elements after.ascend; are = after.are };
}

-- at the end
pub none_after : (content_order : ContentOrder) (before left : List ℕ) → (length left == 0) ≡ true → AreAfter content_order before left
none_after content_order before [] none = record { elements = []; each = All-nil (λ e. IsTrue (is_one_element e)); ascend = tt; are = refl }
none_after content_order before (byte ∷ left) none = absurd (omega (arith, eqb-true (length (byte ∷ left)) 0 none))

-- The element that is next.
record NextElement (content_order : ContentOrder) (before left : List ℕ) : Type 0 where
  pub own : List ℕ
  pub back : List ℕ
  pub element : Element
  pub alone : IsAlone element own
  pub is : left ≡ own ++ back
  pub above : precedes content_order own before ≡ false
  pub after : AreAfter content_order own back

next_element : (content_order : ContentOrder) (before left : List ℕ) → AreAfter content_order before left → (left ≡ [] → ⊥) → NextElement content_order before left
next_element content_order before left a some = by a.elements a.each a.ascend a.are
  where
    by : (elements : List (List ℕ)) → All (λ e. IsTrue (is_one_element e)) elements → AscendFrom content_order before elements → left ≡ flat_map (λ e. e) elements → NextElement content_order before left
    by [] each ascend are = absurd (some are)
    by (own ∷ elements) each ascend are =
        let o = one own (All-head (λ e. IsTrue (is_one_element e)) own elements each) in
        record {
          own = own;
          back = flat_map (λ e. e) elements;
          element = o.element;
          alone = o.alone;
          is = are;
          above = ascend.0;
          after = record {
            elements = elements;
            each = All-tail (λ e. IsTrue (is_one_element e)) own elements each;
            ascend = ascend.1;
            are = refl;
          };
        }

-- it is found
pub next_found : (content_order : ContentOrder) (before left : List ℕ) → AreAfter content_order before left → (left ≡ [] → ⊥) → ((e : Element) → element_at left ≡ Some e → ⊥) → ⊥
next_found content_order before left a some never =
    let n = next_element content_order before left a some in
    is_found n.element n.own n.back left n.alone n.is never

-- The next element is not below the one before it, and the others are after it.
pub record Goes (content_order : ContentOrder) (before own rest : List ℕ) : Type 0 where
  pub above : precedes content_order own before ≡ false
  pub after : AreAfter content_order own rest

pub goes : (content_order : ContentOrder) (before left : List ℕ) (found : Element) → AreAfter content_order before left → (left ≡ [] → ⊥) → element_at left ≡ Some found →
    Goes content_order before (take (length left - length found.rest) left) found.rest
goes content_order before left found a some at =
    let n = next_element content_order before left a some in
    let same = found_before n.element found n.own n.back left n.alone n.is at in
    let behind : found.rest ≡ n.back = ap (λ (x : Element). x.rest) same in
    let whole : take (length left - length found.rest) left ≡ n.own =
    ap (λ l. take (length left - length l) left) behind ∙ ap (λ l. take (length l - length n.back) l) n.is ∙ front_of n.own n.back (length (n.own ++ n.back) - length n.back) refl in
    record {
      above = subst (λ l. precedes content_order l before ≡ false) (sym whole) n.above;
      after = subst (λ l. AreAfter content_order l found.rest) (sym whole) (subst (AreAfter content_order n.own) (sym behind) n.after);
    }

-- The next element has its tag; and if it is not below the one before it, and the others are after it, all of them are after that
-- one.
pub record IsFound (content_order : ContentOrder) (left : List ℕ) (tag : Tag) (own rest : List ℕ) : Type 0 where
  pub its_tag : tag ≡ tag_of own
  pub with_others : (before : List ℕ) → precedes content_order own before ≡ false → AreAfter content_order own rest → AreAfter content_order before left

pub as_found : (content_order : ContentOrder) (left : List ℕ) (found : Element) → element_at left ≡ Some found → IsFound content_order left found.tag (take (length left - length found.rest) left) found.rest
as_found content_order left found at =
    let c = cut_off left found at in
    let whole : take (length left - length found.rest) left ≡ c.own =
    ap (λ l. take (length l - length found.rest) l) c.are ∙ front_of c.own found.rest (length (c.own ++ found.rest) - length found.rest) refl in
    subst (λ own. IsFound content_order left found.tag own found.rest) (sym whole) (record {
      its_tag = sym (ap tag_found c.alone.at);
      with_others = λ before above after. record {
        elements = c.own ∷ after.elements;
        each = All-cons (λ e. IsTrue (is_one_element e)) c.own after.elements (ap is_whole c.alone.at) after.each;
        ascend = (above, after.ascend);
        are = c.are ∙ ap (λ l. c.own ++ l) after.are;
      };
    })

-- So what was reached before it is reached after it.
pub further : (content_order : ContentOrder) (contents : List ℕ) (tag : Tag) (before left : List ℕ) (found : Element) → IsReached content_order contents tag before left → (left ≡ [] → ⊥) → element_at left ≡ Some found →
    precedes content_order (take (length left - length found.rest) left) before ≡ false → IsReached content_order contents found.tag (take (length left - length found.rest) left) found.rest
further content_order contents tag before left found reached some at above =
    let f = as_found content_order left found at in
    record {
      its_tag = f.its_tag;
      ahead = λ are. (goes content_order before left found (reached.ahead are) some at).after;
      back = λ after. reached.back (f.with_others before above after);
    }
