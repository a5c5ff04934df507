-- Each record in range has DER or has none, in some order inside sets.
use Rattle.std.proofs.Common.{◌≡◌, ℕ, ◌≤◌, ◌<◌, ◌^◌, Bool, true, false, List, [], ◌++◌, length, refl, sym, subst, ◌∙◌, inl, inr}
use Rattle.std.proofs.lemmas.Bool.{cases_lt, true≢false}
use Rattle.std.specs.Cmp.Lexicographic.{slice_cmp}
use Rattle.std.specs.Int.Digits.{AllBelowBase}
use Rattle.std.specs.Ordering.{is_lt, nat_cmp}
use Rattle.std.specs.Prelude.{◌⊎◌, ◌&&◌, IsPermutation}
use Rattle.asn1_model.proofs.RecordLists.{held-listed}
use Rattle.asn1_model.specs.Orders.{SameAll, at_end, equal, in_any_order, one_by_one, is_unordered, next}
use Rattle.asn1_model.specs.ConstraintSets.{ConstraintSet}
use Rattle.asn1_model.specs.Records.{Content, Head, Name, Record, Records, scalar, scope, open_type, presence_mark, none, more, held, listed, listed-held, sequence, set, sequence_of, set_of, explicit_tag, alternative}
use Rattle.asn1_model.specs.Tags.{head_tag}
use Rattle.asn1_tags.specs.Tags.{tag_cmp, tag_eq}
use Rattle.asn1_tags.specs.declared.tags.Tag.{Tag}
use Rattle.asn1_der_items.specs.Bytes.{HasDer, HasNoDer, HaveDer, IsTooLong, SomeHasNoDer}
use Rattle.asn1_der_items.specs.Existence.{EachIsInRange, HasDerOrNone, IsInRange}
use Rattle.asn1_der_items.specs.Contents.{HasContents, HasNoContents}
use Rattle.asn1_der_items.specs.Series.{AreElements, HasOctets, HoldsContents, AscendByEncoding, AscendByTag, is_one_element, tag_of}
use Rattle.asn1_der_items.proofs.SomeEncoding.{below_both, some_contents, some_element}
use Rattle.asn1_der_items.proofs.SetOrders.{encodings_rank, tags_rank}
use Rattle.asn1_der_items.proofs.SomeOrder.{Reordered, reordered}

-- an element of some contents, or too many of them
element_or_none : (t : Tag) (constructed : Bool) (AreContents : List ℕ → Type 0) (contents : List ℕ) → t.value < 2 ^ 32 → AreContents contents → AllBelowBase 256 contents → HasOctets (HoldsContents AreContents t constructed) ⊎ (2 ^ 64 ≤ length contents)
element_or_none t constructed AreContents contents fits are below = by (cases_lt (length contents) (2 ^ 64))
  where
    by : (length contents < 2 ^ 64) ⊎ (2 ^ 64 ≤ length contents) → HasOctets (HoldsContents AreContents t constructed) ⊎ (2 ^ 64 ≤ length contents)
    by (inr long) = inr long
    by (inl short) =
        let e = some_element t constructed contents fits short below in
        inl (record { octets = e.octets; are = record { contents = contents; are = are; element = e.are }; are_octets = e.are_octets })

-- the orders of a SET and of a SET OF
by_tag : (x y : List ℕ) → is_lt (tag_cmp (tag_of x) (tag_of y)) ≡ true → is_lt (tag_cmp (tag_of y) (tag_of x)) ≡ false
by_tag = tags_rank.one_way

by_encoding : (x y : List ℕ) → is_lt (slice_cmp nat_cmp x y) ≡ true → is_lt (slice_cmp nat_cmp y x) ≡ false
by_encoding = encodings_rank.one_way

-- Records have DER or none, in some order inside sets.
record HaveDerOrNone (rs : Records) : Type 0 where
  pub ordered : Records
  pub same : SameAll rs ordered
  pub either : HasOctets (HaveDer ordered) ⊎ SomeHasNoDer ordered

-- what is inside in its order
defined : (h : Head) (rs ordered : Records) (inside : List ℕ) → (head_tag h).value < 2 ^ 32 → SameAll rs ordered → HaveDer ordered inside → AllBelowBase 256 inside →
    ((bytes : List ℕ) → HoldsContents (HaveDer ordered) (head_tag h) true bytes → HasDer (scope h ordered) bytes) → (IsTooLong (HaveDer ordered) → HasNoDer (scope h ordered)) → HasDerOrNone (scope h rs)
defined h rs ordered inside fits same are below der too_long = record { ordered = scope h ordered; same = one_by_one h same; either = by (element_or_none (head_tag h) true (HaveDer ordered) inside fits are below) }
  where
    by : HasOctets (HoldsContents (HaveDer ordered) (head_tag h) true) ⊎ (2 ^ 64 ≤ length inside) → HasOctets (HasDer (scope h ordered)) ⊎ HasNoDer (scope h ordered)
    by (inl e) = inl (record { octets = e.octets; are = der e.octets e.are; are_octets = e.are_octets })
    by (inr long) = inr (too_long (record { inside = inside; are = are; are_octets = below; long = long }))

-- what is inside in the order of a set
in_a_set : (h : Head) (AreInOrder : List (List ℕ) → Type 0) (rs ordered : Records) → (head_tag h).value < 2 ^ 32 → is_unordered h ≡ true → SameAll rs ordered → Reordered AreInOrder (listed ordered) →
    ((ss : Records) (bytes : List ℕ) → HoldsContents (λ inside. HaveDer ss inside × AreElements AreInOrder inside) (head_tag h) true bytes → HasDer (scope h ss) bytes) → ((ss : Records) → IsTooLong (HaveDer ss) → HasNoDer (scope h ss)) → HasDerOrNone (scope h rs)
in_a_set h AreInOrder rs ordered fits unordered same r der too_long = record {
  ordered = scope h ss;
  same = in_any_order h unordered same (subst (IsPermutation (listed ordered)) (sym (listed-held r.all)) r.permutation);
  either = by (element_or_none (head_tag h) true (λ inside. HaveDer ss inside × AreElements AreInOrder inside) r.bytes fits (r.der, r.in_order) r.are_octets);
}
  where
    ss : Records
    ss = held r.all

    by : HasOctets (HoldsContents (λ inside. HaveDer ss inside × AreElements AreInOrder inside) (head_tag h) true) ⊎ (2 ^ 64 ≤ length r.bytes) → HasOctets (HasDer (scope h ss)) ⊎ HasNoDer (scope h ss)
    by (inl e) = inl (record { octets = e.octets; are = der ss e.octets e.are; are_octets = e.are_octets })
    by (inr long) = inr (too_long ss (record { inside = r.bytes; are = r.der; are_octets = r.are_octets; long = long }))

scope_or_none : (h : Head) (rs ordered : Records) (inside : List ℕ) → (head_tag h).value < 2 ^ 32 → SameAll rs ordered → HaveDer ordered inside → AllBelowBase 256 inside → HasDerOrNone (scope h rs)
scope_or_none (sequence t table n) rs ordered inside fits same are below = defined (sequence t table n) rs ordered inside fits same are below (λ bytes d. d) (λ long. inr long)
scope_or_none (sequence_of t c n) rs ordered inside fits same are below = defined (sequence_of t c n) rs ordered inside fits same are below (λ bytes d. d) (λ long. inr long)
scope_or_none (explicit_tag t n) rs ordered inside fits same are below = defined (explicit_tag t n) rs ordered inside fits same are below (λ bytes d. d) (λ long. inr long)
scope_or_none (set t table n) rs ordered inside fits same are below =
    let r = reordered (λ x y. is_lt (tag_cmp (tag_of x) (tag_of y))) by_tag (listed ordered) inside below (subst (λ l. HaveDer l inside) (sym (held-listed ordered)) are) in
    in_a_set (set t table n) AscendByTag rs ordered fits refl same r (λ ss bytes d. d) (λ ss long. inr long)
scope_or_none (set_of t c n) rs ordered inside fits same are below =
    let r = reordered (λ x y. is_lt (slice_cmp nat_cmp x y)) by_encoding (listed ordered) inside below (subst (λ l. HaveDer l inside) (sym (held-listed ordered)) are) in
    in_a_set (set_of t c n) AscendByEncoding rs ordered fits refl same r (λ ss bytes d. d) (λ ss long. inr long)
scope_or_none (alternative t c table n) rs ordered inside fits same are below = record { ordered = scope (alternative t c table n) ordered; same = one_by_one (alternative t c table n) same; either = by (is_one_element inside && tag_eq (tag_of inside) t) refl }
  where
    by : (b : Bool) → (is_one_element inside && tag_eq (tag_of inside) t) ≡ b → HasOctets (HasDer (scope (alternative t c table n) ordered)) ⊎ HasNoDer (scope (alternative t c table n) ordered)
    by true e = inl (record { octets = inside; are = (are, e); are_octets = below })
    by false e = inr (inr (record { inside = inside; are = are; not = λ is. true≢false (sym is ∙ e) }))

scalar_or_none : (t : Tag) (c : ConstraintSet) (n : Name) (x : Content) → t.value < 2 ^ 32 → HasOctets (HasContents x) ⊎ HasNoContents x → HasDerOrNone (scalar t c n x)
scalar_or_none t c n x fits (inr lacks) = record { ordered = scalar t c n x; same = equal (scalar t c n x); either = inr (inl lacks) }
scalar_or_none t c n x fits (inl o) = record { ordered = scalar t c n x; same = equal (scalar t c n x); either = by (element_or_none t false (HasContents x) o.octets fits o.are o.are_octets) }
  where
    by : HasOctets (HoldsContents (HasContents x) t false) ⊎ (2 ^ 64 ≤ length o.octets) → HasOctets (HasDer (scalar t c n x)) ⊎ HasNoDer (scalar t c n x)
    by (inl e) = inl e
    by (inr long) = inr (inr (record { inside = o.octets; are = o.are; are_octets = o.are_octets; long = long }))

scope_from : (h : Head) (rs : Records) → (head_tag h).value < 2 ^ 32 → HaveDerOrNone rs → HasDerOrNone (scope h rs)
scope_from h rs fits i = by i.either
  where
    by : HasOctets (HaveDer i.ordered) ⊎ SomeHasNoDer i.ordered → HasDerOrNone (scope h rs)
    by (inl b) = scope_or_none h rs i.ordered b.octets fits i.same b.are b.are_octets
    by (inr some) = record { ordered = scope h i.ordered; same = one_by_one h i.same; either = inr (inl some) }

open_type_or_none : (n : Name) (own : List ℕ) → AllBelowBase 256 own → HasDerOrNone (open_type n own)
open_type_or_none n own below = record { ordered = open_type n own; same = equal (open_type n own); either = by (is_one_element own) refl }
  where
    by : (b : Bool) → is_one_element own ≡ b → HasOctets (HasDer (open_type n own)) ⊎ HasNoDer (open_type n own)
    by true e = inl (record { octets = own; are = (refl, e); are_octets = below })
    by false e = inr e

more_or_none : (r : Record) (rs : Records) → HasDerOrNone r → HaveDerOrNone rs → HaveDerOrNone (more r rs)
more_or_none r rs first later = record { ordered = more first.ordered later.ordered; same = next first.same later.same; either = by first.either later.either }
  where
    by : HasOctets (HasDer first.ordered) ⊎ HasNoDer first.ordered → HasOctets (HaveDer later.ordered) ⊎ SomeHasNoDer later.ordered → HasOctets (HaveDer (more first.ordered later.ordered)) ⊎ SomeHasNoDer (more first.ordered later.ordered)
    by (inr lacks) others = inr (inl lacks)
    by (inl own) (inr lacks) = inr (inr lacks)
    by (inl own) (inl others) = inl (record {
      octets = own.octets ++ others.octets;
      are = record { first = own.octets; others = others.octets; is_first = own.are; are_others = others.are; are = refl };
      are_octets = below_both own.octets others.octets own.are_octets others.are_octets;
    })

mutual
  pub der_or_none : (r : Record) → IsInRange r → HasDerOrNone r
  der_or_none (scalar t c n x) fits = scalar_or_none t c n x fits.0 (some_contents x fits.1)
  der_or_none (scope h rs) fits = scope_from h rs fits.0 (ders_or_none rs fits.1)
  der_or_none (open_type n own) below = open_type_or_none n own below
  der_or_none (presence_mark m) fits = record { ordered = presence_mark m; same = equal (presence_mark m); either = inl (record { octets = []; are = refl; are_octets = tt }) }

  ders_or_none : (rs : Records) → EachIsInRange rs → HaveDerOrNone rs
  ders_or_none none fits = record { ordered = none; same = at_end; either = inl (record { octets = []; are = refl; are_octets = tt }) }
  ders_or_none (more r rs) fits = more_or_none r rs (der_or_none r fits.0) (ders_or_none rs fits.1)
