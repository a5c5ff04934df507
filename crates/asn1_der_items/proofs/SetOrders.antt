-- The orders of the elements of a SET, by their tags, and of a SET OF, by their encodings.
use Rattle.std.proofs.Common.{◌≡◌, ℕ, ◌<◌, true, false, List, Ordering, refl, ap, ◌∙◌}
use Rattle.std.proofs.lemmas.List.MinMax.{ranks_by}
use Rattle.std.specs.Cmp.{IsStrictWeakOrder, IsTotalOrder, ranks}
use Rattle.std.specs.Cmp.Lexicographic.{bytes_decides, nat_list_cmp_total, slice_cmp, texts_ties}
use Rattle.std.specs.Ordering.{MatchOrdering, is_eq, is_lt, nat_cmp, ordering_reverse, ordering_then}
use Rattle.std.specs.declared.cmp.Ordering.TheVariants.{Less, Equal, Greater}
use Rattle.asn1_tags.specs.OrderLaws.{same_tag, tag_total}
use Rattle.asn1_tags.specs.Tags.{class_number, tag_cmp}
use Rattle.asn1_der_items.specs.Series.{tag_of}

pub tags_rank : IsStrictWeakOrder (λ x y. is_lt (tag_cmp (tag_of x) (tag_of y)))
tags_rank = ranks_by tag_total tag_of

pub encodings_rank : IsStrictWeakOrder (λ x y. is_lt (slice_cmp nat_cmp x y))
encodings_rank = ranks_by nat_list_cmp_total (λ (x : List ℕ). x)

-- where neither is less, they are equal
neither_less : {K : Type 0} (R : K → K → Ordering) → IsTotalOrder R → (x y : K) → is_lt (R x y) ≡ false → is_lt (R y x) ≡ false → R x y ≡ Equal
neither_less R o x y first second = by (R x y) refl first
  where
    by : (r : Ordering) → R x y ≡ r → is_lt r ≡ false → r ≡ Equal
    by Less e not_less = cc
    by Equal e not_less = refl
    by Greater e not_less = let less : is_lt (R y x) ≡ true = ap is_lt (o.antisymm y x ∙ ap ordering_reverse e) in cc

then_equal : (r s : Ordering) → ordering_then r s ≡ Equal → (r ≡ Equal) × (s ≡ Equal)
then_equal Equal s e = (refl, e)
then_equal Less s e = cc
then_equal Greater s e = cc

same_number : (m n : ℕ) → nat_cmp m n ≡ Equal → m ≡ n
same_number m n e = by (nat_cmp m n) (ranks m n) e
  where
    by : (r : Ordering) → MatchOrdering r (m < n) (m ≡ n) (n < m) → r ≡ Equal → m ≡ n
    by Equal is e = is
    by Less is e = cc
    by Greater is e = cc

pub one_tag : (x y : List ℕ) → is_lt (tag_cmp (tag_of x) (tag_of y)) ≡ false → is_lt (tag_cmp (tag_of y) (tag_of x)) ≡ false → tag_of x ≡ tag_of y
one_tag x y first second =
    let e = then_equal (nat_cmp (class_number (tag_of x).class) (class_number (tag_of y).class)) (nat_cmp (tag_of x).value (tag_of y).value) (neither_less tag_cmp tag_total (tag_of x) (tag_of y) first second) in
    same_tag (tag_of x) (tag_of y) (same_number _ _ e.0) (same_number _ _ e.1)

pub one_encoding : (x y : List ℕ) → is_lt (slice_cmp nat_cmp x y) ≡ false → is_lt (slice_cmp nat_cmp y x) ≡ false → x ≡ y
one_encoding x y first second = (bytes_decides x y).0 (texts_ties x y ∙ ap is_eq (neither_less (slice_cmp nat_cmp) nat_list_cmp_total x y first second))
