-- The order of tags, and the smallest of them.
use Rattle.std.proofs.Common.{◌≡◌, ◌≢◌, ◌⊎◌, inl, inr, ℕ, zero, suc, Bool, true, false, List, [], ◌∷◌, ◌++◌, append_assoc, nat_lt, ◌<◌, All, Contains, Option, Some, None, fold, length, get_or, take, ◌+◌, cond, refl, sym, ap, ◌∙◌, subst, arith}
use Rattle.std.specs.Ordering.{is_lt}
use Rattle.std.proofs.lemmas.Bool.Decides.{nat_tests}
use Rattle.std.proofs.lemmas.Grind.{common_steps}
use Rattle.std.proofs.lemmas.List.Elements.{All-append, Contains-append_left, Contains-append_right}
use Rattle.asn1_tags.specs.Tags.{class_number, tag_cmp, IsAtMost, greatest, lesser, smallest, IsSmallest}
use Rattle.asn1_tags.specs.Walks.{lesser_of, IsSmallestIfAny}
use Rattle.asn1_tags.specs.declared.tags.Tag.{Tag}
use Rattle.asn1_tags.specs.OrderLaws.{same_tag}
use Rattle.asn1_tags.proofs.Leaves.{leaves_of-take}
use Rattle.asn1_tags.specs.Trees.{shape, shapes, leaves, leaves_of}
use Rattle.asn1_tags.specs.declared.trees.TagTree.{TagTree}
use Rattle.std.proofs.lemmas.List.{append-nil}

pub IsAtMost-refl : (t : Tag) → IsAtMost t t
IsAtMost-refl t = inr (refl, omega arith)

pub IsAtMost-trans : (s t u : Tag) → IsAtMost s t → IsAtMost t u → IsAtMost s u
IsAtMost-trans s t u (inl p) (inl q) = inl (omega arith)
IsAtMost-trans s t u (inl p) (inr q) = inl (omega arith)
IsAtMost-trans s t u (inr p) (inl q) = inl (omega arith)
IsAtMost-trans s t u (inr p) (inr q) = inr (p.0 ∙ q.0, omega arith)

pub IsAtMost-antisym : (s t : Tag) → IsAtMost s t → IsAtMost t s → s ≡ t
IsAtMost-antisym s t (inl p) (inl q) = absurd (omega arith)
IsAtMost-antisym s t (inl p) (inr q) = absurd (omega arith)
IsAtMost-antisym s t (inr p) (inl q) = absurd (omega arith)
IsAtMost-antisym s t (inr p) (inr q) = same_tag s t p.0 (omega arith)

-- a lesser tag is at most the other
pub IsAtMost-from_less : (s t : Tag) → is_lt (tag_cmp s t) ≡ true → IsAtMost s t
IsAtMost-from_less s t h = by_class (nat_lt (class_number s.class) (class_number t.class)) refl
  where
    by_class : (b : Bool) → nat_lt (class_number s.class) (class_number t.class) ≡ b → IsAtMost s t
    by_class true e = inl (grind (arith, nat_tests, common_steps))
    by_class false e = inr (grind (arith, nat_tests, common_steps), grind (arith, nat_tests, common_steps))

-- and what does not come before is at least
pub IsAtMost-from_not_less : (s t : Tag) → is_lt (tag_cmp s t) ≡ false → IsAtMost t s
IsAtMost-from_not_less s t h = by_class (nat_lt (class_number t.class) (class_number s.class)) refl
  where
    by_class : (b : Bool) → nat_lt (class_number t.class) (class_number s.class) ≡ b → IsAtMost t s
    by_class true e = inl (grind (arith, nat_tests, common_steps))
    by_class false e = inr (grind (arith, nat_tests, common_steps), grind (arith, nat_tests, common_steps))

-- the lesser of two tags is one of them, and at most each
lesser-cases : (s t : Tag) → (IsAtMost t s × (lesser s t ≡ t)) ⊎ (IsAtMost s t × (lesser s t ≡ s))
lesser-cases s t = by_test (is_lt (tag_cmp t s)) refl
  where
    by_test : (b : Bool) → is_lt (tag_cmp t s) ≡ b → (IsAtMost t s × (lesser s t ≡ t)) ⊎ (IsAtMost s t × (lesser s t ≡ s))
    by_test true e = inl (IsAtMost-from_less t s e, ap (λ b. cond b t s) e)
    by_test false e = inr (IsAtMost-from_not_less t s e, ap (λ b. cond b t s) e)

-- the order of tags is transitive
All-IsAtMost : (s t : Tag) (ts : List Tag) → IsAtMost s t → All (IsAtMost t) ts → All (IsAtMost s) ts
All-IsAtMost s t ts h all k d within = IsAtMost-trans s t (get_or ts k d) h (all k d within)

-- one list after another
pub IsSmallestIfAny-append : (ts us : List Tag) (a b : Option Tag) → IsSmallestIfAny ts a → IsSmallestIfAny us b →
    IsSmallestIfAny (ts ++ us) (lesser_of a b)
IsSmallestIfAny-append ts us None b h k = subst (λ xs. IsSmallestIfAny (xs ++ us) b) (sym h) k
IsSmallestIfAny-append ts us (Some s) None h k =
    subst (λ xs. IsSmallestIfAny (ts ++ xs) (Some s)) (sym k) (subst (λ xs. IsSmallestIfAny xs (Some s)) (sym (append-nil ts)) h)
IsSmallestIfAny-append ts us (Some s) (Some t) h k =
    elim (lesser-cases s t) [
      | inl p ↦ subst (λ x. IsSmallestIfAny (ts ++ us) (Some x)) (sym p.1)
          (Contains-append_right ts us t k.0, All-append (IsAtMost t) ts us (All-IsAtMost t s ts p.0 h.1) k.1)
      | inr p ↦ subst (λ x. IsSmallestIfAny (ts ++ us) (Some x)) (sym p.1)
          (Contains-append_left ts us s h.0, All-append (IsAtMost s) ts us h.1 (All-IsAtMost s t us p.0 k.1))
    ]

-- one tag alone
pub IsSmallestIfAny-one : (t : Tag) → IsSmallestIfAny (t ∷ []) (Some t)
IsSmallestIfAny-one t = ((0, omega arith, refl), only)
  where
    only : All (IsAtMost t) (t ∷ [])
    only zero d within = IsAtMost-refl t
    only (suc k) d within = absurd (omega arith)

-- one more tree
pub smallest_more : (ts : List TagTree) (i : ℕ) (d : TagTree) (a b : Option Tag) → i < length ts →
    IsSmallestIfAny (leaves_of (shapes (take i ts))) a → IsSmallestIfAny (leaves (shape (get_or ts i d))) b →
    IsSmallestIfAny (leaves_of (shapes (take (i + 1) ts))) (lesser_of a b)
smallest_more ts i d a b lt h k =
    subst (λ xs. IsSmallestIfAny xs (lesser_of a b)) (sym (leaves_of-take ts i d lt))
    (IsSmallestIfAny-append (leaves_of (shapes (take i ts))) (leaves (shape (get_or ts i d))) a b h k)

-- the smallest tag, where there is any
pub IsSmallest-from_some : (ts : List Tag) (t : Tag) → IsSmallestIfAny ts (Some t) → IsSmallest ts t
IsSmallest-from_some ts t h = record {
  among = λ _. h.0;
  least = h.1;
  none = λ e. let within : h.0.0 < length ts = h.0.1 in absurd (omega (arith, ap length e));
}

-- and if there is none
pub IsSmallest-from_none : (ts : List Tag) → IsSmallestIfAny ts None → IsSmallest ts greatest
IsSmallest-from_none ts h = record {
  among = λ some. absurd (some h);
  least = λ k d within. absurd (omega (arith, ap length h));
  none = λ _. refl;
}

nonempty : (ts : List Tag) → (ts ≡ []) ⊎ (ts ≢ [])
nonempty [] = inl refl
nonempty (t ∷ ts) = inr (λ e. cc)

-- the smallest of some tags is one alone
pub IsSmallest-alone : (ts : List Tag) (s t : Tag) → IsSmallest ts s → IsSmallest ts t → s ≡ t
IsSmallest-alone ts s t h k =
    elim (nonempty ts) [
      | inl e ↦ h.none e ∙ sym (k.none e)
      | inr some ↦ IsAtMost-antisym s t (above t s (k.among some) h.least) (above s t (h.among some) k.least)
    ]
  where
    above : (x y : Tag) → Contains ts x → All (IsAtMost y) ts → IsAtMost y x
    above x y among least = subst (IsAtMost y) among.2 (least among.0 x among.1)

smallest_onward : (xs ts : List Tag) (s : Tag) → IsSmallestIfAny xs (Some s) → IsSmallestIfAny (xs ++ ts) (Some (fold lesser s ts))
smallest_onward xs [] s h = subst (λ ys. IsSmallestIfAny ys (Some s)) (sym (append-nil xs)) h
smallest_onward xs (t ∷ ts) s h =
    let step = IsSmallestIfAny-append xs (t ∷ []) (Some s) (Some t) h (IsSmallestIfAny-one t) in
    subst (λ ys. IsSmallestIfAny ys (Some (fold lesser (lesser s t) ts))) (append_assoc xs (t ∷ []) ts)
    (smallest_onward (xs ++ t ∷ []) ts (lesser s t) step)

-- `smallest` is the smallest
pub smallest-is : (ts : List Tag) → IsSmallest ts (smallest ts)
smallest-is [] = IsSmallest-from_none [] refl
smallest-is (t ∷ ts) = IsSmallest-from_some (t ∷ ts) (fold lesser t ts) (smallest_onward (t ∷ []) ts t (IsSmallestIfAny-one t))

-- and nothing else is
pub smallest-from_is : (ts : List Tag) (t : Tag) → IsSmallest ts t → t ≡ smallest ts
smallest-from_is ts t h = IsSmallest-alone ts t (smallest ts) h (smallest-is ts)

-- the smallest tags of two lists compare as `smallest` does
pub smallest_cmp : (ts us : List Tag) (s t : Tag) → IsSmallest ts s → IsSmallest us t → tag_cmp s t ≡ tag_cmp (smallest ts) (smallest us)
smallest_cmp ts us s t h k = ap (λ x. tag_cmp x t) (smallest-from_is ts s h) ∙ ap (tag_cmp (smallest ts)) (smallest-from_is us t k)
