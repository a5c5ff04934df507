-- The members of the intersection of two bounds.
use Rattle.std.proofs.Common.{◌≡◌, ◌↔◌, ℤ, pos, ◌≤ℤ◌, Bool, true, false, cond, ◌||◌, Option, Some, None, refl, ap, arith, rules}
use Rattle.std.specs.Prelude.{IsSomeAnd, IfSome, IfNone, int_lt}
use Rattle.std.proofs.lemmas.Int.{ints}
use Rattle.asn1_ranges.specs.Ends.{start_of, end_of, is_single}
use Rattle.asn1_ranges.specs.Intersection.{greater_start, lesser_end, bound_between, common, intersection}
use Rattle.asn1_ranges.specs.Members.{IsFrom, IsUpTo, IsMember, IsOrdered}
use Rattle.asn1_ranges.specs.declared.bounded.Bounded.{Bounded}
use Rattle.asn1_ranges.specs.declared.bounded.Bounded.TheVariants as bounded

IfSome-map : {T : Type 0} {P Q : T → Type 0} (o : Option T) → ((x : T) → P x → Q x) → IfSome o P → IfSome o Q
IfSome-map None f h = h
IfSome-map (Some x) f h = f x h

IfNone-map : {T P Q : Type 0} (o : Option T) → (P → Q) → IfNone o P → IfNone o Q
IfNone-map None f h = f h
IfNone-map (Some x) f h = h

module _ {T : Type 0} (number : T → ℤ) where
  from-greater_start : (a b : Option T) (n : ℤ) → IsFrom number (greater_start number a b) n ↔ (IsFrom number a n × IsFrom number b n)
  from-greater_start None b n = search rules
  from-greater_start (Some x) None n = search rules
  from-greater_start (Some x) (Some y) n = grind (arith, ints)

  up_to-lesser_end : (a b : Option T) (n : ℤ) → IsUpTo number (lesser_end number a b) n ↔ (IsUpTo number a n × IsUpTo number b n)
  up_to-lesser_end None b n = search rules
  up_to-lesser_end (Some x) None n = search rules
  up_to-lesser_end (Some x) (Some y) n = grind (arith, ints)

  -- the members of a bound lie between its ends
  member-ends : (b : Bounded T) (n : ℤ) → IsMember number b n ↔ (IsFrom number (start_of b) n × IsUpTo number (end_of b) n)
  member-ends bounded.None n = search rules
  member-ends (bounded.Single v) n = grind (arith, ints)
  member-ends (bounded.Range start end) n = (λ h. h, λ h. h)

  -- if the bound between two ends is to be a single, both are there, and the end is not above the start
  abbrev pub IsTight : Bool → Option T → Option T → Type 0
  IsTight single s e = single ≡ true → IsSomeAnd s (λ x. IsSomeAnd e (λ y. number y ≤ℤ number x))

  pub tight-ends : (b : Bounded T) → IsTight (is_single b) (start_of b) (end_of b)
  tight-ends bounded.None k = cc
  tight-ends (bounded.Single v) k = omega (arith, ints)
  tight-ends (bounded.Range start end) k = cc

  tight-left : (s s' e e' : Option T) → IsSomeAnd s (λ x. IsSomeAnd e (λ y. number y ≤ℤ number x)) → IsSomeAnd (greater_start number s s') (λ x. IsSomeAnd (lesser_end number e e') (λ y. number y ≤ℤ number x))
  tight-left None s' e e' h = absurd h
  tight-left (Some x) s' None e' h = absurd h
  tight-left (Some x) None (Some y) None h = h
  tight-left (Some x) None (Some y) (Some y') h = grind (arith, ints)
  tight-left (Some x) (Some x') (Some y) None h = grind (arith, ints)
  tight-left (Some x) (Some x') (Some y) (Some y') h = grind (arith, ints)

  tight-right : (s s' e e' : Option T) → IsSomeAnd s' (λ x. IsSomeAnd e' (λ y. number y ≤ℤ number x)) → IsSomeAnd (greater_start number s s') (λ x. IsSomeAnd (lesser_end number e e') (λ y. number y ≤ℤ number x))
  tight-right s None e e' h = absurd h
  tight-right s (Some x) e None h = absurd h
  tight-right None (Some x) None (Some y) h = h
  tight-right None (Some x) (Some y') (Some y) h = grind (arith, ints)
  tight-right (Some x') (Some x) None (Some y) h = grind (arith, ints)
  tight-right (Some x') (Some x) (Some y') (Some y) h = grind (arith, ints)

  pub tight-both : (k k' : Bool) (s s' e e' : Option T) → IsTight k s e → IsTight k' s' e' → IsTight (k || k') (greater_start number s s') (lesser_end number e e')
  tight-both true k' s s' e e' p q single = tight-left s s' e e' (p refl)
  tight-both false k' s s' e e' p q single = tight-right s s' e e' (q single)

  module _ (x y : T) where
    chosen-members : (none single : Bool) → int_lt (number y) (number x) ≡ none → (single ≡ true → number y ≤ℤ number x) →
        IfSome (cond none None (Some (cond single (bounded.Single x) (bounded.Range (Some x) (Some y))))) (λ both. (n : ℤ) → IsMember number both n ↔ ((number x ≤ℤ n) × (n ≤ℤ number y)))
    chosen-members true single e h = tt
    chosen-members false true e h = λ n. let le = h refl in grind (arith, ints)
    chosen-members false false e h = λ n. (λ m. m, λ m. m)

    chosen-disjoint : (none : Bool) (b : Bounded T) → int_lt (number y) (number x) ≡ none →
        IfNone (cond none None (Some b)) ((n : ℤ) → number x ≤ℤ n → n ≤ℤ number y → ⊥)
    chosen-disjoint true b h = λ n p q. grind (arith, ints)
    chosen-disjoint false b h = tt

    chosen-inhabited : (none single : Bool) → int_lt (number y) (number x) ≡ none →
        IfSome (cond none None (Some (cond single (bounded.Single x) (bounded.Range (Some x) (Some y))))) (λ both. (n : ℤ) × IsMember number both n)
    chosen-inhabited true single h = tt
    chosen-inhabited false true h = (number x, refl)
    chosen-inhabited false false h = (number x, (grind (arith, ints), grind (arith, ints)))

  between-members : (single : Bool) (s e : Option T) → IsTight single s e → IfSome (bound_between number single s e) (λ both. (n : ℤ) → IsMember number both n ↔ (IsFrom number s n × IsUpTo number e n))
  between-members single None e h = λ n. (λ m. m, λ m. m)
  between-members single (Some x) None h = λ n. (λ m. m, λ m. m)
  between-members single (Some x) (Some y) h = chosen-members x y (int_lt (number y) (number x)) single refl h

  between-disjoint : (single : Bool) (s e : Option T) → IfNone (bound_between number single s e) ((n : ℤ) → IsFrom number s n → IsUpTo number e n → ⊥)
  between-disjoint single None e = tt
  between-disjoint single (Some x) None = tt
  between-disjoint single (Some x) (Some y) = chosen-disjoint x y (int_lt (number y) (number x)) _ refl

  between-inhabited : (single : Bool) (s e : Option T) → IfSome (bound_between number single s e) (λ both. (n : ℤ) × IsMember number both n)
  between-inhabited single None None = (pos 0, (tt, tt))
  between-inhabited single None (Some y) = (number y, (tt, omega (arith, ints)))
  between-inhabited single (Some x) None = (number x, (omega (arith, ints), tt))
  between-inhabited single (Some x) (Some y) = chosen-inhabited x y (int_lt (number y) (number x)) single refl

  -- a bound that is not inverted has a member
  pub ordered-inhabited : (b : Bounded T) → IsOrdered number b → (n : ℤ) × IsMember number b n
  ordered-inhabited bounded.None h = (pos 0, tt)
  ordered-inhabited (bounded.Single v) h = (number v, refl)
  ordered-inhabited (bounded.Range None None) h = (pos 0, (tt, tt))
  ordered-inhabited (bounded.Range None (Some y)) h = (number y, (tt, omega (arith, ints)))
  ordered-inhabited (bounded.Range (Some x) None) h = (number x, (omega (arith, ints), tt))
  ordered-inhabited (bounded.Range (Some x) (Some y)) h = (number x, (omega (arith, ints), h))

  module _ (a b : Bounded T) where
    ends-of-both : (n : ℤ) → (IsFrom number (greater_start number (start_of a) (start_of b)) n × IsUpTo number (lesser_end number (end_of a) (end_of b)) n) ↔ (IsMember number a n × IsMember number b n)
    ends-of-both n =
        let f = from-greater_start (start_of a) (start_of b) n in
        let u = up_to-lesser_end (end_of a) (end_of b) n in
        let p = member-ends a n in
        let q = member-ends b n in
        (λ h. (p.1 ((f.0 h.0).0, (u.0 h.1).0), q.1 ((f.0 h.0).1, (u.0 h.1).1)), λ h. (f.1 ((p.0 h.0).0, (q.0 h.1).0), u.1 ((p.0 h.0).1, (q.0 h.1).1)))

    common-members : IfSome (common number a b) (λ both. (n : ℤ) → IsMember number both n ↔ (IsMember number a n × IsMember number b n))
    common-members =
        IfSome-map (common number a b)
        (λ both h n. (λ m. (ends-of-both n).0 ((h n).0 m), λ m. (h n).1 ((ends-of-both n).1 m)))
        (between-members (is_single a || is_single b) (greater_start number (start_of a) (start_of b)) (lesser_end number (end_of a) (end_of b)) (tight-both (is_single a) (is_single b) (start_of a) (start_of b) (end_of a) (end_of b) (tight-ends a) (tight-ends b)))

    common-disjoint : IfNone (common number a b) ((n : ℤ) → IsMember number a n → IsMember number b n → ⊥)
    common-disjoint =
        IfNone-map (common number a b)
        (λ h n p q. let ends = (ends-of-both n).1 (p, q) in h n ends.0 ends.1)
        (between-disjoint (is_single a || is_single b) (greater_start number (start_of a) (start_of b)) (lesser_end number (end_of a) (end_of b)))

    common-inhabited : IfSome (common number a b) (λ both. (n : ℤ) × IsMember number both n)
    common-inhabited = between-inhabited (is_single a || is_single b) (greater_start number (start_of a) (start_of b)) (lesser_end number (end_of a) (end_of b))

  -- the members of an intersection are the common ones
  pub intersection-members : (a b : Bounded T) → IfSome (intersection number a b) (λ both. (n : ℤ) → IsMember number both n ↔ (IsMember number a n × IsMember number b n))
  intersection-members bounded.None b = λ n. (λ m. (tt, m), λ m. m.1)
  intersection-members (bounded.Single v) bounded.None = λ n. (λ m. (m, tt), λ m. m.0)
  intersection-members (bounded.Single v) (bounded.Single w) = common-members (bounded.Single v) (bounded.Single w)
  intersection-members (bounded.Single v) (bounded.Range s e) = common-members (bounded.Single v) (bounded.Range s e)
  intersection-members (bounded.Range s e) bounded.None = λ n. (λ m. (m, tt), λ m. m.0)
  intersection-members (bounded.Range s e) (bounded.Single w) = common-members (bounded.Range s e) (bounded.Single w)
  intersection-members (bounded.Range s e) (bounded.Range s' e') = common-members (bounded.Range s e) (bounded.Range s' e')

  -- if there is no intersection, nothing is in common
  pub intersection-disjoint : (a b : Bounded T) → IfNone (intersection number a b) ((n : ℤ) → IsMember number a n → IsMember number b n → ⊥)
  intersection-disjoint bounded.None b = tt
  intersection-disjoint (bounded.Single v) bounded.None = tt
  intersection-disjoint (bounded.Single v) (bounded.Single w) = common-disjoint (bounded.Single v) (bounded.Single w)
  intersection-disjoint (bounded.Single v) (bounded.Range s e) = common-disjoint (bounded.Single v) (bounded.Range s e)
  intersection-disjoint (bounded.Range s e) bounded.None = tt
  intersection-disjoint (bounded.Range s e) (bounded.Single w) = common-disjoint (bounded.Range s e) (bounded.Single w)
  intersection-disjoint (bounded.Range s e) (bounded.Range s' e') = common-disjoint (bounded.Range s e) (bounded.Range s' e')

  -- if neither side is inverted, an intersection has a member
  pub intersection-inhabited : (a b : Bounded T) → IsOrdered number a → IsOrdered number b → IfSome (intersection number a b) (λ both. (n : ℤ) × IsMember number both n)
  intersection-inhabited bounded.None b p q = ordered-inhabited b q
  intersection-inhabited (bounded.Single v) bounded.None p q = ordered-inhabited (bounded.Single v) p
  intersection-inhabited (bounded.Single v) (bounded.Single w) p q = common-inhabited (bounded.Single v) (bounded.Single w)
  intersection-inhabited (bounded.Single v) (bounded.Range s e) p q = common-inhabited (bounded.Single v) (bounded.Range s e)
  intersection-inhabited (bounded.Range s e) bounded.None p q = ordered-inhabited (bounded.Range s e) p
  intersection-inhabited (bounded.Range s e) (bounded.Single w) p q = common-inhabited (bounded.Range s e) (bounded.Single w)
  intersection-inhabited (bounded.Range s e) (bounded.Range s' e') p q = common-inhabited (bounded.Range s e) (bounded.Range s' e')

  module _ (distinct : (a b : T) → number a ≡ number b → a ≡ b) where
    chosen-start : (v x : T) (test : Bool) → int_lt (number x) (number v) ≡ test → number x ≤ℤ number v → cond test v x ≡ v
    chosen-start v x true e h = refl
    chosen-start v x false e h = distinct x v (grind (arith, ints))

    chosen-end : (v y : T) (test : Bool) → int_lt (number y) (number v) ≡ test → number v ≤ℤ number y → cond test y v ≡ v
    chosen-end v y true e h = absurd (grind (arith, ints))
    chosen-end v y false e h = refl

    start-held : (v : T) (s : Option T) → IsFrom number s (number v) → greater_start number (Some v) s ≡ Some v
    start-held v None h = refl
    start-held v (Some x) h = ap Some (chosen-start v x (int_lt (number x) (number v)) refl h)

    end-held : (v : T) (e : Option T) → IsUpTo number e (number v) → lesser_end number (Some v) e ≡ Some v
    end-held v None h = refl
    end-held v (Some y) h = ap Some (chosen-end v y (int_lt (number y) (number v)) refl h)

    single-between : (v : T) → bound_between number true (Some v) (Some v) ≡ Some (bounded.Single v)
    single-between v = grind (arith, ints)

    single-common : (v : T) (b : Bounded T) → IsMember number b (number v) → common number (bounded.Single v) b ≡ Some (bounded.Single v)
    single-common v b h =
        let ends = (member-ends b (number v)).0 h in
        rw (start-held v (start_of b) ends.0, end-held v (end_of b) ends.1) (single-between v)

    -- a single with a bound that holds it
    pub single-intersection : (v : T) (b : Bounded T) → IsMember number b (number v) → intersection number (bounded.Single v) b ≡ Some (bounded.Single v)
    single-intersection v bounded.None h = refl
    single-intersection v (bounded.Single w) h = single-common v (bounded.Single w) h
    single-intersection v (bounded.Range s e) h = single-common v (bounded.Range s e) h

  -- consequences of an answer that is the intersection
  pub record IsCommon (a b : Bounded T) (answer : Option (Bounded T)) : Type 0 where
    pub members : IfSome answer (λ both. (n : ℤ) → IsMember number both n ↔ (IsMember number a n × IsMember number b n))
    pub disjoint : IfNone answer ((n : ℤ) → IsMember number a n → IsMember number b n → ⊥)
    pub inhabited : IsOrdered number a → IsOrdered number b → IfSome answer (λ both. (n : ℤ) × IsMember number both n)
    pub single : (v : T) → a ≡ bounded.Single v → IsMember number b (number v) → answer ≡ Some a

  pub intersection-IsCommon : (distinct : (a b : T) → number a ≡ number b → a ≡ b) (a b : Bounded T) (answer : Option (Bounded T)) → answer ≡ intersection number a b → IsCommon a b answer
  intersection-IsCommon distinct a b answer shape =
      rw shape (record {
        members = intersection-members a b;
        disjoint = intersection-disjoint a b;
        inhabited = intersection-inhabited a b;
        single = λ v is held. rw is (single-intersection distinct v b held);
      })

  -- the intersection with no bound on the right
  pub intersection-None : (a b : Bounded T) → b ≡ bounded.None → Some a ≡ intersection number a b
  intersection-None bounded.None b e = rw e refl
  intersection-None (bounded.Single v) b e = rw e refl
  intersection-None (bounded.Range start end) b e = rw e refl

  -- the intersection of two bounds that both restrict
  pub intersection-common : (a b : Bounded T) → (a ≡ bounded.None → ⊥) → (b ≡ bounded.None → ⊥) → common number a b ≡ intersection number a b
  intersection-common bounded.None b p q = absurd (p refl)
  intersection-common (bounded.Single v) bounded.None p q = absurd (q refl)
  intersection-common (bounded.Single v) (bounded.Single w) p q = refl
  intersection-common (bounded.Single v) (bounded.Range s e) p q = refl
  intersection-common (bounded.Range s e) bounded.None p q = absurd (q refl)
  intersection-common (bounded.Range s e) (bounded.Single w) p q = refl
  intersection-common (bounded.Range s e) (bounded.Range s' e') p q = refl
