-- The laws of intersection, with a bound without members in place of none: it commutes, it associates, and its members
-- are the common ones.
use Rattle.std.proofs.Common.{◌≡◌, ◌↔◌, ◌∙◌, sym, ap, ℤ, ◌<ℤ◌, Bool, true, false, cond, ◌||◌, ◌⊎◌, inl, inr, Option, Some, None, refl, arith}
use Rattle.std.specs.Prelude.{IfSome, IfNone, int_lt, unwrap_or}
use Rattle.std.proofs.lemmas.Int.{ints}
use Rattle.std.proofs.Math.Bool.{or_comm, or_assoc}
use Rattle.asn1_ranges.specs.Ends.{start_of, end_of, is_single}
use Rattle.asn1_ranges.specs.Intersection.{greater_start, lesser_end, bound_between, common, intersection, intersection_or}
use Rattle.asn1_ranges.specs.Members.{IsMember}
use Rattle.asn1_ranges.specs.declared.bounded.Bounded.{Bounded}
use Rattle.asn1_ranges.specs.declared.bounded.Bounded.TheVariants as bounded
use Rattle.asn1_ranges.proofs.Intersecting.{IsTight, tight-ends, tight-both, intersection-members, intersection-disjoint, intersection-common}

module _ {T : Type 0} (number : T → ℤ) where
  greater_start-assoc : (a b c : Option T) → greater_start number (greater_start number a b) c ≡ greater_start number a (greater_start number b c)
  greater_start-assoc None b c = refl
  greater_start-assoc (Some x) None c = refl
  greater_start-assoc (Some x) (Some y) None = refl
  greater_start-assoc (Some x) (Some y) (Some z) = grind (arith, ints)

  lesser_end-assoc : (a b c : Option T) → lesser_end number (lesser_end number a b) c ≡ lesser_end number a (lesser_end number b c)
  lesser_end-assoc None b c = refl
  lesser_end-assoc (Some x) None c = refl
  lesser_end-assoc (Some x) (Some y) None = refl
  lesser_end-assoc (Some x) (Some y) (Some z) = grind (arith, ints)

  -- ends that are the wrong way round stay so
  inverted-stays : (single : Bool) (x y : T) (s e : Option T) → number y <ℤ number x → bound_between number single (greater_start number (Some x) s) (lesser_end number (Some y) e) ≡ None
  inverted-stays single x y None None h = grind (arith, ints)
  inverted-stays single x y None (Some e) h = grind (arith, ints)
  inverted-stays single x y (Some s) None h = grind (arith, ints)
  inverted-stays single x y (Some s) (Some e) h = grind (arith, ints)

  module _ (distinct : (a b : T) → number a ≡ number b → a ≡ b) where
    same-number : (x y : T) → int_lt (number y) (number x) ≡ false → int_lt (number x) (number y) ≡ false → x ≡ y
    same-number x y p q = distinct x y (grind (arith, ints))

    greater-comm : (x y : T) (p q : Bool) → int_lt (number y) (number x) ≡ p → int_lt (number x) (number y) ≡ q → cond p x y ≡ cond q y x
    greater-comm x y true true p q = absurd (grind (arith, ints))
    greater-comm x y true false p q = refl
    greater-comm x y false true p q = refl
    greater-comm x y false false p q = sym (same-number x y p q)

    lesser-comm : (x y : T) (p q : Bool) → int_lt (number y) (number x) ≡ p → int_lt (number x) (number y) ≡ q → cond p y x ≡ cond q x y
    lesser-comm x y true true p q = absurd (grind (arith, ints))
    lesser-comm x y true false p q = refl
    lesser-comm x y false true p q = refl
    lesser-comm x y false false p q = same-number x y p q

    greater_start-comm : (a b : Option T) → greater_start number a b ≡ greater_start number b a
    greater_start-comm None None = refl
    greater_start-comm None (Some y) = refl
    greater_start-comm (Some x) None = refl
    greater_start-comm (Some x) (Some y) = ap Some (greater-comm x y _ _ refl refl)

    lesser_end-comm : (a b : Option T) → lesser_end number a b ≡ lesser_end number b a
    lesser_end-comm None None = refl
    lesser_end-comm None (Some y) = refl
    lesser_end-comm (Some x) None = refl
    lesser_end-comm (Some x) (Some y) = ap Some (lesser-comm x y _ _ refl refl)

    common-comm : (a b : Bounded T) → common number a b ≡ common number b a
    common-comm a b = rw (or_comm (is_single a) (is_single b), greater_start-comm (start_of a) (start_of b), lesser_end-comm (end_of a) (end_of b)) refl

    intersection-comm : (a b : Bounded T) → intersection number a b ≡ intersection number b a
    intersection-comm bounded.None bounded.None = refl
    intersection-comm bounded.None (bounded.Single w) = refl
    intersection-comm bounded.None (bounded.Range s e) = refl
    intersection-comm (bounded.Single v) bounded.None = refl
    intersection-comm (bounded.Single v) (bounded.Single w) = common-comm (bounded.Single v) (bounded.Single w)
    intersection-comm (bounded.Single v) (bounded.Range s e) = common-comm (bounded.Single v) (bounded.Range s e)
    intersection-comm (bounded.Range s e) bounded.None = refl
    intersection-comm (bounded.Range s e) (bounded.Single w) = common-comm (bounded.Range s e) (bounded.Single w)
    intersection-comm (bounded.Range s e) (bounded.Range s' e') = common-comm (bounded.Range s e) (bounded.Range s' e')

    -- the bound in place of no intersection: the range from x to a lesser y
    module _ (x y : T) (inverted : number y <ℤ number x) where
      abbrev empty : Bounded T
      empty = bounded.Range (Some x) (Some y)

      abbrev between_or : Bool → Option T → Option T → Bounded T
      between_or single s e = unwrap_or (bound_between number single s e) empty

      abbrev common_or : Bounded T → Bounded T → Bounded T
      common_or a b = unwrap_or (common number a b) empty

      chosen-common : (none single : Bool) (p q : T) (b : Bounded T) → int_lt (number q) (number p) ≡ none → IsTight number single (Some p) (Some q) →
          common_or (unwrap_or (cond none None (Some (cond single (bounded.Single p) (bounded.Range (Some p) (Some q))))) empty) b
          ≡ between_or (single || is_single b) (greater_start number (Some p) (start_of b)) (lesser_end number (Some q) (end_of b))
      chosen-common true single p q b test tight =
          let below : number q <ℤ number p = grind (arith, ints) in
          ap (λ o. unwrap_or o empty) (inverted-stays (is_single b) x y (start_of b) (end_of b) inverted)
          ∙ sym (ap (λ o. unwrap_or o empty) (inverted-stays (single || is_single b) p q (start_of b) (end_of b) below))
      chosen-common false true p q b test tight =
          let order = tight refl in
          let same : p ≡ q = distinct p q (grind (arith, ints)) in
          ap (λ r. between_or (true || is_single b) (greater_start number (Some p) (start_of b)) (lesser_end number (Some r) (end_of b))) same
      chosen-common false false p q b test tight = refl

      -- a bound between two ends, restricted further
      between-common : (single : Bool) (s e : Option T) (b : Bounded T) → IsTight number single s e →
          common_or (between_or single s e) b ≡ between_or (single || is_single b) (greater_start number s (start_of b)) (lesser_end number e (end_of b))
      between-common true None e b tight = absurd (tight refl)
      between-common false None e b tight = refl
      between-common true (Some p) None b tight = absurd (tight refl)
      between-common false (Some p) None b tight = refl
      between-common single (Some p) (Some q) b tight = chosen-common (int_lt (number q) (number p)) single p q b refl tight

      chosen-restricts : (none single : Bool) (p q : T) → unwrap_or (cond none None (Some (cond single (bounded.Single p) (bounded.Range (Some p) (Some q))))) empty ≡ bounded.None → ⊥
      chosen-restricts true single p q h = cc
      chosen-restricts false true p q h = cc
      chosen-restricts false false p q h = cc

      between-restricts : (single : Bool) (s e : Option T) → between_or single s e ≡ bounded.None → ⊥
      between-restricts single None e h = cc
      between-restricts single (Some p) None h = cc
      between-restricts single (Some p) (Some q) h = chosen-restricts (int_lt (number q) (number p)) single p q h

      module _ (a b c : Bounded T) (given : a ≡ bounded.None → ⊥) (given' : b ≡ bounded.None → ⊥) (given'' : c ≡ bounded.None → ⊥) where
        at-common : (p q : Bounded T) → (p ≡ bounded.None → ⊥) → (q ≡ bounded.None → ⊥) → intersection_or number empty p q ≡ common_or p q
        at-common p q h k = ap (λ o. unwrap_or o empty) (sym (intersection-common number p q h k))

        common-restricts : (p q : Bounded T) → common_or p q ≡ bounded.None → ⊥
        common-restricts p q = between-restricts (is_single p || is_single q) (greater_start number (start_of p) (start_of q)) (lesser_end number (end_of p) (end_of q))

        three : (p q r : Bounded T) → (p ≡ bounded.None → ⊥) → (q ≡ bounded.None → ⊥) → (r ≡ bounded.None → ⊥) → intersection_or number empty (intersection_or number empty p q) r
            ≡ between_or ((is_single p || is_single q) || is_single r) (greater_start number (greater_start number (start_of p) (start_of q)) (start_of r)) (lesser_end number (lesser_end number (end_of p) (end_of q)) (end_of r))
        three p q r h k m =
            ap (λ b. intersection_or number empty b r) (at-common p q h k)
            ∙ at-common (common_or p q) r (common-restricts p q) m
            ∙ between-common (is_single p || is_single q) (greater_start number (start_of p) (start_of q)) (lesser_end number (end_of p) (end_of q)) r
            (tight-both number (is_single p) (is_single q) (start_of p) (start_of q) (end_of p) (end_of q) (tight-ends number p) (tight-ends number q))

        restricting-assoc : intersection_or number empty (intersection_or number empty a b) c ≡ intersection_or number empty a (intersection_or number empty b c)
        restricting-assoc =
            three a b c given given' given''
            ∙ rw (or_assoc (is_single a) (is_single b) (is_single c), greater_start-assoc (start_of a) (start_of b) (start_of c), lesser_end-assoc (end_of a) (end_of b) (end_of c))
            (rw (or_comm (is_single a) (is_single b || is_single c), greater_start-comm (start_of a) (greater_start number (start_of b) (start_of c)), lesser_end-comm (end_of a) (lesser_end number (end_of b) (end_of c)))
            (sym (three b c a given' given'' given)))
            ∙ ap (λ o. unwrap_or o empty) (intersection-comm (intersection_or number empty b c) a)

      none-right : (a : Bounded T) → intersection_or number empty a bounded.None ≡ a
      none-right bounded.None = refl
      none-right (bounded.Single v) = refl
      none-right (bounded.Range s e) = refl

      restricts_or_not : (a : Bounded T) → (a ≡ bounded.None) ⊎ (a ≡ bounded.None → ⊥)
      restricts_or_not bounded.None = inl refl
      restricts_or_not (bounded.Single v) = inr (λ h. cc)
      restricts_or_not (bounded.Range s e) = inr (λ h. cc)

      pub intersection_or-comm : (a b : Bounded T) → intersection_or number empty a b ≡ intersection_or number empty b a
      intersection_or-comm a b = ap (λ o. unwrap_or o empty) (intersection-comm a b)

      pub intersection_or-assoc : (a b c : Bounded T) → intersection_or number empty (intersection_or number empty a b) c ≡ intersection_or number empty a (intersection_or number empty b c)
      intersection_or-assoc a b c =
          elim (restricts_or_not a) [
            | inl e ↦ rw e refl
            | inr restricts ↦
                elim (restricts_or_not b) [
                  | inl e ↦ rw e (ap (λ p. intersection_or number empty p c) (none-right a))
                  | inr restricts' ↦
                      elim (restricts_or_not c) [
                        | inl e ↦ rw e (none-right (intersection_or number empty a b) ∙ sym (ap (intersection_or number empty a) (none-right b)))
                        | inr restricts'' ↦ restricting-assoc a b c restricts restricts' restricts''
                      ]
                ]
          ]

      chosen-members : (a b : Bounded T) (answer : Option (Bounded T)) (n : ℤ) →
          IfSome answer (λ both. (n : ℤ) → IsMember number both n ↔ (IsMember number a n × IsMember number b n)) →
          IfNone answer ((n : ℤ) → IsMember number a n → IsMember number b n → ⊥) →
          IsMember number (unwrap_or answer empty) n ↔ (IsMember number a n × IsMember number b n)
      chosen-members a b None n some none = (λ h. absurd (let l = h.0 in let r = h.1 in omega (arith, ints)), λ h. absurd (none n h.0 h.1))
      chosen-members a b (Some both) n some none = some n

      pub intersection_or-members : (a b : Bounded T) (n : ℤ) → IsMember number (intersection_or number empty a b) n ↔ (IsMember number a n × IsMember number b n)
      intersection_or-members a b n = chosen-members a b (intersection number a b) n (intersection-members number a b) (intersection-disjoint number a b)
