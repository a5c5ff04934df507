-- The elements to which paths lead.
use Rattle.std.proofs.Common.{◌≡◌, ◌≤◌, ◌<◌, ℕ, zero, suc, ◌+◌, ◌-◌, List, [], ◌∷◌, Option, None, Some, ap, arith, false, length, refl, sym, true, ◌∙◌}
use Rattle.std.specs.Option.{option_and_then, option_map}
use Rattle.asn1_der_items.proofs.TrailingBytes.{element_at-shorter, parts_fit}
use Rattle.asn1_der_items.specs.Elements.{Element, element_at}
use Rattle.asn1_der_items.specs.Paths.{after_elements, position_at_path}

-- no element begins where finding one fails
pub none_found : (bytes : List ℕ) → ((e : Element) → element_at bytes ≡ Some e → false ≡ true) → element_at bytes ≡ None
none_found bytes fails = by (element_at bytes) refl
  where
    never : false ≡ true → ⊥
    never same = cc

    by : (o : Option Element) → element_at bytes ≡ o → element_at bytes ≡ None
    by None is = is
    by (Some e) is = absurd (never (fails e is))

-- all is after no element
pub behind_none : (n : ℕ) (bytes : List ℕ) → n ≤ 0 → after_elements n bytes ≡ Some bytes
behind_none zero bytes none = refl
behind_none (suc n) bytes none = absurd (omega (arith, none))

-- after one element, one less
pub one_less : (n : ℕ) (bytes : List ℕ) (e : Element) → 0 < n → element_at bytes ≡ Some e → after_elements (n - 1) e.rest ≡ after_elements n bytes
one_less zero bytes e some at = absurd (omega (arith, some))
one_less (suc n) bytes e some at =
    let less : suc n - 1 ≡ n = omega arith in
    ap (λ m. after_elements m e.rest) less ∙ sym (ap (λ o. option_and_then (λ (d : Element). after_elements n d.rest) o) at)

-- there are too few elements
pub too_few : (n : ℕ) (bytes : List ℕ) → 0 < n → element_at bytes ≡ None → after_elements n bytes ≡ None
too_few zero bytes some at = absurd (omega (arith, some))
too_few (suc n) bytes some at = ap (λ o. option_and_then (λ (d : Element). after_elements n d.rest) o) at

-- what is after elements is no longer than all
pub behind-shorter : (n : ℕ) (bytes left : List ℕ) → after_elements n bytes ≡ Some left → length left ≤ length bytes
behind-shorter zero bytes left is = omega (arith, ap length (same bytes left is))
  where
    same : (xs ys : List ℕ) → Some xs ≡ Some ys → xs ≡ ys
    same xs ys is = cc
behind-shorter (suc n) bytes left is = by (element_at bytes) refl is (λ e found. behind-shorter n e.rest left found)
  where
    by : (o : Option Element) → element_at bytes ≡ o → option_and_then (λ (d : Element). after_elements n d.rest) o ≡ Some left →
        ((e : Element) → after_elements n e.rest ≡ Some left → length left ≤ length e.rest) → length left ≤ length bytes
    by None none is shorter = cc
    by (Some e) at is shorter = omega (arith, shorter e is, element_at-shorter bytes e at)

-- a position after as many bytes
after : (k m bound : ℕ) (o : Option ℕ) → option_map (λ p. k + p) o ≡ Some m → ((p : ℕ) → o ≡ Some p → k + p ≤ bound) → m ≤ bound
after k m bound None is within = cc
after k m bound (Some p) is within = omega (arith, within p refl, added k p m is)
  where
    added : (k p m : ℕ) → Some (k + p) ≡ Some m → m ≡ k + p
    added k p m same = cc

-- a position in what is after elements
abbrev in_left : ℕ → List ℕ → List ℕ → Option ℕ
in_left k path left = option_map (λ position. k - length left + position) (position_at_path left path)

behind : (k m bound : ℕ) (path : List ℕ) (o : Option (List ℕ)) → option_and_then (λ left. in_left k path left) o ≡ Some m →
    ((left : List ℕ) (p : ℕ) → o ≡ Some left → position_at_path left path ≡ Some p → k - length left + p ≤ bound) → m ≤ bound
behind k m bound path None is within = cc
behind k m bound path (Some left) is within = after (k - length left) m bound (position_at_path left path) is (λ p found. within left p refl found)

-- the element to which a path leads begins in the bytes
pub position-within : (path bytes : List ℕ) (position : ℕ) → position_at_path bytes path ≡ Some position → position ≤ length bytes
position-within [] bytes position is = omega (arith, zero_position position is)
  where
    zero_position : (n : ℕ) → Some 0 ≡ Some n → n ≡ 0
    zero_position n same = cc
position-within (number ∷ path) bytes position is = by (element_at bytes) refl is (λ left p found. position-within path left p found)
  where
    by : (o : Option Element) → element_at bytes ≡ o →
        option_and_then (λ (e : Element). option_and_then (λ left. in_left (length bytes - length e.rest) path left) (after_elements number e.contents)) o ≡ Some position →
        ((left : List ℕ) (p : ℕ) → position_at_path left path ≡ Some p → p ≤ length left) → position ≤ length bytes
    by None none is within = cc
    by (Some e) at is within =
        behind (length bytes - length e.rest) position (length bytes) path (after_elements number e.contents) is
        (λ left p found is. omega (arith, within left p is, behind-shorter number e.contents left found, parts_fit bytes e at))
