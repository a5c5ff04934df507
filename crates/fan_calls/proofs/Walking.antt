-- The findings of a walk through elements, from those at their front and inside them.
use Rattle.std.specs.Bool.{◌==◌}
use Rattle.std.proofs.Common.{◌≡◌, ◌≢◌, ◌<◌, ◌≤◌, ◌+◌, ◌-◌, ℕ, zero, suc, List, [], ◌∷◌, Option, None, Some, arith, false, length, refl, subst, sym, true}
use Rattle.std.proofs.lemmas.Bool.{eqb-true}
use Rattle.asn1_der_items.proofs.TrailingBytes.{element_at-shorter, parts_fit}
use Rattle.asn1_der_items.specs.Elements.{Element, element_at}
use Rattle.asn1_der_items.specs.Faults.{AreElementsDownTo, IsFaultInside, IsFirstFault, behind, here, inside, none_left}
use Rattle.fan_calls.specs.Depths.{HoldsDeeper, NestsDeeper}
use Rattle.fan_calls.specs.Walks.{Finds, FindsInside}
use Rattle.fan_calls.specs.declared.walk.Finding.{Finding}
use Rattle.fan_calls.specs.declared.walk.Finding.TheVariants.{Deeper, Elements, Fault}
use Rattle.fan_calls.proofs.Deeper.{some_octets}

-- octets whose number is not 0, and octets whose number is
pub some_octets_left : (bytes : List ℕ) → false ≡ (length bytes == 0) → bytes ≢ []
some_octets_left [] test is = cc
some_octets_left (b ∷ bytes) test is = cc

pub no_octets : (bytes : List ℕ) → true ≡ (length bytes == 0) → bytes ≡ []
no_octets [] test = refl
no_octets (b ∷ bytes) test = absurd (omega (arith, eqb-true (length (b ∷ bytes)) 0 (sym test)))

-- nothing lies in no octets
pub no_deeper : (depth : ℕ) → NestsDeeper depth [] → ⊥
no_deeper depth lies = absurd (omega (arith, some_octets (HoldsDeeper depth) [] lies))

-- the depth below another
lower : (depth : ℕ) → suc depth - 1 ≡ depth
lower depth = omega arith

-- what is found inside an element is what is found in its contents octets, by the depth below
module _ (e : Element) where
  deepened : (depth : ℕ) (f : Finding) → e.constructed ≡ true → Finds depth e.contents f → FindsInside (suc depth) e f
  deepened depth Elements form finds = (λ _. finds.0, λ deeper. finds.1 deeper.1)
  deepened depth Deeper form finds = (λ _. finds.0, (form, finds.1))
  deepened depth (Fault position) form finds = record { below = depth; deeper = refl; constructed = form; fault = finds }

  pub found_inside : (depth : ℕ) (f : Finding) → depth ≢ 0 → e.constructed ≡ true → Finds (depth - 1) e.contents f → FindsInside depth e f
  found_inside zero f some form finds = absurd (some refl)
  found_inside (suc depth) f some form finds = deepened depth f form (subst (λ (d : ℕ). Finds d e.contents f) (lower depth) finds)

  -- nothing is inside
  pub found_none : (depth : ℕ) → e.contents ≡ [] → FindsInside depth e Elements
  found_none zero none = (tt, λ deeper. absurd (omega (arith, subst (λ (l : List ℕ). 0 < length l) none deeper.1)))
  found_none (suc depth) none = (
    λ _. subst (λ (l : List ℕ). AreElementsDownTo depth l) (sym none) none_left,
    λ deeper. no_deeper depth (subst (λ (l : List ℕ). NestsDeeper depth l) none deeper.1),
  )

  pub found_primitive : (depth : ℕ) → (e.constructed ≡ true → ⊥) → FindsInside depth e Elements
  found_primitive zero not = (tt, λ deeper. not deeper.0)
  found_primitive (suc depth) not = (λ form. absurd (not form), λ deeper. not deeper.0)

-- no element begins where finding one fails
pub none_begins : (bytes : List ℕ) → ((e : Element) → element_at bytes ≡ Some e → ⊥) → element_at bytes ≡ None
none_begins bytes fails = by (element_at bytes) refl
  where
    by : (o : Option Element) → element_at bytes ≡ o → element_at bytes ≡ None
    by None is = is
    by (Some e) is = absurd (fails e is)

-- a fault is in the bytes
pub fault_within : (depth : ℕ) (bytes : List ℕ) (position : ℕ) → IsFirstFault depth bytes position → position ≤ length bytes
fault_within _ _ _ (here depth bytes some none) = omega arith
fault_within _ _ _ (behind depth bytes e later at holds fault) = omega (arith, fault_within depth e.rest later fault, element_at-shorter bytes e at)
fault_within _ _ _ (inside below bytes e later at form fault) = omega (arith, fault_within below e.contents later fault, parts_fit bytes e at)

-- a fault inside the first element, in the bytes, by any name of its position
pub in_first : (depth : ℕ) (bytes : List ℕ) (e : Element) (position at : ℕ) → element_at bytes ≡ Some e → IsFaultInside depth e position →
    length bytes - length e.rest - length e.contents + position ≡ at → IsFirstFault depth bytes at
in_first depth bytes e position at found f is =
    subst (λ (d : ℕ). IsFirstFault d bytes at) (sym f.deeper)
    (subst (λ (p : ℕ). IsFirstFault (suc f.below) bytes p) is (inside f.below bytes e position found f.constructed f.fault))
