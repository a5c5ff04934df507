-- The components of a SET that were read so far, each in a slot of its own.
use Rattle.std.proofs.Common.{◌≡◌, ℕ, ◌+◌, ◌≤◌, Bool, true, false, cond, List, [], ◌∷◌, ◌++◌, Contains, length, Option, None, Some, refl, ap, sym, ◌∙◌, subst, arith, append-nil, append_assoc}
use Rattle.std.specs.Prelude.{◌==◌, IsSome, is_some}
use Rattle.std.specs.Option.{IfSome, option_eq, option_map}
use Rattle.std.proofs.lemmas.List.Elements.{All-contains, Contains-append_left, Contains-push}
use Rattle.std.proofs.lemmas.List.Sums.{sum_by-append, sum_by-cons}
use Rattle.asn1_components.specs.ComponentTypes.{ComponentType}
use Rattle.asn1_model.specs.Composites.{option_records}
use Rattle.asn1_model.specs.Records.{Side, unmarked}
use Rattle.asn1_model.specs.TaggedTypes.{TaggedType}
use Rattle.asn1_laws.specs.SetParts.{ArePartsOf, parts_at, written_of}
use Rattle.asn1_laws.proofs.SetRecords.{nothing}

-- another element of a list that is gone through
pub one_on : {P : Type 0} (all parts left rest : List P) (p : P) → all ≡ parts ++ left → left ≡ p ∷ rest → all ≡ (parts ++ p ∷ []) ++ rest
one_on all parts left rest p is next = is ∙ ap (λ l. parts ++ l) next ∙ sym (append_assoc parts (p ∷ []) rest)

module _ {P X : Type 0} (index_of : P → ℕ) (k : ℕ) (make : X → P) where
  -- The slot has the component of this index that is among the parts, where there is one.
  pub record Slot (slot : Option X) (parts : List P) : Type 0 where
    pub as_many : parts_at index_of k parts ≡ cond (is_some slot) 1 0
    pub is_in : IfSome slot (λ x. Contains parts (make x))

  pub none_yet : Slot None []
  none_yet = record { as_many = refl; is_in = tt }

  one_more : (parts : List P) (p : P) → parts_at index_of k (parts ++ p ∷ []) ≡ parts_at index_of k parts + cond (index_of p == k) 1 0
  one_more parts p = omega (arith, sum_by-append (λ q. cond (index_of q == k) 1 0) parts (p ∷ []), sum_by-cons (λ q. cond (index_of q == k) 1 0) p [])

  -- after a part that is this component
  pub kept : {slot : Option X} {parts : List P} (new : Option X) (x : X) (p : P) → Slot slot parts → slot ≡ None → new ≡ Some x → p ≡ make x → (index_of p == k) ≡ true → Slot new (parts ++ p ∷ [])
  kept {slot} {parts} new x p before empty is part own = record {
    as_many =
        let none = ap {B = ℕ} (λ s. cond (is_some s) 1 0) empty in
        let one = ap {B = ℕ} (λ s. cond (is_some s) 1 0) is in
        omega (arith, one_more parts p, before.as_many, none, one, ap {B = ℕ} (λ b. cond b 1 0) own);
    is_in = subst (λ s. IfSome s (λ y. Contains (parts ++ p ∷ []) (make y))) (sym is) (subst (Contains (parts ++ p ∷ [])) part (Contains-push parts p));
  }

  still_in : (slot : Option X) (parts : List P) (p : P) → IfSome slot (λ x. Contains parts (make x)) → IfSome slot (λ x. Contains (parts ++ p ∷ []) (make x))
  still_in None parts p is_in = tt
  still_in (Some x) parts p is_in = Contains-append_left parts (p ∷ []) (make x) is_in

  -- after one that is another
  pub passed : {slot : Option X} {parts : List P} (p : P) → Slot slot parts → (index_of p == k) ≡ false → Slot slot (parts ++ p ∷ [])
  passed {slot} {parts} p before other = record {
    as_many = omega (arith, one_more parts p, before.as_many, ap {B = ℕ} (λ b. cond b 1 0) other);
    is_in = still_in slot parts p before.is_in;
  }

  -- what is in the slot does not come again
  pub not_again : {slot : Option X} {parts : List P} (p : P) (all rest : List P) → Slot slot parts → IsSome slot → (index_of p == k) ≡ true → all ≡ (parts ++ p ∷ []) ++ rest → parts_at index_of k all ≤ 1 → ⊥
  not_again {slot} {parts} p all rest before full own is once =
      omega (
        arith,
        once,
        before.as_many,
        ap {B = ℕ} (λ b. cond b 1 0) full,
        ap (parts_at index_of k) is,
        sum_by-append (λ q. cond (index_of q == k) 1 0) (parts ++ p ∷ []) rest,
        one_more parts p,
        ap {B = ℕ} (λ b. cond b 1 0) own,
      )

  -- where all parts came
  pub at_end : {slot : Option X} {parts : List P} (all rest : List P) → Slot slot parts → all ≡ parts ++ rest → length rest ≡ 0 → Slot slot all
  at_end {slot} {parts} all rest before is none =
      subst (Slot slot) (sym (is ∙ ap (λ l. parts ++ l) (nothing rest none) ∙ append-nil parts)) before

  -- what is in the slot came once
  pub once : {x : X} {parts : List P} → Slot (Some x) parts → parts_at index_of k parts ≡ 1
  once slot = slot.as_many

  -- and what may be absent came no more than once
  pub at_most_once : (slot : Option X) {parts : List P} → Slot slot parts → parts_at index_of k parts ≤ 1
  at_most_once None slot = omega (arith, slot.as_many)
  at_most_once (Some x) slot = omega (arith, slot.as_many)

  module _ {V : Type 0} (cs : List (ComponentType V)) (v : V) (IsPart : P → Type 0) (parts : List P) (are : ArePartsOf cs v index_of IsPart parts) where
    -- the component that is in the slot
    pub is_component : (x : X) → Slot (Some x) parts → IsPart (make x)
    is_component x slot = All-contains IsPart parts (make x) are.each slot.is_in

    -- where the slot is empty, the component is not there
    pub is_absent : Slot None parts → length (written_of cs v k) ≡ 1 → ⊥
    is_absent slot there = are.complete k (λ none. let wrong : 0 ≡ 1 = sym (ap length none) ∙ there in omega arith) slot.as_many

    -- a component that may be absent
    pub optional_slot : (side : Side) (slot o : Option X) (type : TaggedType X) (eq : X → X → Bool) → Slot slot parts → written_of cs v k ≡ unmarked (option_records side type.tag (option_map type.records o)) →
        ((x : X) → length (unmarked (type.records x)) ≡ 1) → ((x : X) → IsPart (make x) → option_eq eq (Some x) o ≡ true) → option_eq eq slot o ≡ true
    optional_slot side None None type eq slot written one is = refl
    optional_slot side None (Some w) type eq slot written one is = absurd (is_absent slot (ap length written ∙ one w))
    optional_slot side (Some x) o type eq slot written one is = is x (is_component x slot)
