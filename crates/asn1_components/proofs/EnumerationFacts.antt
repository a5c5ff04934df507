-- Consequences of the laws of an enumeration.
use Rattle.std.proofs.Common.{◌≡◌, ◌≢◌, ◌⊎◌, ◌↔◌, IsTrue, is_some, inl, inr, ℕ, Bool, true, Option, Some, None, IfSome, List, AllPairs, Contains, get_or, unwrap_or, refl, sym, ap, ◌∙◌}
use Rattle.std.specs.Bool.{Decides}
use Rattle.std.specs.Cmp.{IsEquivalence}
use Rattle.std.specs.List.{find, position, slice_get}
use Rattle.std.specs.Option.{option_map}
use Rattle.std.proofs.lemmas.Bool.{false≢true}
use Rattle.std.proofs.lemmas.List.Elements.{Contains-append_cases}
use Rattle.std.proofs.lemmas.Option.{none-some, same_Some, slice_get-get_or, slice_get-map}
use Rattle.asn1_components.specs.Enumerations.{Item, Enumeration, Differ, added, items, item_of, values}
use Rattle.asn1_tags.proofs.ListPositions.{Contains-from_slice_get, position-found, position-missing}
use Rattle.asn1_components.proofs.ListSearches.{across, found, find_only}

abbrev pub value_in : {V : Type 0} → Option (Item V) → Option V
value_in o = option_map (λ i. i.value) o

module _ {V : Type 0} (eq : V → V → Bool) (laws : IsEquivalence eq) (e : Enumeration V)
    (complete : (v : V) → value_in (item_of eq e v) ≡ Some v) (distinct : AllPairs (Differ eq) (items e)) where
  -- equal values are one value
  pub same_value : (v w : V) → eq v w ≡ true → v ≡ w
  same_value v w h =
      let tests : (u : V) → eq u v ≡ eq u w = λ u. laws.symm u v ∙ (laws.congr v w u h ∙ laws.symm w u) in
      let alike : item_of eq e v ≡ item_of eq e w = λ j. find (λ (i : Item V). tests i.value j) (items e) in
      same_Some v w (sym (complete v) ∙ (ap value_in alike ∙ complete w))

  -- the item of an item's value is that item
  pub item_of_value : (i : Item V) → Contains (items e) i → item_of eq e i.value ≡ Some i
  item_of_value i among = find_only (λ (j : Item V). eq j.value i.value) (items e) i apart among (laws.refl i.value)
    where
      apart : AllPairs (λ (a b : Item V). eq a.value i.value ≡ true → eq b.value i.value ≡ true → ⊥) (items e)
      apart a b d lt within first second =
          let x = (get_or (items e) a d).value in
          let y = (get_or (items e) b d).value in
          let same : eq x y ≡ true = laws.congr x i.value y first ∙ (laws.symm i.value y ∙ second) in
          false≢true (sym (distinct a b d lt within).value ∙ same)

  -- the item that each value has
  pub its_item : (v : V) → (i : Item V) × (item_of eq e v ≡ Some i) × (i.value ≡ v)
  its_item v = by (item_of eq e v) refl (complete v)
    where
      by : (o : Option (Item V)) → item_of eq e v ≡ o → value_in o ≡ Some v → (i : Item V) × (item_of eq e v ≡ Some i) × (i.value ≡ v)
      by (Some i) is same = (i, is, same_Some i.value v same)
      by None is same = absurd (none-some v same)

  -- the item at which a value is in a table
  at_item : (table : List (Item V)) (k : ℕ) (v : V) → slice_get (values table) k ≡ Some v → (i : Item V) × (slice_get table k ≡ Some i) × (i.value ≡ v)
  at_item table k v at = by (slice_get table k) refl (sym (slice_get-map (λ (i : Item V). i.value) table k) ∙ at)
    where
      by : (o : Option (Item V)) → slice_get table k ≡ o → value_in o ≡ Some v → (i : Item V) × (slice_get table k ≡ Some i) × (i.value ≡ v)
      by (Some i) is same = (i, is, same_Some i.value v same)
      by None is same = absurd (none-some v same)

  -- the index that is found in a table is that of the value
  pub value_at : (table : List (Item V)) (v : V) (k : ℕ) → position (λ (i : Item V). eq i.value v) table ≡ Some k → slice_get (values table) k ≡ Some v
  value_at table v k is =
      let f = position-found (λ (i : Item V). eq i.value v) table k (its_item v).0 is in
      slice_get-map (λ (i : Item V). i.value) table k ∙ (ap value_in f.1 ∙ ap Some (same_value f.0.value v f.2))

  -- if none is found, no item has the value
  pub value_missing : (table : List (Item V)) (v : V) → position (λ (i : Item V). eq i.value v) table ≡ None → ¬ Contains (values table) v
  value_missing table v none (k, within, is) =
      let i = at_item table k v (slice_get-get_or (values table) k v within ∙ ap Some is) in
      false≢true (sym (position-missing (λ (j : Item V). eq j.value v) table k i.0 none i.1) ∙ (ap (λ u. eq u v) i.2 ∙ laws.refl v))

  -- so an index is found if and only if the value is in the table
  pub is_found : (table : List (Item V)) (v : V) (index : Option ℕ) → index ≡ position (λ (i : Item V). eq i.value v) table →
      IsTrue (is_some index) ↔ Contains (values table) v
  is_found table v (Some k) is = (λ _. Contains-from_slice_get (values table) k v (value_at table v k (sym is)), λ _. refl)
  is_found table v None is = (λ h. absurd (false≢true h), λ among. absurd (value_missing table v (sym is) among))

  -- each value is in the root or after the extension marker
  pub somewhere : (v : V) → Contains (values e.root) v ⊎ Contains (values (added e)) v
  somewhere v = by (Contains-append_cases e.root (added e) (its_item v).0 (found (λ (i : Item V). eq i.value v) (items e) (its_item v).0 (its_item v).1).0)
    where
      held : (table : List (Item V)) → Contains table (its_item v).0 → Contains (values table) v
      held table (k, within, is) =
          Contains-from_slice_get (values table) k v
          (slice_get-map (λ (i : Item V). i.value) table k
          ∙ (ap value_in (slice_get-get_or table k (its_item v).0 within ∙ ap Some is) ∙ ap Some (its_item v).2))

      by : Contains e.root (its_item v).0 ⊎ Contains (added e) (its_item v).0 → Contains (values e.root) v ⊎ Contains (values (added e)) v
      by (inl h) = inl (held e.root h)
      by (inr h) = inr (held (added e) h)

  -- and not in both
  pub not_in_both : (v : V) (k : ℕ) → slice_get (values e.root) k ≡ Some v → ¬ Contains (values (added e)) v
  not_in_both v k at (l, within, is) =
      let i = at_item e.root k v at in
      let j = at_item (added e) l v (slice_get-get_or (values (added e)) l v within ∙ ap Some is) in
      let differ = (across (Differ eq) e.root (added e) distinct k l i.0 j.0 i.1 j.1).value in
      false≢true (sym differ ∙ (ap (λ u. eq u j.0.value) i.2 ∙ (ap (eq v) j.2 ∙ laws.refl v)))

  -- `label` tells two items apart: it is their number, or their name
  module _ {N : Type 0} (label : Item V → N) (same : N → N → Bool) (decides : (m n : N) → Decides (same m n) (m ≡ n))
      (differ : AllPairs (λ i j. label i ≢ label j) (items e)) (default wanted : N) where
    -- the label of a value
    abbrev pub label_of : V → N
    label_of v = unwrap_or (option_map label (item_of eq e v)) default

    -- the item that a search by label finds
    abbrev pub labelled : Option (Item V)
    labelled = find (λ (i : Item V). same (label i) wanted) (items e)

    pub back : (v : V) → label_of v ≡ wanted → value_in labelled ≡ Some v
    back v h =
        let its = its_item v in
        let named : label its.0 ≡ wanted = sym (ap (λ (o : Option (Item V)). unwrap_or (option_map label o) default) its.1) ∙ h in
        ap value_in
        (find_only (λ (j : Item V). same (label j) wanted) (items e) its.0
        (λ a b d lt within first second. differ a b d lt within ((decides _ _).0 first ∙ sym ((decides _ _).0 second)))
        (found (λ (j : Item V). eq j.value v) (items e) its.0 its.1).0 ((decides (label its.0) wanted).1 named))
        ∙ ap Some its.2

    pub only : IfSome (value_in labelled) (λ v. label_of v ≡ wanted)
    only = by labelled refl
      where
        by : (o : Option (Item V)) → labelled ≡ o → IfSome (value_in o) (λ v. label_of v ≡ wanted)
        by None is = tt
        by (Some i) is =
            let f = found (λ (j : Item V). same (label j) wanted) (items e) i is in
            ap (λ (o : Option (Item V)). unwrap_or (option_map label o) default) (item_of_value i f.0) ∙ (decides (label i) wanted).0 f.1
