-- The numbers of values are in their table.
use Rattle.std.proofs.Common.{◌≡◌, pos, Bool, Option, Some, List, AllPairs, Contains, map, unwrap_or, sym, ap, ◌∙◌, subst, arith}
use Rattle.std.specs.Cmp.{IsEquivalence}
use Rattle.std.specs.Option.{option_map}
use Rattle.std.proofs.lemmas.List.{get_or-map, length-map}
use Rattle.std.proofs.lemmas.Simd.{map-map}
use Rattle.asn1_components.specs.Enumerations.{Item, Enumeration, Differ, item_of, items, number_of}
use Rattle.asn1_components.specs.LabelLaws.{all_labels_are}
use Rattle.asn1_components.specs.Labels.{HasNumber, label_of, labels_of, numbers_in}
use Rattle.asn1_components.proofs.EnumerationFacts.{its_item, value_in}
use Rattle.asn1_components.proofs.ListSearches.{found}

image : {X Y : Type 0} (f : X → Y) (xs : List X) (x : X) → Contains xs x → Contains (map f xs) (f x)
image f xs x (k, within, is) = (k, omega (arith, within, length-map xs f), get_or-map f xs k x (f x) within ∙ ap f is)

-- each value's number is in the table
pub has_number : {V : Type 0} (eq : V → V → Bool) (laws : IsEquivalence eq) (e : Enumeration V) →
    ((v : V) → value_in (item_of eq e v) ≡ Some v) → AllPairs (Differ eq) (items e) → (v : V) → HasNumber (labels_of e) (number_of eq e v)
has_number {V = V} eq laws e complete distinct v =
    let its = its_item eq laws e complete distinct v in
    let among = (found (λ (i : Item V). eq i.value v) (items e) its.0 its.1).0 in
    let numbers : map (λ (i : Item V). i.number) (items e) ≡ numbers_in _ = sym (map-map (λ l. l.number) label_of (items e)) ∙ ap numbers_in (sym (all_labels_are e)) in
    let number : its.0.number ≡ number_of eq e v = sym (ap (λ (o : Option (Item V)). unwrap_or (option_map (λ i. i.number) o) (pos 0)) its.1) in
    subst (λ ns. Contains ns (number_of eq e v)) numbers
    (subst (Contains (map (λ (i : Item V). i.number) (items e))) number (image (λ (i : Item V). i.number) (items e) its.0 among))
