-- The labels of an enumeration are those of its items, and differ as these do.
use Rattle.std.specs.Prelude.{◌≡◌, ◌<◌, ◌++◌, Bool, List, [], ◌∷◌, Option, Some, None, AllPairs, length, map, refl}
use Rattle.std.proofs.Common.{arith, get_or, sym, ap, ◌∙◌, subst, subst₂}
use Rattle.std.proofs.lemmas.List.{get_or-map, length-map, map-append}
use Rattle.asn1_components.specs.Enumerations.{Item, Enumeration, Differ, IsEnumeration, added, items}
use Rattle.asn1_components.specs.Labels.{LabelsDiffer, added_labels, all_labels, label_of, labels_of}

pub added_labels_are : {V : Type 0} (e : Enumeration V) → added_labels (labels_of e) ≡ map label_of (added e)
added_labels_are {V = V} e = by e.additions
  where
    by : (o : Option (List (Item V))) → added_labels (labels_of (record e { additions = o })) ≡ map label_of (added (record e { additions = o }))
    by None = refl
    by (Some is) = refl

pub all_labels_are : {V : Type 0} (e : Enumeration V) → all_labels (labels_of e) ≡ map label_of (items e)
all_labels_are e = ap (λ ls. map label_of e.root ++ ls) (added_labels_are e) ∙ sym (map-append label_of e.root (added e))

AllPairs-map : {X Y : Type 0} (R : X → X → Type 0) (S : Y → Y → Type 0) (f : X → Y) → ((x y : X) → R x y → S (f x) (f y)) → (xs : List X) → AllPairs R xs → AllPairs S (map f xs)
AllPairs-map R S f keeps [] pairs i j d lt within = absurd (omega arith)
AllPairs-map R S f keeps (x ∷ xs) pairs i j d lt within =
    let inside : j < length (x ∷ xs) = omega (arith, length-map (x ∷ xs) f) in
    subst₂ S (sym (get_or-map f (x ∷ xs) i x d (omega arith))) (sym (get_or-map f (x ∷ xs) j x d inside))
    (keeps (get_or (x ∷ xs) i x) (get_or (x ∷ xs) j x) (pairs i j x lt inside))

pub labels_differ : {V : Type 0} (eq : V → V → Bool) (e : Enumeration V) → IsEnumeration eq e → AllPairs LabelsDiffer (all_labels (labels_of e))
labels_differ eq e lawful =
    subst (AllPairs LabelsDiffer) (sym (all_labels_are e))
    (AllPairs-map (Differ eq) LabelsDiffer label_of (λ i j differ. record { number = differ.number; name = differ.name }) (items e) lawful.distinct)
