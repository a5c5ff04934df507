-- Names of which nothing is wrong.
use Rattle.std.proofs.Common.{◌≡◌, ◌↔◌, ◌++◌, List, [], ◌∷◌, map, refl, rules}
use Rattle.asn1_names.specs.declared.names.Names.{Names}
use Rattle.asn1_names.specs.Accepted.{IsAccepted, problems}
use Rattle.asn1_names.proofs.NamedTwice.{distinct}
use Rattle.asn1_names.proofs.Resolved.{none_undefined, none_unknown}

no_parts : {X : Type 0} (xs ys : List X) → xs ++ ys ≡ [] → (xs ≡ []) × (ys ≡ [])
no_parts [] ys empty = (refl, empty)
no_parts (x ∷ xs) ys empty = search rules

none_mapped : {X Y : Type 0} (f : X → Y) (xs : List X) → map f xs ≡ [] → xs ≡ []
none_mapped f [] empty = refl
none_mapped f (x ∷ xs) empty = search rules

accepted : (names : Names) → problems names ≡ [] → IsAccepted names
accepted names empty =
    let first = no_parts _ _ empty in
    let second = no_parts _ _ first.1 in
    record {
      distinct = (distinct names.defined.items).0 (none_mapped _ _ first.0);
      known = (none_unknown names.defined.items names.imported.items).0 (none_mapped _ _ second.0);
      resolved = (none_undefined names.defined.items names.imported.items names.used.items).0 (none_mapped _ _ second.1);
    }

no_problems : (names : Names) → IsAccepted names → problems names ≡ []
no_problems names good =
    let first = (distinct names.defined.items).1 good.distinct in
    let second = (none_unknown names.defined.items names.imported.items).1 good.known in
    let third = (none_undefined names.defined.items names.imported.items names.used.items).1 good.resolved in
    rw first (rw second (rw third refl))

-- nothing is wrong exactly if the names are accepted
pub nothing_wrong : (names : Names) → (problems names ≡ []) ↔ IsAccepted names
nothing_wrong names = (accepted names, no_problems names)
