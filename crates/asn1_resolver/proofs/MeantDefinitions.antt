-- Definitions to which a reference can be.
use Rattle.std.proofs.Common.{◌≡◌, ◌<◌, ℕ, Bool, true, false, not, cond, List, [], ◌∷◌, length, get_or, Option, None, Some, IfSome, IfNone, inl, inr, refl, subst, sym, arith}
use Rattle.std.specs.Bool.{Decides}
use Rattle.std.specs.List.{All, Any, HoldsAt, position, position_or_len}
use Rattle.std.proofs.lemmas.Bool.Decides.{Decides-and, Decides-like, Decides-ltb, not_from_Decides}
use Rattle.std.proofs.lemmas.List.Quantifiers.{position-Some}
use Rattle.std.proofs.lemmas.List.Sums.{prefix_len_passes}
use Rattle.std.proofs.lemmas.Slice.Eq.{bytes_eq-Decides}
use denote.Ref.{Bor}
use Rattle.asn1_names.proofs.Searches.{any_decides}
use Rattle.asn1_names.specs.declared.names.ImportedName.{ImportedName}
use Rattle.asn1_names.specs.declared.names.UsedName.{UsedName}
use Rattle.asn1_resolver.specs.References.{IsImportOf, IsMeant, Reaches, has_name, is_import_of, is_provided}
use Rattle.asn1_resolver.specs.declared.definitions.Defined.{Defined}

-- a search by index: what is at the index passes the test, and where there is none nothing passes
index_within : {X : Type 0} (p : X → Bool) (xs : List X) (i : ℕ) → position p xs ≡ Some i → i < length xs
index_within p [] i found = cc
index_within p (x ∷ xs) i found = (position-Some p (x ∷ xs) i x found).0

passes_at : {X : Type 0} (p : X → Bool) (xs : List X) (i : ℕ) → position p xs ≡ Some i → HoldsAt (λ x. p x ≡ true) xs i
passes_at p xs i found = λ d. (position-Some p xs i d found).1

no_value : (b : Bool) (n : ℕ) → cond b (Some n) None ≡ None → b ≡ false
no_value true n none = cc
no_value false n none = refl

is_false : (b : Bool) → not b ≡ true → b ≡ false
is_false true fails = cc
is_false false fails = refl

none_passes : {X : Type 0} (p : X → Bool) (xs : List X) → position p xs ≡ None → All (λ x. p x ≡ false) xs
none_passes p xs none = λ k d within.
    let over = not_from_Decides _ (Decides-ltb (position_or_len p xs) (length xs)) (no_value _ _ none) in
    let below : k < position_or_len p xs = omega arith in
    is_false _ (prefix_len_passes (λ x. not (p x)) xs k d below)

-- what a search found, if the test decides what is looked for
pub record Finds {X : Type 0} (P : X → Type 0) (xs : List X) (r : Option ℕ) : Type 0 where
  pub within : IfSome r (λ i. i < length xs)
  pub found : IfSome r (HoldsAt P xs)
  pub none : IfNone r (All (λ x. ¬ P x) xs)

finds : {X : Type 0} (P : X → Type 0) (p : X → Bool) → ((x : X) → Decides (p x) (P x)) → (xs : List X) (r : Option ℕ) →
    r ≡ position p xs → Finds P xs r
finds P p decides xs (Some i) is = record {
  within = index_within p xs i (sym is);
  found = λ d. (decides _).0 (passes_at p xs i (sym is) d);
  none = tt;
}
finds P p decides xs None is = record {
  within = tt;
  found = tt;
  none = λ k d within. not_from_Decides _ (decides _) (none_passes p xs (sym is) k d within);
}

-- the tests of names
named_decides : (modulereference name : List ℕ) (d : Defined) →
    Decides (has_name modulereference name d) ((d.scope.name.now ≡ modulereference) × (d.name.now ≡ name))
named_decides modulereference name d = Decides-and _ _ (bytes_eq-Decides _ _) (bytes_eq-Decides _ _)

import_decides : (used : UsedName) (modulereference : List ℕ) (import : ImportedName) →
    Decides (is_import_of used modulereference import) (IsImportOf used modulereference import)
import_decides used modulereference import =
    Decides-and _ _ (Decides-and _ _ (bytes_eq-Decides _ _) (bytes_eq-Decides _ _)) (bytes_eq-Decides _ _)

provided_decides : (imported : List ImportedName) (used : UsedName) (d : Defined) →
    Decides (is_provided imported used d) ((d.name.now ≡ used.name.now) × Any (IsImportOf used d.scope.name.now) imported)
provided_decides imported used d =
    Decides-and _ _ (bytes_eq-Decides _ _) (any_decides _ (import_decides used d.scope.name.now) imported)

-- a reference with a qualifier
qualified_decides : (imported : List ImportedName) (used : UsedName) (q : Bor (List ℕ)) → used.qualifier ≡ Some q → (d : Defined) →
    Decides (has_name q.now used.name.now d) (IsMeant imported used d)
qualified_decides imported used q is d = Decides-like _
    (λ named. (named.1, subst (Reaches imported used d.scope.name.now) (sym is) named.0))
    (λ meant. (subst (Reaches imported used d.scope.name.now) is meant.1, meant.0))
    (named_decides q.now used.name.now d)

pub finds_qualified : (imported : List ImportedName) (used : UsedName) (q : Bor (List ℕ)) (list : List Defined) (r : Option ℕ) →
    used.qualifier ≡ Some q → r ≡ position (has_name q.now used.name.now) list → Finds (IsMeant imported used) list r
finds_qualified imported used q list r is found =
    finds (IsMeant imported used) _ (qualified_decides imported used q is) list r found

-- one without a qualifier
own_meant : (imported : List ImportedName) (used : UsedName) (d : Defined) → used.qualifier ≡ None →
    has_name used.module.now used.name.now d ≡ true → IsMeant imported used d
own_meant imported used d is passes =
    let named = (named_decides used.module.now used.name.now d).0 passes in
    (named.1, subst (Reaches imported used d.scope.name.now) (sym is) (inl named.0))

provided_meant : (imported : List ImportedName) (used : UsedName) (d : Defined) → used.qualifier ≡ None →
    is_provided imported used d ≡ true → IsMeant imported used d
provided_meant imported used d is passes =
    let some = (provided_decides imported used d).0 passes in
    (some.0, subst (Reaches imported used d.scope.name.now) (sym is) (inr some.1))

not_meant : (imported : List ImportedName) (used : UsedName) (d : Defined) → used.qualifier ≡ None →
    has_name used.module.now used.name.now d ≡ false → is_provided imported used d ≡ false → ¬ IsMeant imported used d
not_meant imported used d is own provided meant =
    let reached : Reaches imported used d.scope.name.now None = subst (Reaches imported used d.scope.name.now) is meant.1 in
    elim reached [
      | inl same ↦ not_from_Decides _ (named_decides used.module.now used.name.now d) own (same, meant.0)
      | inr some ↦ not_from_Decides _ (provided_decides imported used d) provided (meant.0, some)
    ]

pub finds_own : (imported : List ImportedName) (used : UsedName) (list : List Defined) (i : ℕ) → used.qualifier ≡ None →
    position (has_name used.module.now used.name.now) list ≡ Some i → Finds (IsMeant imported used) list (Some i)
finds_own imported used list i is found = record {
  within = index_within _ list i found;
  found = λ d. own_meant imported used (get_or list i d) is (passes_at _ list i found d);
  none = tt;
}

pub finds_import : (imported : List ImportedName) (used : UsedName) (list : List Defined) (r : Option ℕ) → used.qualifier ≡ None →
    position (has_name used.module.now used.name.now) list ≡ None → r ≡ position (is_provided imported used) list →
    Finds (IsMeant imported used) list r
finds_import imported used list (Some i) is own found = record {
  within = index_within _ list i (sym found);
  found = λ d. provided_meant imported used (get_or list i d) is (passes_at _ list i (sym found) d);
  none = tt;
}
finds_import imported used list None is own found = record {
  within = tt;
  found = tt;
  none = λ k d within. not_meant imported used (get_or list k d) is (none_passes _ list own k d within) (none_passes _ list (sym found) k d within);
}
