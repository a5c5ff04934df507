-- Definitions that are found by their names.
use Rattle.std.proofs.Common.{◌≡◌, ◌++◌, ◌≤◌, ℕ, Bool, true, false, not, cond, List, [], ◌∷◌, length, Option, None, Some, refl, sym, ap, ◌∙◌, subst, rules, arith, length-append}
use Rattle.std.specs.List.{position, position_or_len}
use Rattle.std.specs.Option.{is_some}
use Rattle.std.proofs.lemmas.Bool.Decides.{nat_tests}
use Rattle.std.proofs.lemmas.Grind.{common_steps}
use Rattle.std.proofs.lemmas.List.Folds.{position_or_len_push}
use Rattle.std.proofs.lemmas.List.Sums.{prefix_len-le-length}
use Rattle.asn1_names.specs.declared.names.DefinedName.{DefinedName}
use Rattle.asn1_names.specs.declared.index.NameIndex.{NameIndex}
use Rattle.asn1_names.specs.Definitions.{has_name}
use Rattle.asn1_names.specs.Index.{IsIndexOf, listed}
use Rattle.asn1_names.proofs.Resolved.{named_decides}

-- the first that passes a test, when one more element is behind the others
position_kept : {X : Type 0} (p : X → Bool) (xs : List X) (y : X) (i : ℕ) → position p xs ≡ Some i → position p (xs ++ y ∷ []) ≡ Some i
position_kept p xs y i found = grind (arith, nat_tests, common_steps, position_or_len_push)

position_pushed_by : {X : Type 0} (p : X → Bool) (xs : List X) (y : X) (b : Bool) → p y ≡ b → position p xs ≡ None → position p (xs ++ y ∷ []) ≡ cond b (Some (length xs)) None
position_pushed_by p xs y true passes none =
    let within : position_or_len p xs ≤ length xs = prefix_len-le-length (λ x. not (p x)) xs in
    grind (arith, nat_tests, common_steps, position_or_len_push, length-append)
position_pushed_by p xs y false passes none =
    let within : position_or_len p xs ≤ length xs = prefix_len-le-length (λ x. not (p x)) xs in
    grind (arith, nat_tests, common_steps, position_or_len_push, length-append)

position_pushed : {X : Type 0} (p : X → Bool) (xs : List X) (y : X) → position p xs ≡ None → position p (xs ++ y ∷ []) ≡ cond (p y) (Some (length xs)) None
position_pushed p xs y none = position_pushed_by p xs y (p y) refl none

position_same : {X : Type 0} (p : X → Bool) (xs : List X) (y : X) → p y ≡ false → (o : Option ℕ) → position p xs ≡ o → position p xs ≡ position p (xs ++ y ∷ [])
position_same p xs y apart None none =
    none ∙ sym (position_pushed p xs y none ∙ ap (λ b. cond b (Some (length xs)) None) apart)
position_same p xs y apart (Some i) found = found ∙ sym (position_kept p xs y i found)

-- the step of an index in which the name was not
step : {X : Type 0} (p : X → Bool) (xs : List X) (y : X) (count : ℕ) (here : Bool) → p y ≡ here → length xs ≡ count → (here ≡ true → position p xs ≡ None) → cond here (Some count) (position p xs) ≡ position p (xs ++ y ∷ [])
step p xs y count true passes counted none =
    sym (position_pushed p xs y (none refl) ∙ (ap (λ b. cond b (Some (length xs)) None) passes ∙ ap (λ n. Some n) counted))
step p xs y count false passes counted none = position_same p xs y passes (position p xs) refl

-- the name of a definition, by which a test passes it
pub named : (definition : DefinedName) (modulereference name : List ℕ) → has_name modulereference name definition ≡ true → (definition.module.now ≡ modulereference) × (definition.name.now ≡ name)
named definition modulereference name same = (named_decides modulereference name definition).0 same

at_name : (defined : List DefinedName) (definition : DefinedName) (o : Option ℕ) (modulereference name : List ℕ) → position (has_name definition.module.now definition.name.now) defined ≡ o → has_name modulereference name definition ≡ true → position (has_name modulereference name) defined ≡ o
at_name defined definition o modulereference name found same =
    let names = named definition modulereference name same in
    subst (λ n. position (has_name modulereference n) defined ≡ o) names.1
    (subst (λ m. position (has_name m definition.name.now) defined ≡ o) names.0 found)

-- an index to which a definition was added under its name, which was not in it
pub added : (defined : List DefinedName) (definition : DefinedName) (before after : NameIndex) (count : ℕ) (found : Option ℕ) → length defined ≡ count → IsIndexOf defined before → found ≡ position (has_name definition.module.now definition.name.now) defined → is_some found ≡ false → ((modulereference name : List ℕ) → listed after modulereference name ≡ cond (has_name modulereference name definition) (Some count) (listed before modulereference name)) → IsIndexOf (defined ++ definition ∷ []) after
added defined definition before after count (Some i) counted whole is none more = search rules
added defined definition before after count None counted whole is none more = record {
  first = λ m n.
      more m n ∙ (ap (λ o. cond (has_name m n definition) (Some count) o) (whole.first m n)
      ∙ step (has_name m n) defined definition count (has_name m n definition) refl counted (λ same. at_name defined definition None m n (sym is) same));
}

same_position : (defined : List DefinedName) (definition : DefinedName) (i : ℕ) → position (has_name definition.module.now definition.name.now) defined ≡ Some i → (m n : List ℕ) (here : Bool) → has_name m n definition ≡ here → position (has_name m n) defined ≡ position (has_name m n) (defined ++ definition ∷ [])
same_position defined definition i found m n true passes =
    let there = at_name defined definition (Some i) m n found passes in
    there ∙ sym (position_kept (has_name m n) defined definition i there)
same_position defined definition i found m n false passes = position_same (has_name m n) defined definition passes (position (has_name m n) defined) refl

-- an index that had the name of one more definition
pub unchanged : (defined : List DefinedName) (definition : DefinedName) (index : NameIndex) (found : Option ℕ) → IsIndexOf defined index → found ≡ position (has_name definition.module.now definition.name.now) defined → is_some found ≡ true → IsIndexOf (defined ++ definition ∷ []) index
unchanged defined definition index None whole is some = search rules
unchanged defined definition index (Some i) whole is some = record {
  first = λ m n. whole.first m n ∙ same_position defined definition i (sym is) m n (has_name m n definition) refl;
}
