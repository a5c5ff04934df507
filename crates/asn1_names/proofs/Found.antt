-- Elements that are found by their position.
use Rattle.std.proofs.Common.{◌≡◌, ◌++◌, ◌<◌, ◌≤◌, ℕ, Bool, true, false, ◌&&◌, ◌||◌, List, [], ◌∷◌, length, Option, None, Some, refl, sym, ap, ◌∙◌, arith, zero, suc}
use Rattle.std.specs.List.{find, list_any, position, position_or_len, slice_get}
use Rattle.std.specs.Option.{is_some, option_and_then, option_copied}
use Rattle.std.specs.Slice.{IsItemAt}
use denote.Ref.{Bor}
use Rattle.std.proofs.lemmas.Option.{slice_get_past, slice_get_read}
use Rattle.std.proofs.lemmas.Bool.Decides.{nat_tests}
use Rattle.std.proofs.lemmas.Grind.{common_steps}
use Rattle.std.proofs.lemmas.List.Folds.{find_at}
use Rattle.asn1_names.specs.declared.names.DefinedName.{DefinedName}
use Rattle.asn1_names.specs.declared.names.ImportedName.{ImportedName}
use Rattle.asn1_names.specs.declared.names.UsedName.{UsedName}
use Rattle.asn1_names.specs.Definitions.{has_name, is_defined}
use Rattle.asn1_names.specs.References.{brought_in, name_brought_in, provides}
use Rattle.asn1_names.proofs.Indexed.{named}

position_decides_by : {X : Type 0} (p : X → Bool) (x : X) (xs : List X) (b : Bool) → p x ≡ b → is_some (position p (x ∷ xs)) ≡ (b || is_some (position p xs))
position_decides_by p x xs true passes = grind (arith, nat_tests, common_steps)
position_decides_by p x xs false passes = grind (arith, nat_tests, common_steps)

-- a position is found exactly if some element passes
pub position_decides : {X : Type 0} (p : X → Bool) (xs : List X) → is_some (position p xs) ≡ list_any p xs
position_decides p [] = refl
position_decides p (x ∷ xs) = position_decides_by p x xs (p x) refl ∙ ap (λ b. p x || b) (position_decides p xs)

position_is : {X : Type 0} (p : X → Bool) (xs : List X) (i : ℕ) → position p xs ≡ Some i → (position_or_len p xs ≡ i) × (i < length xs)
position_is p xs i found = grind (arith, nat_tests)

slice_get_left : {X : Type 0} (xs ys : List X) (i : ℕ) → i < length xs → slice_get (xs ++ ys) i ≡ slice_get xs i
slice_get_left [] ys i within = absurd (omega arith)
slice_get_left (x ∷ xs) ys zero within = refl
slice_get_left (x ∷ xs) ys (suc i) within = slice_get_left xs ys i (omega arith)

-- the element at the position that is found, also if more elements follow
find_of_position : {X : Type 0} (p : X → Bool) (xs ys : List X) (i : ℕ) → position p xs ≡ Some i → slice_get (xs ++ ys) i ≡ find p xs
find_of_position p xs ys i found =
    let at = position_is p xs i found in
    slice_get_left xs ys i at.1 ∙ (ap (λ k. slice_get xs k) (sym at.0) ∙ sym (find_at p xs))

none_of_position : {X : Type 0} (p : X → Bool) (xs : List X) → position p xs ≡ None → find p xs ≡ None
none_of_position p xs none =
    let past : length xs ≤ position_or_len p xs = grind (arith, nat_tests) in
    find_at p xs ∙ slice_get_past xs (position_or_len p xs) past

-- the first element that passes, by the position that is found
pub found_by : {X : Type 0} (p : X → Bool) (xs ys zs : List X) (o : Option ℕ) → o ≡ position p xs → zs ≡ xs ++ ys → option_and_then (slice_get zs) o ≡ find p xs
found_by p xs ys zs None is whole = sym (none_of_position p xs (sym is))
found_by p xs ys zs (Some i) is whole = ap (λ l. slice_get l i) whole ∙ find_of_position p xs ys i (sym is)

-- the names that are brought in have a name exactly if some import provides it
brought_by : (defined : List DefinedName) (used : UsedName) (import : ImportedName) (rest : List ImportedName) (here known : Bool) → has_name used.module.now used.name.now (name_brought_in import) ≡ here → is_defined defined import.from.now import.name.now ≡ known → list_any (has_name used.module.now used.name.now) (brought_in defined (import ∷ rest)) ≡ ((here && known) || list_any (has_name used.module.now used.name.now) (brought_in defined rest))
brought_by defined used import rest true true is provided = grind (arith, common_steps)
brought_by defined used import rest false true is provided = grind (arith, common_steps)
brought_by defined used import rest true false is provided = grind (arith, common_steps)
brought_by defined used import rest false false is provided = grind (arith, common_steps)

provides_by : (defined : List DefinedName) (used : UsedName) (import : ImportedName) (here : Bool) → has_name used.module.now used.name.now (name_brought_in import) ≡ here → (here && is_defined defined import.from.now import.name.now) ≡ (here && is_defined defined import.from.now used.name.now)
provides_by defined used import true is = ap (λ n. is_defined defined import.from.now n) ((named (name_brought_in import) used.module.now used.name.now is).1)
provides_by defined used import false is = refl

pub brought : (defined : List DefinedName) (used : UsedName) (imported : List ImportedName) → is_defined (brought_in defined imported) used.module.now used.name.now ≡ list_any (provides defined used) imported
brought defined used [] = refl
brought defined used (import ∷ rest) =
    brought_by defined used import rest (has_name used.module.now used.name.now (name_brought_in import)) (is_defined defined import.from.now import.name.now) refl refl
    ∙ (ap (λ b. b || list_any (has_name used.module.now used.name.now) (brought_in defined rest)) (provides_by defined used import (has_name used.module.now used.name.now (name_brought_in import)) refl)
    ∙ ap (λ b. provides defined used import || b) (brought defined used rest))

-- the element that `get` lends
pub lent : {X : Type 0} (xs : List X) (i : ℕ) (r : Option (Bor X)) → IsItemAt xs i r → option_copied r ≡ slice_get xs i
lent xs i None at = sym (slice_get_past xs i (grind (arith, nat_tests)))
lent xs i (Some x) at = sym (slice_get_read xs (length xs) i x.now refl (grind (arith, nat_tests)) (grind (arith, nat_tests)))
