-- Definitions that have one name.
use Rattle.std.proofs.Common.{◌≡◌, ◌↔◌, ◌<◌, ◌≤◌, ◌++◌, ℕ, Bool, true, false, cond, List, [], ◌∷◌, length, take, drop, get_or, Option, None, Some, refl, sym, subst, ap, ◌∙◌, rules, arith, length-append, append_assoc}
use Rattle.std.specs.List.{All, AllPairs, cons_option, find}
use Rattle.std.specs.Option.{option_map}
use Rattle.std.proofs.lemmas.Bool.{false_from_ne_true}
use Rattle.std.proofs.lemmas.Bool.Decides.{not_from_Decides}
use Rattle.std.proofs.lemmas.List.{append-nil, drop_all, get_or_append_left}
use Rattle.std.proofs.lemmas.List.Elements.{All-nil, All-cons, All-head, All-tail}
use Rattle.std.proofs.lemmas.List.Quantifiers.{all_pairs_push}
use Rattle.std.proofs.Math.Seq.{get_or-append_seam}
use Rattle.asn1_names.specs.declared.names.DefinedName.{DefinedName}
use Rattle.asn1_names.specs.declared.doubled.DoubledName.{DoubledName}
use Rattle.asn1_names.specs.Distinct.{IsDistinct, has_same_name, doubled}
use Rattle.asn1_names.proofs.Resolved.{named_decides}

-- a search that finds nothing, and one of a list in which no element passes
passed_over : {X : Type 0} (b : Bool) (x : X) (o : Option X) → cond b (Some x) o ≡ None → (b ≡ false) × (o ≡ None)
passed_over true x o nothing = search rules
passed_over false x o nothing = (refl, nothing)

none_found : {X : Type 0} (p : X → Bool) (xs : List X) → find p xs ≡ None → All (λ x. p x ≡ false) xs
none_found p [] nothing = All-nil (λ x. p x ≡ false)
none_found p (x ∷ xs) nothing =
    let parts = passed_over (p x) x (find p xs) nothing in
    All-cons (λ y. p y ≡ false) x xs parts.0 (none_found p xs parts.1)

none_to_find : {X : Type 0} (p : X → Bool) (xs : List X) → All (λ x. p x ≡ false) xs → find p xs ≡ None
none_to_find p [] fail = refl
none_to_find p (x ∷ xs) fail =
    let failed : p x ≡ false = All-head (λ y. p y ≡ false) x xs fail in
    rw failed (none_to_find p xs (All-tail (λ y. p y ≡ false) x xs fail))

nothing_put : (o : Option DefinedName) (d : DefinedName) (rest : List DoubledName) → cons_option (option_map (λ first. record { first = first; again = d }) o) rest ≡ [] → (o ≡ None) × (rest ≡ [])
nothing_put None d rest empty = (refl, empty)
nothing_put (Some x) d rest empty = search rules

all_distinct : (earlier later : List DefinedName) → AllPairs IsDistinct earlier → doubled earlier later ≡ [] → AllPairs IsDistinct (earlier ++ later)
all_distinct earlier [] before empty = subst (AllPairs IsDistinct) (sym (append-nil earlier)) before
all_distinct earlier (d ∷ later) before empty =
    let parts = nothing_put (find (has_same_name d) earlier) d (doubled (earlier ++ d ∷ []) later) empty in
    let none = none_found (has_same_name d) earlier parts.0 in
    let more = all_pairs_push IsDistinct earlier d before (λ k x lt. not_from_Decides _ (named_decides d.module.now d.name.now (get_or earlier k x)) (none k x lt)) in
    subst (AllPairs IsDistinct) (append_assoc earlier (d ∷ []) later) (all_distinct (earlier ++ d ∷ []) later more parts.1)

none_doubled : (earlier later : List DefinedName) → AllPairs IsDistinct (earlier ++ later) → doubled earlier later ≡ []
none_doubled earlier [] pairs = refl
none_doubled earlier (d ∷ later) pairs =
    let apart : All (λ x. has_same_name d x ≡ false) earlier = λ k x lt.
    false_from_ne_true _ (λ same.
    let first = get_or_append_left earlier (d ∷ later) x k lt in
    let second = get_or-append_seam earlier d later x in
    let within : length earlier < length (earlier ++ d ∷ later) = omega (arith, length-append earlier (d ∷ later)) in
    let differ = pairs k (length earlier) x lt within in
    let differ_here : IsDistinct (get_or earlier k x) d = subst (λ y. IsDistinct y d) first (subst (IsDistinct (get_or (earlier ++ d ∷ later) k x)) second differ) in
    differ_here ((named_decides d.module.now d.name.now (get_or earlier k x)).0 same)) in
    let nothing : find (has_same_name d) earlier ≡ None = none_to_find (has_same_name d) earlier apart in
    rw nothing (none_doubled (earlier ++ d ∷ []) later (subst (AllPairs IsDistinct) (sym (append_assoc earlier (d ∷ []) later)) pairs))

no_pairs : AllPairs IsDistinct []
no_pairs = search rules

-- no name is found twice exactly if no two definitions of a module have one name
pub distinct : (defined : List DefinedName) → (doubled [] defined ≡ []) ↔ AllPairs IsDistinct defined
distinct defined = (all_distinct [] defined no_pairs, none_doubled [] defined)

-- the names that were found when all definitions are passed
pub finished : (found : List DoubledName) (defined : List DefinedName) (i : ℕ) → found ++ doubled (take i defined) (drop i defined) ≡ doubled [] defined → length defined ≤ i → found ≡ doubled [] defined
finished found defined i so_far end =
    sym (append-nil found) ∙ (ap (λ rest. found ++ doubled (take i defined) rest) (sym (drop_all i defined end)) ∙ so_far)
