-- For implementations of `Enumerated`: a test, which computes, shows that any two items differ and that their number fits.
use Rattle.std.specs.Prelude.{◌≡◌, ℕ, zero, suc, ◌<◌, ◌^◌, Bool, true, false, ◌&&◌, not, List, [], ◌∷◌, AllPairs, length, nat_lt, refl}
use Rattle.std.specs.List.{list_all}
use Rattle.std.specs.Ordering.{int_eq}
use Rattle.std.specs.Str.{bytes_eq}
use Rattle.std.proofs.Common.{arith, get_or, sym, ◌∙◌}
use Rattle.std.proofs.lemmas.Bool.{false≢true}
use Rattle.std.proofs.lemmas.Bool.Decides.{Decides-int_eq, nat_tests}
use Rattle.std.proofs.lemmas.Grind.{common_steps}
use Rattle.std.proofs.lemmas.Slice.Eq.{bytes_eq-Decides}
use Rattle.asn1_components.specs.Enumerations.{Item, Enumeration, Differ, IsEnumeration, items}

-- whether two items differ in value, in number and in name
abbrev pub differ : {V : Type 0} → (V → V → Bool) → Item V → Item V → Bool
differ eq i j = not (eq i.value j.value) && (not (int_eq i.number j.number) && not (bytes_eq i.name j.name))

-- whether any two do
abbrev pub all_differ : {V : Type 0} → (V → V → Bool) → List (Item V) → Bool
all_differ eq [] = true
all_differ eq (i ∷ is) = list_all (differ eq i) is && all_differ eq is

-- the test
abbrev pub is_enumeration : {V : Type 0} → (V → V → Bool) → Enumeration V → Bool
is_enumeration eq e = all_differ eq (items e) && nat_lt (length (items e)) (2 ^ 64)

and_parts : (a b : Bool) → (a && b) ≡ true → (a ≡ true) × (b ≡ true)
and_parts true true h = (refl, refl)
and_parts true false h = absurd (false≢true h)
and_parts false b h = absurd (false≢true h)

false-from_not : (a : Bool) → not a ≡ true → a ≡ false
false-from_not false h = refl
false-from_not true h = absurd (false≢true h)

Differ-from_test : {V : Type 0} (eq : V → V → Bool) (i j : Item V) → differ eq i j ≡ true → Differ eq i j
Differ-from_test eq i j h =
    let values = and_parts (not (eq i.value j.value)) (not (int_eq i.number j.number) && not (bytes_eq i.name j.name)) h in
    let labels = and_parts (not (int_eq i.number j.number)) (not (bytes_eq i.name j.name)) values.1 in
    record {
      value = false-from_not (eq i.value j.value) values.0;
      number = λ same. false≢true (sym (false-from_not (int_eq i.number j.number) labels.0) ∙ (Decides-int_eq i.number j.number).1 same);
      name = λ same. false≢true (sym (false-from_not (bytes_eq i.name j.name) labels.1) ∙ (bytes_eq-Decides i.name j.name).1 same);
    }

list_all-at : {X : Type 0} (test : X → Bool) (xs : List X) (k : ℕ) (d : X) → list_all test xs ≡ true → k < length xs → test (get_or xs k d) ≡ true
list_all-at test [] k d h within = absurd (omega arith)
list_all-at test (x ∷ xs) zero d h within = (and_parts (test x) (list_all test xs) h).0
list_all-at test (x ∷ xs) (suc k) d h within = list_all-at test xs k d (and_parts (test x) (list_all test xs) h).1 (omega arith)

AllPairs-from_test : {V : Type 0} (eq : V → V → Bool) (is : List (Item V)) → all_differ eq is ≡ true → AllPairs (Differ eq) is
AllPairs-from_test eq [] h i j d lt within = absurd (omega arith)
AllPairs-from_test eq (x ∷ xs) h i zero d lt within = absurd (omega arith)
AllPairs-from_test eq (x ∷ xs) h zero (suc j) d lt within =
    Differ-from_test eq x (get_or xs j d) (list_all-at (differ eq x) xs j d (and_parts (list_all (differ eq x) xs) (all_differ eq xs) h).0 (omega arith))
AllPairs-from_test eq (x ∷ xs) h (suc i) (suc j) d lt within =
    AllPairs-from_test eq xs (and_parts (list_all (differ eq x) xs) (all_differ eq xs) h).1 i j d (omega arith) (omega arith)

-- an enumeration that passes the test
pub by_test : {V : Type 0} {eq : V → V → Bool} {e : Enumeration V} → is_enumeration eq e ≡ true → IsEnumeration eq e
by_test {eq = eq} {e = e} h =
    let parts = and_parts (all_differ eq (items e)) (nat_lt (length (items e)) (2 ^ 64)) h in
    record { distinct = AllPairs-from_test eq (items e) parts.0; fits = let t = parts.1 in grind (arith, nat_tests, common_steps, t) }
