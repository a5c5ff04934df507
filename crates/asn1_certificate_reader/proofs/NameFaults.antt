-- The faults of the values of a name, by the search for them.
use Rattle.std.specs.Prelude.{◌≡◌, ◌<◌, ◌≤◌, ◌+◌, ℕ, Bool, false, true, List, Option, None, Some, Result, Ok, Err, MatchResult, is_ok}
use Rattle.std.proofs.Common.{ap, get_or, length, refl, subst, sym, take}
use Rattle.std.proofs.lemmas.List.{take_all}
use Rattle.std.proofs.lemmas.List.Elements.{All-more}
use Rattle.std.proofs.lemmas.Str.{IsUtf8-from_is_utf8, is_utf8-from_IsUtf8}
use Rattle.std.specs.List.{All}
use Rattle.std.specs.Str.{IsUtf8, is_utf8}
use Rattle.asn1_certificate_reader.specs.NameFaults.{fault_of, value_fault}
use Rattle.asn1_certificate_reader.specs.declared.name_faults.ValueFault.TheVariants.{NoString}
use Rattle.asn1_der_items.specs.Elements.{Element, element_at}

-- nothing is an error and a success
pub never : false ≡ true → ⊥
never same = cc

-- octets in which no element is found
pub no_element : (octets : List ℕ) → ((e : Element) → element_at octets ≡ Some e → false ≡ true) → Some NoString ≡ value_fault octets
no_element octets not = by (element_at octets) refl
  where
    by : (o : Option Element) → element_at octets ≡ o → Some NoString ≡ value_fault octets
    by None is = sym (ap fault_of is)
    by (Some e) is = absurd (never (not e is))

-- a test that does not fail where it must
no_utf8 : (octets : List ℕ) → (IsUtf8 octets → ⊥) → is_utf8 octets ≡ false
no_utf8 octets not = by (is_utf8 octets) refl
  where
    by : (b : Bool) → is_utf8 octets ≡ b → is_utf8 octets ≡ false
    by false is = is
    by true is = absurd (not (IsUtf8-from_is_utf8 octets is))

-- octets are UTF-8 where reading them as a text succeeds
pub read_is_utf8 : {A B : Type 0} (Text : A → Type 0) (Why : B → Type 0) (octets : List ℕ) (r : Result A B) →
    MatchResult r (λ s. Text s × IsUtf8 octets) (λ e. (IsUtf8 octets → ⊥) × Why e) → is_ok r ≡ is_utf8 octets
read_is_utf8 Text Why octets (Ok s) is = sym (is_utf8-from_IsUtf8 octets is.1)
read_is_utf8 Text Why octets (Err e) is = sym (no_utf8 octets is.0)

-- the items of a list that a loop has visited, and the next item
pub one_more : {X : Type 0} (P : X → Type 0) (xs : List X) (i : ℕ) (x : X) → i < length xs → x ≡ get_or xs i x → All P (take i xs) → P x → All P (take (i + 1) xs)
one_more P xs i x below is all here = All-more P xs i x below all (subst P is here)

-- the items of a list that a loop has visited at its end
pub all_seen : {X : Type 0} (P : X → Type 0) (xs : List X) (i : ℕ) → length xs ≤ i → All P (take i xs) → All P xs
all_seen P xs i at_end all = subst (All P) (take_all i xs at_end) all
