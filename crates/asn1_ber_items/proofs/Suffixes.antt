-- The bytes behind a header are the last of the bytes.
use Rattle.std.proofs.Common.{◌≡◌, ℕ, ◌+◌, ◌-◌, ◌*◌, ◌^◌, Bool, true, false, List, [], ◌∷◌, ◌++◌, Option, None, Some, append_assoc, drop, take, length, refl, ap, sym, ◌∙◌}
use Rattle.std.proofs.lemmas.List.{take-append-drop}
use Rattle.std.specs.Prelude.{◌&&◌, ◌==◌, ◌/◌, ◌%◌, nat_eq, nat_le, nat_lt, if◌then◌else◌}
use Rattle.std.specs.Option.{option_and_then, option_map}
use Rattle.asn1_items.specs.Headers.{class_at}
use Rattle.asn1_tags.specs.declared.classes.Class.{Class}
use Rattle.asn1_values.specs.Numbers.{magnitude}
use Rattle.asn1_der_items.specs.Base128.{Front, base128_after, base128_at}
use Rattle.asn1_der_items.specs.Identifiers.{Identified, high_tag, high_tag_at, identifier_at, of_class}
use Rattle.asn1_ber_items.specs.Headers.{Header, Measured, header_at, later_size_at, long_size_at, of_identifier, size_at, with_size}

some_is : {A : Type 0} {x y : A} → Some x ≡ Some y → x ≡ y
some_is e = cc

-- The second bytes are the last of the first.
pub record EndIn (bytes rest : List ℕ) : Type 0 where
  pub front : List ℕ
  pub are : bytes ≡ front ++ rest

itself : (bytes rest : List ℕ) → bytes ≡ rest → EndIn bytes rest
itself bytes rest same = record { front = []; are = same }

behind_one : (o : ℕ) (bytes rest : List ℕ) → EndIn bytes rest → EndIn (o ∷ bytes) rest
behind_one o bytes rest e = record { front = o ∷ e.front; are = ap (λ l. o ∷ l) e.are }

both : (bytes middle rest : List ℕ) → EndIn bytes middle → EndIn middle rest → EndIn bytes rest
both bytes middle rest a b = record { front = a.front ++ b.front; are = a.are ∙ ap (λ l. a.front ++ l) b.are ∙ sym (append_assoc a.front b.front rest) }

after_octet : (n o : ℕ) (bytes : List ℕ) (f : Front) → (base128_after (n * 128 + (o - 128)) bytes ≡ Some f → EndIn bytes f.rest) → base128_after n (o ∷ bytes) ≡ Some f → EndIn (o ∷ bytes) f.rest
after_octet n o bytes f later is = by (nat_lt o 128) is
  where
    by : (b : Bool) → (if b then Some (record { number = n * 128 + o; rest = bytes }) else base128_after (n * 128 + (o - 128)) bytes) ≡ Some f → EndIn (o ∷ bytes) f.rest
    by true is = behind_one o bytes f.rest (itself bytes f.rest (ap (λ (g : Front). g.rest) (some_is is)))
    by false is = behind_one o bytes f.rest (later is)

number_ends : (n : ℕ) (bytes : List ℕ) (f : Front) → base128_after n bytes ≡ Some f → EndIn bytes f.rest
number_ends n [] f is = cc
number_ends n (o ∷ bytes) f is = after_octet n o bytes f (number_ends (n * 128 + (o - 128)) bytes f) is

first_number_ends : (bytes : List ℕ) (f : Front) → base128_at bytes ≡ Some f → EndIn bytes f.rest
first_number_ends [] f is = cc
first_number_ends (o ∷ bytes) f is = by (nat_eq o 128) is
  where
    by : (b : Bool) → (if b then None else base128_after 0 (o ∷ bytes)) ≡ Some f → EndIn (o ∷ bytes) f.rest
    by true is = cc
    by false is = number_ends 0 (o ∷ bytes) f is

high_tag_ends : (class : Class) (constructed : Bool) (bytes : List ℕ) (i : Identified) → high_tag_at class constructed bytes ≡ Some i → EndIn bytes i.rest
high_tag_ends class constructed bytes i is = by (base128_at bytes) refl is
  where
    fits : (f : Front) (b : Bool) → base128_at bytes ≡ Some f →
        (if b then Some (record { tag = record { class = class; value = f.number }; constructed = constructed; rest = f.rest }) else None) ≡ Some i → EndIn bytes i.rest
    fits f true found is = both bytes f.rest i.rest (first_number_ends bytes f found) (itself f.rest i.rest (ap (λ (j : Identified). j.rest) (some_is is)))
    fits f false found is = cc

    by : (o : Option Front) → base128_at bytes ≡ o → option_and_then (high_tag class constructed) o ≡ Some i → EndIn bytes i.rest
    by None found is = cc
    by (Some f) found is = fits f (nat_le 31 f.number && nat_lt f.number (2 ^ 32)) found is

identifier_ends : (bytes : List ℕ) (i : Identified) → identifier_at bytes ≡ Some i → EndIn bytes i.rest
identifier_ends [] i is = cc
identifier_ends (o ∷ bytes) i is = by (class_at (o / 64)) is
  where
    low : (class : Class) (b : Bool) → (if b then Some (record { tag = record { class = class; value = o % 32 }; constructed = o / 32 % 2 == 1; rest = bytes }) else high_tag_at class (o / 32 % 2 == 1) bytes) ≡ Some i →
        EndIn (o ∷ bytes) i.rest
    low class true is = behind_one o bytes i.rest (itself bytes i.rest (ap (λ (j : Identified). j.rest) (some_is is)))
    low class false is = behind_one o bytes i.rest (high_tag_ends class (o / 32 % 2 == 1) bytes i is)

    by : (c : Option Class) → option_and_then (of_class (o / 32 % 2 == 1) (o % 32) bytes) c ≡ Some i → EndIn (o ∷ bytes) i.rest
    by None is = cc
    by (Some class) is = low class (nat_lt (o % 32) 31) is

long_size_ends : (count : ℕ) (bytes : List ℕ) (m : Measured) → long_size_at count bytes ≡ Some m → EndIn bytes m.rest
long_size_ends count bytes m is = by (nat_le count (length bytes) && nat_lt (magnitude (take count bytes)) (2 ^ 64)) is
  where
    by : (b : Bool) → (if b then Some (record { size = Some (magnitude (take count bytes)); rest = drop count bytes }) else None) ≡ Some m → EndIn bytes m.rest
    by true is = record { front = take count bytes; are = sym (take-append-drop count bytes) ∙ ap (λ (n : Measured). take count bytes ++ n.rest) (some_is is) }
    by false is = cc

later_size_ends : (count : ℕ) (bytes : List ℕ) (m : Measured) → later_size_at count bytes ≡ Some m → EndIn bytes m.rest
later_size_ends count bytes m is = by (nat_eq count 0) (nat_eq count 127) is
  where
    by : (a b : Bool) → (if a then Some (record { size = None; rest = bytes }) else (if b then None else long_size_at count bytes)) ≡ Some m → EndIn bytes m.rest
    by true b is = itself bytes m.rest (ap (λ (n : Measured). n.rest) (some_is is))
    by false true is = cc
    by false false is = long_size_ends count bytes m is

size_ends : (bytes : List ℕ) (m : Measured) → size_at bytes ≡ Some m → EndIn bytes m.rest
size_ends [] m is = cc
size_ends (o ∷ bytes) m is = by (nat_lt o 128) is
  where
    by : (b : Bool) → (if b then Some (record { size = Some o; rest = bytes }) else later_size_at (o - 128) bytes) ≡ Some m → EndIn (o ∷ bytes) m.rest
    by true is = behind_one o bytes m.rest (itself bytes m.rest (ap (λ (n : Measured). n.rest) (some_is is)))
    by false is = behind_one o bytes m.rest (later_size_ends (o - 128) bytes m is)

pub header_ends : (bytes : List ℕ) (h : Header) → header_at bytes ≡ Some h → EndIn bytes h.rest
header_ends bytes h is = by (identifier_at bytes) refl is
  where
    by_size : (i : Identified) (o : Option Measured) → size_at i.rest ≡ o → option_map (with_size i) o ≡ Some h → EndIn i.rest h.rest
    by_size i None found is = cc
    by_size i (Some m) found is = both i.rest m.rest h.rest (size_ends i.rest m found) (itself m.rest h.rest (ap (λ (g : Header). g.rest) (some_is is)))

    by : (o : Option Identified) → identifier_at bytes ≡ o → option_and_then of_identifier o ≡ Some h → EndIn bytes h.rest
    by None found is = cc
    by (Some i) found is = both bytes i.rest h.rest (identifier_ends bytes i found) (by_size i (size_at i.rest) refl is)
