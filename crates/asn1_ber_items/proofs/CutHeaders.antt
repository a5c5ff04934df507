-- Octets that end too early in a length, and in a header.
use Rattle.std.proofs.Common.{◌≡◌, ◌≢◌, ℕ, zero, suc, ◌+◌, ◌-◌, ◌*◌, ◌^◌, ◌<◌, ◌≤◌, Bool, true, false, List, [], ◌∷◌, ◌++◌, Option, None, Some, append_assoc, length, length-append, drop, take, slice_index_or, ap, refl, sym, subst, ◌∙◌, arith}
use Rattle.std.proofs.Math.Nat.{pow-suc}
use Rattle.std.proofs.lemmas.Bool.{le-leb, le-ltb, leb-true, lt-leb, lt-ltb, ltb-true, ne_eqb}
use Rattle.std.proofs.lemmas.Int.Digits.{number_after_append}
use Rattle.std.proofs.lemmas.List.{length-replicate, length-take-le, take-append-le, take_all}
use Rattle.std.specs.Int.Digits.{number_from_digits_after}
use Rattle.std.specs.Option.{option_and_then, option_map}
use Rattle.std.specs.Prelude.{◌↔◌, ◌&&◌, nat_eq, nat_le, nat_lt, replicate, if◌then◌else◌}
use Rattle.asn1_values.specs.Numbers.{magnitude}
use Rattle.asn1_der_items.proofs.Cuts.{completed, early_behind, early_same}
use Rattle.asn1_der_items.proofs.TrailingBytes.{identifier_at-append}
use Rattle.asn1_der_items.specs.Cuts.{EndEarly}
use Rattle.asn1_der_items.specs.Identifiers.{Identified, identifier_at}
use Rattle.asn1_ber_items.specs.Headers.{Measured, header_at, later_size_at, long_size_at, of_identifier, size_at, with_size}

some_is : {A : Type 0} {x y : A} → Some x ≡ Some y → x ≡ y
some_is e = cc

-- the number before digits counts by its place
pub worth : (n : ℕ) (ds : List ℕ) → n * 256 ^ length ds ≤ number_from_digits_after 256 n ds
worth n [] = omega arith
worth n (d ∷ ds) = rw pow-suc (omega (arith, worth (n * 256 + d) ds))

-- and alone before zeros
before_zeros : (n k : ℕ) → number_from_digits_after 256 n (replicate k 0) ≡ n * 256 ^ k
before_zeros n zero = omega arith
before_zeros n (suc k) = before_zeros (n * 256 + 0) k ∙ rw pow-suc (omega arith)

-- a number with one zero more, and with more of them
pub one_zero : (n s i : ℕ) → s ≡ n * 256 ^ i → s * 256 ≡ n * 256 ^ (i + 1)
one_zero n s i is = let more : i + 1 ≡ suc i = omega arith in rw (more, pow-suc) (omega (arith, is))

grows : (n i d : ℕ) → n * 256 ^ i ≤ n * 256 ^ (i + d)
grows n i zero = let same : i + 0 ≡ i = omega arith in rw same (omega arith)
grows n i (suc d) = let same : i + suc d ≡ suc (i + d) = omega arith in rw (same, pow-suc) (omega (arith, grows n i d))

pub fewer_zeros : (n s i k : ℕ) → s ≡ n * 256 ^ i → i < k → n * 256 ^ k < 2 ^ 64 → s * 256 < 2 ^ 64
fewer_zeros n s i k is less small =
    let same : (i + 1) + (k - (i + 1)) ≡ k = omega (arith, less) in
    let low : n * 256 ^ (i + 1) ≤ n * 256 ^ k = subst (λ j. n * 256 ^ (i + 1) ≤ n * 256 ^ j) same (grows n (i + 1) (k - (i + 1))) in
    omega (arith, low, one_zero n s i is, small)

pub all_zeros : (n s i k : ℕ) → s ≡ n * 256 ^ i → i ≡ k → s < 2 ^ 64 → n * 256 ^ k < 2 ^ 64
all_zeros n s i k is last small = subst (λ j. n * 256 ^ j < 2 ^ 64) last (omega (arith, is, small))

pub no_smaller : (n k : ℕ) → n ≤ n * 256 ^ k
no_smaller n k =
    let none : n * 256 ^ 0 ≡ n = omega arith in
    let same : 0 + k ≡ k = omega arith in
    subst (λ m. m ≤ n * 256 ^ k) none (subst (λ j. n * 256 ^ 0 ≤ n * 256 ^ j) same (grows n 0 k))

-- Octets of a length that are fewer than its first octet says.
module _ (count : ℕ) (octets : List ℕ) (few : length octets < count) where
  none_there : long_size_at count octets ≡ None
  none_there = ap (λ b. if b && nat_lt (magnitude (take count octets)) (2 ^ 64) then Some (record { size = Some (magnitude (take count octets)); rest = drop count octets }) else None) (lt-leb count (length octets) few)

  pub long_early : magnitude octets * 256 ^ (count - length octets) < 2 ^ 64 → EndEarly (long_size_at count) octets
  long_early fits = early (replicate (count - length octets) 0) refl
    where
      early : (more : List ℕ) → more ≡ replicate (count - length octets) 0 → EndEarly (long_size_at count) octets
      early more is =
          let long : length (octets ++ more) ≡ count = omega (arith, few, length-append octets more, ap length is, length-replicate {A = ℕ} (count - length octets) 0) in
          let value : magnitude (take count (octets ++ more)) ≡ magnitude octets * 256 ^ (count - length octets) =
          ap magnitude (take_all count (octets ++ more) (omega (arith, long))) ∙ number_after_append 256 0 octets more
          ∙ ap (number_from_digits_after 256 (magnitude octets)) is ∙ before_zeros (magnitude octets) (count - length octets) in
          record {
            none = none_there;
            more = more;
            whole = record { size = Some (magnitude (take count (octets ++ more))); rest = drop count (octets ++ more) };
            completed =
                ap (λ b. if b && nat_lt (magnitude (take count (octets ++ more))) (2 ^ 64) then Some (record { size = Some (magnitude (take count (octets ++ more))); rest = drop count (octets ++ more) }) else None)
                (le-leb count (length (octets ++ more)) (omega (arith, long)))
                ∙ ap (λ b. if true && b then Some (record { size = Some (magnitude (take count (octets ++ more))); rest = drop count (octets ++ more) }) else None)
                (lt-ltb (magnitude (take count (octets ++ more))) (2 ^ 64) (omega (arith, value, fits)));
          }

-- As many octets as the first says are there, and they are a number below 2^64.
pub record IsThere (count : ℕ) (octets : List ℕ) : Type 0 where
  pub enough : count ≤ length octets
  pub fits : magnitude (take count octets) < 2 ^ 64

pub is_there : (count : ℕ) (octets : List ℕ) (m : Measured) → long_size_at count octets ≡ Some m → IsThere count octets
is_there count octets m is = by (nat_le count (length octets)) (nat_lt (magnitude (take count octets)) (2 ^ 64)) refl refl is
  where
    by : (a b : Bool) → nat_le count (length octets) ≡ a → nat_lt (magnitude (take count octets)) (2 ^ 64) ≡ b →
        (if a && b then Some (record { size = Some (magnitude (take count octets)); rest = drop count octets }) else None) ≡ Some m → IsThere count octets
    by true true enough fits is = record { enough = leb-true count (length octets) enough; fits = ltb-true (magnitude (take count octets)) (2 ^ 64) fits }
    by true false enough fits is = cc
    by false b enough fits is = cc

take_more : (count : ℕ) (octets more : List ℕ) → length octets ≤ count → take count (octets ++ more) ≡ octets ++ take (count - length octets) more
take_more count [] more few = ap (λ n. take n more) (omega arith)
take_more zero (o ∷ octets) more few = absurd (omega (arith, few))
take_more (suc count) (o ∷ octets) more few = ap (λ l. o ∷ l) (take_more count octets more (omega (arith, few)) ∙ ap (λ n. octets ++ take n more) (omega arith))

pub early_long : (count : ℕ) (octets : List ℕ) → length octets < count → EndEarly (long_size_at count) octets → magnitude octets * 256 ^ (count - length octets) < 2 ^ 64
early_long count octets few early =
    let t = is_there count (octets ++ early.more) early.whole early.completed in
    let long : length (take (count - length octets) early.more) ≡ count - length octets = length-take-le (count - length octets) early.more (omega (arith, t.enough, length-append octets early.more)) in
    let value : magnitude (take count (octets ++ early.more)) ≡ number_from_digits_after 256 (magnitude octets) (take (count - length octets) early.more) =
    ap magnitude (take_more count octets early.more (omega (arith, few))) ∙ number_after_append 256 0 octets (take (count - length octets) early.more) in
    let low : magnitude octets * 256 ^ (count - length octets) ≤ number_from_digits_after 256 (magnitude octets) (take (count - length octets) early.more) =
    subst (λ k. magnitude octets * 256 ^ k ≤ number_from_digits_after 256 (magnitude octets) (take (count - length octets) early.more)) long (worth (magnitude octets) (take (count - length octets) early.more)) in
    omega (arith, low, value, t.fits)

-- octets that are all there do not end early
pub not_long : (count : ℕ) (octets : List ℕ) → count ≤ length octets → EndEarly (long_size_at count) octets → magnitude (take count octets) < 2 ^ 64
not_long count octets enough early =
    let t = is_there count (octets ++ early.more) early.whole early.completed in
    omega (arith, t.fits, ap magnitude (take-append-le count octets early.more enough))

-- the first octet of a length
pub cut_empty : (octets : List ℕ) → length octets < 1 → EndEarly size_at octets
cut_empty [] none = record { none = refl; more = 0 ∷ []; whole = record { size = Some 0; rest = [] }; completed = refl }
cut_empty (o ∷ octets) none = absurd (omega (arith, none))

pub behind_first : (octets : List ℕ) (count : ℕ) → 1 ≤ length octets → slice_index_or octets 0 0 ≡ count + 128 → EndEarly (later_size_at count) (take (length octets - 1) (drop 1 octets)) ↔ EndEarly size_at octets
behind_first [] count some first = absurd (omega (arith, some))
behind_first (o ∷ rest) count some first =
    subst (λ l. EndEarly (later_size_at count) l ↔ EndEarly size_at (o ∷ rest)) (sym (take_all (length (o ∷ rest) - 1) rest (omega arith))) (early_behind size_at (later_size_at count) o rest is)
  where
    is : (l : List ℕ) → size_at (o ∷ l) ≡ later_size_at count l
    is l = ap (λ b. if b then Some (record { size = Some o; rest = l }) else later_size_at (o - 128) l) (le-ltb o 128 (omega (arith, first))) ∙ ap (λ n. later_size_at n l) (let e : o - 128 ≡ count = omega (arith, first) in e)

pub no_length : (count : ℕ) (octets : List ℕ) → count ≡ 127 → EndEarly (later_size_at count) octets → ⊥
no_length count octets is early = let wrong : None ≡ Some early.whole = subst (λ n. later_size_at n (octets ++ early.more) ≡ Some early.whole) is early.completed in cc

pub is_long : (count : ℕ) (octets : List ℕ) → count ≢ 0 → count ≢ 127 → EndEarly (long_size_at count) octets ↔ EndEarly (later_size_at count) octets
is_long count octets some short = early_same (later_size_at count) (long_size_at count) octets same
  where
    same : (l : List ℕ) → later_size_at count l ≡ long_size_at count l
    same l =
        ap (λ b. if b then Some (record { size = None; rest = l }) else (if nat_eq count 127 then None else long_size_at count l)) (ne_eqb count 0 some)
        ∙ ap (λ b. if b then None else long_size_at count l) (ne_eqb count 127 short)

-- an identifier that ends early
module _ (bytes : List ℕ) where
  pub identifier_early : EndEarly identifier_at bytes → EndEarly header_at bytes
  identifier_early early =
      let c = completed bytes early in
      record {
        none = ap (option_and_then of_identifier) early.none;
        more = c.more ++ 0 ∷ [];
        whole = record { tag = c.tag; constructed = c.constructed; size = Some 0; rest = [] };
        completed = ap header_at (sym (append_assoc bytes c.more (0 ∷ []))) ∙ ap (option_and_then of_identifier) (c.whatever (0 ∷ []));
      }

  pub early_identifier : EndEarly header_at bytes → ((i : Identified) → identifier_at bytes ≡ Some i → ⊥) → EndEarly identifier_at bytes
  early_identifier early none = by (identifier_at (bytes ++ early.more)) refl early.completed (identifier_at bytes) refl
    where
      by : (o : Option Identified) → identifier_at (bytes ++ early.more) ≡ o → option_and_then of_identifier o ≡ Some early.whole → (p : Option Identified) → identifier_at bytes ≡ p → EndEarly identifier_at bytes
      by None found is p at = cc
      by (Some i) found is None at = record { none = at; more = early.more; whole = i; completed = found }
      by (Some i) found is (Some j) at = absurd (none j at)

  -- a length that ends early, behind an identifier
  module _ (i : Identified) (at : identifier_at bytes ≡ Some i) where
    header_is : (more : List ℕ) → header_at (bytes ++ more) ≡ option_map (with_size (record { tag = i.tag; constructed = i.constructed; rest = i.rest ++ more })) (size_at (i.rest ++ more))
    header_is more = ap (option_and_then of_identifier) (identifier_at-append bytes more i at)

    pub size_early : EndEarly size_at i.rest → EndEarly header_at bytes
    size_early early = record {
      none = ap (option_and_then of_identifier) at ∙ ap (option_map (with_size i)) early.none;
      more = early.more;
      whole = with_size (record { tag = i.tag; constructed = i.constructed; rest = i.rest ++ early.more }) early.whole;
      completed = header_is early.more ∙ ap (option_map (with_size (record { tag = i.tag; constructed = i.constructed; rest = i.rest ++ early.more }))) early.completed;
    }

    pub early_size : EndEarly header_at bytes → EndEarly size_at i.rest
    early_size early = by (size_at i.rest) refl (size_at (i.rest ++ early.more)) refl (sym (header_is early.more) ∙ early.completed)
      where
        by : (o : Option Measured) → size_at i.rest ≡ o → (p : Option Measured) → size_at (i.rest ++ early.more) ≡ p →
            option_map (with_size (record { tag = i.tag; constructed = i.constructed; rest = i.rest ++ early.more })) p ≡ Some early.whole → EndEarly size_at i.rest
        by None none None found is = cc
        by None none (Some m) found is = record { none = none; more = early.more; whole = m; completed = found }
        by (Some m) there p found is =
            let wrong : Some (with_size i m) ≡ None = sym (ap (option_and_then of_identifier) at ∙ ap (option_map (with_size i)) there) ∙ early.none in cc
