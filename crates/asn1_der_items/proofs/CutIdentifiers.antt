-- Octets that end too early in an identifier.
use Rattle.std.proofs.Common.{◌≡◌, ℕ, ◌+◌, ◌*◌, ◌^◌, ◌<◌, ◌≤◌, ◌-◌, ◌%◌, ◌/◌, Bool, true, false, List, [], ◌∷◌, ◌++◌, Option, None, Some, append-nil, length, drop, take, slice_index_or, refl, ap, sym, subst, ◌∙◌, arith, eq-eqb}
use Rattle.std.proofs.lemmas.Bool.{le-leb, le-ltb, lt-ltb, ltb-true}
use Rattle.std.proofs.lemmas.List.{take_all}
use Rattle.std.specs.Option.{option_and_then}
use Rattle.std.specs.Prelude.{◌↔◌, ◌&&◌, ◌==◌, nat_le, nat_lt, slice_get, if◌then◌else◌}
use Rattle.asn1_tags.specs.declared.classes.Class.{Class}
use Rattle.asn1_tags.specs.declared.classes.Class.TheVariants.{Universal}
use Rattle.asn1_items.proofs.Fronts.{read_before}
use Rattle.asn1_items.specs.Headers.{class_at}
use Rattle.asn1_der_items.proofs.Cuts.{early_behind}
use Rattle.asn1_der_items.proofs.ElementFronts.{base128_read, number_leaves, number_leaving}
use Rattle.asn1_der_items.proofs.Septets.{after_ge, after_of_at, at_from_after}
use Rattle.asn1_der_items.specs.Base128.{Front, LackLast, base128_after, base128_at}
use Rattle.asn1_der_items.specs.Cuts.{EndEarly}
use Rattle.asn1_der_items.specs.Identifiers.{Identified, high_tag, high_tag_at, identifier_at, of_class}

-- one digit more, whatever follows
pub after_more : (n : ℕ) (left more : List ℕ) → 1 ≤ length left → 128 ≤ slice_index_or left 0 0 →
    base128_after (n * 128 + (slice_index_or left 0 0 - 128)) (take (length left - 1) (drop 1 left) ++ more) ≡ base128_after n (left ++ more)
after_more n [] more some high = absurd (omega (arith, some))
after_more n (o ∷ rest) more some high =
    ap (λ l. base128_after (n * 128 + (o - 128)) (l ++ more)) (take_all (length (o ∷ rest) - 1) rest (omega arith))
    ∙ sym (ap (λ b. if b then Some (record { number = n * 128 + o; rest = rest ++ more }) else base128_after (n * 128 + (o - 128)) (rest ++ more)) (le-ltb o 128 high))

at_is_after : (bytes : List ℕ) → (slice_get bytes 0 ≡ Some 128 → ⊥) → base128_at bytes ≡ base128_after 0 bytes
at_is_after [] first = refl
at_is_after (o ∷ rest) first = at_from_after o rest (λ e. first (ap Some e))

first_stays : (bytes : List ℕ) (last : ℕ) → (slice_get bytes 0 ≡ Some 128 → ⊥) → last < 128 → slice_get (bytes ++ last ∷ []) 0 ≡ Some 128 → ⊥
first_stays [] last first small e = let same : last ≡ 128 = cc in omega (arith, same, small)
first_stays (o ∷ bytes) last first small e = first e

-- The digits before this place are a number, whatever follows.
abbrev pub AreBefore : ℕ → List ℕ → List ℕ → Type 0
AreBefore n left bytes = (more : List ℕ) → base128_after n (left ++ more) ≡ base128_after 0 (bytes ++ more)

-- the last digit is there
pub last_there : (n : ℕ) (bytes left : List ℕ) → 1 ≤ length left → slice_index_or left 0 0 < 128 → (slice_get bytes 0 ≡ Some 128 → ⊥) → AreBefore n left bytes →
    base128_at bytes ≡ Some (record { number = n * 128 + slice_index_or left 0 0; rest = take (length left - 1) (drop 1 left) })
last_there n bytes [] some small first same = absurd (omega (arith, some))
last_there n bytes (o ∷ rest) some small first same =
    at_is_after bytes first ∙ ap (base128_after 0) (sym (append-nil bytes)) ∙ sym (same []) ∙ ap (base128_after n) (append-nil (o ∷ rest))
    ∙ ap (λ b. if b then Some (record { number = n * 128 + o; rest = rest }) else base128_after (n * 128 + (o - 128)) rest) (lt-ltb o 128 small)
    ∙ ap (λ l. Some (record { number = n * 128 + o; rest = l })) (sym (take_all (length (o ∷ rest) - 1) rest (omega arith)))

-- the last digit is not there
pub lack_last : (limit n : ℕ) (bytes left : List ℕ) → length left < 1 → n < limit → (slice_get bytes 0 ≡ Some 128 → ⊥) → AreBefore n left bytes → LackLast limit bytes
lack_last limit n bytes [] none below first same = record {
  number = n;
  below = below;
  none = at_is_after bytes first ∙ ap (base128_after 0) (sym (append-nil bytes)) ∙ sym (same []);
  completed = λ last small.
      at_is_after (bytes ++ last ∷ []) (first_stays bytes last first small) ∙ sym (same (last ∷ []))
      ∙ ap (λ b. if b then Some (record { number = n * 128 + last; rest = [] }) else base128_after (n * 128 + (last - 128)) []) (lt-ltb last 128 small);
}
lack_last limit n bytes (o ∷ left) none below first same = absurd (omega (arith, none))

-- digits that no others make a number below the limit
pub too_many : (limit n : ℕ) (bytes left : List ℕ) → limit ≤ n → AreBefore n left bytes → (more : List ℕ) (f : Front) → base128_at (bytes ++ more) ≡ Some f → f.number < limit * 128 → ⊥
too_many limit n bytes left high same more f at small =
    let low = after_ge n (left ++ more) f (same more ∙ after_of_at (bytes ++ more) f at) in omega (arith, low, high, small)

pub zero_first : (bytes more : List ℕ) (f : Front) → slice_get bytes 0 ≡ Some 128 → base128_at (bytes ++ more) ≡ Some f → ⊥
zero_first [] more f first at = cc
zero_first (o ∷ bytes) more f first at =
    let same : o ≡ 128 = cc in
    let wrong : None ≡ Some f = sym (ap (λ b. if b then None else base128_after 0 (o ∷ (bytes ++ more))) (eq-eqb o 128 same)) ∙ at in cc

-- without others
pub alone : (bytes : List ℕ) (f : Front) → base128_at bytes ≡ Some f → base128_at (bytes ++ []) ≡ Some f
alone bytes f at = ap base128_at (append-nil bytes) ∙ at

-- A number is there, below 2^32.
pub record HasNumber (octets : List ℕ) : Type 0 where
  pub front : Front
  pub at : base128_at octets ≡ Some front
  pub small : front.number < 2 ^ 32

-- tags of high numbers
module _ (class : Class) (constructed : Bool) where
  abbrev identified : Front → Identified
  identified f = record { tag = record { class = class; value = f.number }; constructed = constructed; rest = f.rest }

  high_there : (f : Front) → 31 ≤ f.number → f.number < 2 ^ 32 → high_tag class constructed f ≡ Some (identified f)
  high_there f low small =
      ap (λ b. if b && nat_lt f.number (2 ^ 32) then Some (identified f) else None) (le-leb 31 f.number low)
      ∙ ap (λ b. if true && b then Some (identified f) else None) (lt-ltb f.number (2 ^ 32) small)

  pub lack_high : (octets : List ℕ) → LackLast 33554432 octets → EndEarly (high_tag_at class constructed) octets
  lack_high octets lack = record {
    none = ap (option_and_then (high_tag class constructed)) lack.none;
    more = 127 ∷ [];
    whole = record { tag = record { class = class; value = lack.number * 128 + 127 }; constructed = constructed; rest = [] };
    completed = ap (option_and_then (high_tag class constructed)) (lack.completed 127 (omega arith))
        ∙ high_there (record { number = lack.number * 128 + 127; rest = [] }) (omega arith) (omega (arith, lack.below));
  }

  high_small : (f : Front) (i : Identified) → high_tag class constructed f ≡ Some i → f.number < 2 ^ 32
  high_small f i is = by (nat_le 31 f.number) (nat_lt f.number (2 ^ 32)) refl is
    where
      by : (a b : Bool) → nat_lt f.number (2 ^ 32) ≡ b → (if a && b then Some (identified f) else None) ≡ Some i → f.number < 2 ^ 32
      by true true less is = ltb-true f.number (2 ^ 32) less
      by true false less is = cc
      by false b less is = cc

  pub has_number : (octets : List ℕ) (i : Identified) → high_tag_at class constructed octets ≡ Some i → HasNumber octets
  has_number octets i is = by (base128_at octets) refl is
    where
      by : (o : Option Front) → base128_at octets ≡ o → option_and_then (high_tag class constructed) o ≡ Some i → HasNumber octets
      by None at is = cc
      by (Some f) at is = record { front = f; at = at; small = high_small f i is }

  -- a whole number that is none of a tag
  pub whole_number : (octets : List ℕ) (f : Front) → base128_at octets ≡ Some f → EndEarly (high_tag_at class constructed) octets → ⊥
  whole_number octets f at early = by (identified f) (identified (number_leaving f (f.rest ++ early.more))) early.whole (nat_le 31 f.number && nat_lt f.number (2 ^ 32)) none high
    where
      none : high_tag class constructed f ≡ None
      none = sym (ap (option_and_then (high_tag class constructed)) at) ∙ early.none

      high : high_tag class constructed (number_leaving f (f.rest ++ early.more)) ≡ Some early.whole
      high = sym (ap (option_and_then (high_tag class constructed)) (read_before number_leaves base128_at octets f (base128_read octets f at) early.more)) ∙ early.completed

      by : (i j whole : Identified) (b : Bool) → (if b then Some i else None) ≡ None → (if b then Some j else None) ≡ Some whole → ⊥
      by i j whole true none high = cc
      by i j whole false none high = cc

-- there is no octet
pub cut_empty : (bytes : List ℕ) → length bytes < 1 → EndEarly identifier_at bytes
cut_empty [] none = record { none = refl; more = 0 ∷ []; whole = record { tag = record { class = Universal; value = 0 }; constructed = false; rest = [] }; completed = refl }
cut_empty (b ∷ bytes) none = absurd (omega (arith, none))

-- the first octet is none of a class
pub no_class : (bytes : List ℕ) → 1 ≤ length bytes → class_at (slice_index_or bytes 0 0 / 64) ≡ None → EndEarly identifier_at bytes → ⊥
no_class [] some none early = omega (arith, some)
no_class (o ∷ rest) some none early =
    let wrong : None ≡ Some early.whole = sym (ap (option_and_then (of_class (o / 32 % 2 == 1) (o % 32) (rest ++ early.more))) none) ∙ early.completed in cc

-- the number of the tag is in the octets after the first
high_identifier : (class : Class) (o : ℕ) (rest : List ℕ) → class_at (o / 64) ≡ Some class → 31 ≤ o % 32 → identifier_at (o ∷ rest) ≡ high_tag_at class (o / 32 % 2 == 1) rest
high_identifier class o rest at high =
    ap (option_and_then (of_class (o / 32 % 2 == 1) (o % 32) rest)) at
    ∙ ap (λ b. if b then Some (record { tag = record { class = class; value = o % 32 }; constructed = (o / 32 % 2 == 1); rest = rest }) else high_tag_at class (o / 32 % 2 == 1) rest) (le-ltb (o % 32) 31 high)

pub high_early : (bytes : List ℕ) (class : Class) (constructed : Bool) → 1 ≤ length bytes → class_at (slice_index_or bytes 0 0 / 64) ≡ Some class → 31 ≤ slice_index_or bytes 0 0 % 32 →
    constructed ≡ (slice_index_or bytes 0 0 / 32 % 2 == 1) → EndEarly (high_tag_at class constructed) (take (length bytes - 1) (drop 1 bytes)) ↔ EndEarly identifier_at bytes
high_early [] class constructed some at high same = absurd (omega (arith, some))
high_early (o ∷ rest) class constructed some at high same =
    subst (λ l. EndEarly (high_tag_at class constructed) l ↔ EndEarly identifier_at (o ∷ rest)) (sym (take_all (length (o ∷ rest) - 1) rest (omega arith)))
    (subst (λ b. EndEarly (high_tag_at class b) rest ↔ EndEarly identifier_at (o ∷ rest)) (sym same) (early_behind identifier_at (high_tag_at class (o / 32 % 2 == 1)) o rest is))
  where
    is : (l : List ℕ) → identifier_at (o ∷ l) ≡ high_tag_at class (o / 32 % 2 == 1) l
    is l = high_identifier class o l at high
