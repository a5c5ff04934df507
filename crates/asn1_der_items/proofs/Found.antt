-- The octets of an identifier, a length and an element are found in front of whatever follows.
use Rattle.std.proofs.Common.{◌≡◌, ℕ, ◌+◌, ◌-◌, ◌*◌, ◌/◌, ◌%◌, ◌≤◌, ◌<◌, ◌^◌, Bool, true, false, List, [], ◌∷◌, ◌++◌, None, Some, append_assoc, length, length-append, take, drop, refl, ap, ◌∙◌, arith, inl, inr}
use Rattle.std.proofs.Math.Seq.{take-append_seam, drop-append_seam}
use Rattle.std.proofs.lemmas.Bool.{lt-ltb, le-ltb, le-leb, ltb-false}
use borrow.Author.Tests.{eq-eqb}
use Rattle.std.specs.Prelude.{◌==◌, ◌&&◌, nat_le, nat_lt, if◌then◌else◌}
use Rattle.std.specs.Option.{option_and_then}
use Rattle.asn1_values.specs.Numbers.{IsShortest, magnitude}
use Rattle.asn1_tags.specs.Tags.{class_number}
use Rattle.asn1_tags.specs.declared.classes.Class.{Class}
use Rattle.asn1_tags.specs.declared.tags.Tag.{Tag}
use Rattle.asn1_items.proofs.Items.{class_at-number}
use Rattle.asn1_items.specs.Headers.{class_at}
use Rattle.asn1_der_items.specs.Base128.{base128_at}
use Rattle.asn1_der_items.specs.Elements.{IsElement, element_at, of_identifier, of_length}
use Rattle.asn1_der_items.specs.Identifiers.{IsIdentifier, first_octet, high_tag, identifier_at, of_class}
use Rattle.asn1_der_items.specs.Lengths.{IsLength, begins_with_digit, length_at, long_length_at}
use Rattle.asn1_der_items.proofs.Septets.{base128-found}

-- lengths
digit_first : (digits : List ℕ) → 128 ≤ magnitude digits → IsShortest digits → begins_with_digit digits ≡ true
digit_first [] high shortest = absurd (omega arith)
digit_first (d ∷ digits) high shortest = by (nat_lt 0 d) refl
  where
    by : (b : Bool) → nat_lt 0 d ≡ b → nat_lt 0 d ≡ true
    by true e = e
    by false e = absurd (shortest (ap Some (let z : d ≡ 0 = omega (arith, ltb-false 0 d e) in z)))

all_hold : (a b c d : Bool) → a ≡ true → b ≡ true → c ≡ true → d ≡ true → (a && b && c && d) ≡ true
all_hold a b c d p q r s = rw (p, q, r, s)

long-found : (digits back : List ℕ) → 128 ≤ magnitude digits → magnitude digits < 2 ^ 64 → IsShortest digits → long_length_at (length digits) (digits ++ back) ≡ Some (record { number = magnitude digits; rest = back })
long-found digits back high fits shortest =
    let taken = take-append_seam digits back in
    let enough : length digits ≤ length (digits ++ back) = omega (arith, length-append digits back) in
    let test = all_hold _ _ _ _ (le-leb (length digits) (length (digits ++ back)) enough) (digit_first digits high shortest) (le-leb 128 (magnitude digits) high) (lt-ltb (magnitude digits) (2 ^ 64) fits) in
    ap (λ l. if nat_le (length digits) (length (digits ++ back)) && begins_with_digit l && nat_le 128 (magnitude l) && nat_lt (magnitude l) (2 ^ 64)
    then Some (record { number = magnitude l; rest = drop (length digits) (digits ++ back) })
    else None) taken
    ∙ ap (λ b. if b then Some (record { number = magnitude digits; rest = drop (length digits) (digits ++ back) }) else None) test
    ∙ ap (λ l. Some (record { number = magnitude digits; rest = l })) (drop-append_seam digits back)

pub length-found : (n : ℕ) (octets back : List ℕ) → IsLength n octets → length_at (octets ++ back) ≡ Some (record { number = n; rest = back })
length-found n octets back (inl is) =
    ap (λ l. length_at (l ++ back)) is.are ∙ ap (λ b. if b then Some (record { number = n; rest = back }) else long_length_at (n - 128) back) (lt-ltb n 128 is.below)
length-found n octets back (inr is) =
    ap (λ l. length_at (l ++ back)) is.are
    ∙ ap (λ b. if b then Some (record { number = length is.digits + 128; rest = is.digits ++ back }) else long_length_at (length is.digits + 128 - 128) (is.digits ++ back)) (le-ltb (length is.digits + 128) 128 (omega arith))
    ∙ ap (λ k. long_length_at k (is.digits ++ back)) (omega arith)
    ∙ long-found is.digits back (omega (arith, is.value, is.not_short)) (omega (arith, is.value, is.fits)) is.shortest.shortest
    ∙ ap (λ k. Some (record { number = k; rest = back })) is.value

-- identifiers
class_found : (class : Class) (k : ℕ) → k ≡ class_number class → class_at k ≡ Some class
class_found class k e = ap class_at e ∙ class_at-number class

-- The first octet has three parts.
pub record HasParts (class : Class) (constructed : Bool) (low o : ℕ) : Type 0 where
  pub class_is : class_at (o / 64) ≡ Some class
  pub form_is : (o / 32 % 2 == 1) ≡ constructed
  pub low_is : o % 32 ≡ low

parts : (class : Class) (constructed : Bool) (low : ℕ) → low < 32 → HasParts class constructed low (first_octet class constructed low)
parts class true low small = record {
  class_is = class_found class _ (omega arith);
  form_is = eq-eqb _ 1 (omega arith);
  low_is = omega arith;
}
parts class false low small = record {
  class_is = class_found class _ (omega arith);
  form_is = ap (λ k. k == 1) (let zero : (class_number class * 64 + 0 + low) / 32 % 2 ≡ 0 = omega arith in zero);
  low_is = omega arith;
}

with_parts : (class : Class) (constructed : Bool) (low o : ℕ) (rest : List ℕ) → HasParts class constructed low o → identifier_at (o ∷ rest) ≡ of_class constructed low rest class
with_parts class constructed low o rest p =
    ap (λ b. option_and_then (of_class b (o % 32) rest) (class_at (o / 64))) p.form_is
    ∙ ap (λ k. option_and_then (of_class constructed k rest) (class_at (o / 64))) p.low_is
    ∙ ap (option_and_then (of_class constructed low rest)) p.class_is

pub identifier-found : (t : Tag) (constructed : Bool) (octets back : List ℕ) → IsIdentifier t constructed octets → identifier_at (octets ++ back) ≡ Some (record { tag = t; constructed = constructed; rest = back })
identifier-found t constructed octets back (inl is) =
    ap (λ l. identifier_at (l ++ back)) is.are
    ∙ with_parts t.class constructed t.value _ back (parts t.class constructed t.value (omega (arith, is.below)))
    ∙ ap (λ b. if b then Some (record { tag = t; constructed = constructed; rest = back }) else option_and_then (high_tag t.class constructed) (base128_at back)) (lt-ltb t.value 31 is.below)
identifier-found t constructed octets back (inr is) =
    ap (λ l. identifier_at (l ++ back)) is.are
    ∙ with_parts t.class constructed 31 _ (is.number ++ back) (parts t.class constructed 31 (omega arith))
    ∙ ap (option_and_then (high_tag t.class constructed)) (base128-found t.value is.number back is.value)
    ∙ ap (λ b. if b && nat_lt t.value (2 ^ 32) then Some (record { tag = t; constructed = constructed; rest = back }) else None) (le-leb 31 t.value is.not_low)
    ∙ ap (λ b. if b then Some (record { tag = t; constructed = constructed; rest = back }) else None) (lt-ltb t.value (2 ^ 32) is.fits)

-- elements
pub element-found : (t : Tag) (constructed : Bool) (contents own back : List ℕ) → IsElement t constructed contents own →
    element_at (own ++ back) ≡ Some (record { tag = t; constructed = constructed; contents = contents; rest = back })
element-found t constructed contents own back is =
    let whole : own ++ back ≡ is.identifier ++ (is.size ++ (contents ++ back)) =
    ap (λ l. l ++ back) is.are ∙ append_assoc is.identifier (is.size ++ contents) back ∙ ap (λ l. is.identifier ++ l) (append_assoc is.size contents back) in
    let enough : length contents ≤ length (contents ++ back) = omega (arith, length-append contents back) in
    ap element_at whole
    ∙ ap (option_and_then of_identifier) (identifier-found t constructed is.identifier _ is.is_identifier)
    ∙ ap (option_and_then (of_length (record { tag = t; constructed = constructed; rest = is.size ++ (contents ++ back) }))) (length-found (length contents) is.size (contents ++ back) is.is_size)
    ∙ ap (λ b. if b
    then Some (record { tag = t; constructed = constructed; contents = take (length contents) (contents ++ back); rest = drop (length contents) (contents ++ back) })
    else None) (le-leb (length contents) (length (contents ++ back)) enough)
    ∙ ap (λ l. Some (record { tag = t; constructed = constructed; contents = l; rest = drop (length contents) (contents ++ back) })) (take-append_seam contents back)
    ∙ ap (λ l. Some (record { tag = t; constructed = constructed; contents = contents; rest = l })) (drop-append_seam contents back)
