-- The element with which bytes begin is read of their front, whatever follows.
use Rattle.std.proofs.Common.{◌≡◌, ℕ, ◌+◌, ◌-◌, ◌*◌, ◌≤◌, ◌^◌, Bool, true, false, List, [], ◌∷◌, ◌++◌, Option, None, Some, length, length-append, take, drop, refl, ap, sym, ◌∙◌, arith}
use Rattle.std.proofs.Math.Seq.{drop-append_seam, take-append_seam}
use Rattle.std.proofs.lemmas.Bool.{le-leb, leb-true}
use Rattle.std.proofs.lemmas.List.{length-take-le, take-append-drop}
use Rattle.std.specs.Prelude.{◌/◌, ◌%◌, ◌==◌, ◌&&◌, nat_eq, nat_le, nat_lt, if◌then◌else◌}
use Rattle.std.specs.Option.{option_and_then}
use Rattle.asn1_values.specs.Numbers.{magnitude}
use Rattle.asn1_tags.specs.declared.classes.Class.{Class}
use Rattle.asn1_items.proofs.Fronts.{IsReadOf, Leaves, after_byte, one_and_then}
use Rattle.asn1_items.specs.Headers.{class_at}
use Rattle.asn1_der_items.specs.Base128.{Front, base128_after, base128_at}
use Rattle.asn1_der_items.specs.Elements.{Element, element_at, of_identifier, of_length}
use Rattle.asn1_der_items.specs.Identifiers.{Identified, high_tag, identifier_at, of_class}
use Rattle.asn1_der_items.specs.Lengths.{begins_with_digit, length_at, long_length_at}

some_is : {A : Type 0} {x y : A} → Some x ≡ Some y → x ≡ y
some_is e = cc

-- what was read, with other bytes left
abbrev pub number_leaving : Front → List ℕ → Front
number_leaving f back = record { number = f.number; rest = back }

abbrev pub identifier_leaving : Identified → List ℕ → Identified
identifier_leaving i back = record { tag = i.tag; constructed = i.constructed; rest = back }

abbrev pub element_leaving : Element → List ℕ → Element
element_leaving e back = record { tag = e.tag; constructed = e.constructed; contents = e.contents; rest = back }

abbrev pub number_leaves : Leaves Front
number_leaves = record { left = λ f. f.rest; leaving = λ f back. number_leaving f back }

abbrev pub identifier_leaves : Leaves Identified
identifier_leaves = record { left = λ i. i.rest; leaving = λ i back. identifier_leaving i back }

abbrev pub element_leaves : Leaves Element
element_leaves = record { left = λ e. e.rest; leaving = λ e back. element_leaving e back }

-- numbers to the base 128
after_octet : (n o : ℕ) (rest : List ℕ) (f : Front) → (base128_after (n * 128 + (o - 128)) rest ≡ Some f → IsReadOf number_leaves (base128_after (n * 128 + (o - 128))) rest f) →
    base128_after n (o ∷ rest) ≡ Some f → IsReadOf number_leaves (λ l. base128_after n (o ∷ l)) rest f
after_octet n o rest f later e = by (nat_lt o 128) e
  where
    by : (b : Bool) → (if b then Some (record { number = n * 128 + o; rest = rest }) else base128_after (n * 128 + (o - 128)) rest) ≡ Some f →
        IsReadOf number_leaves (λ l. if b then Some (record { number = n * 128 + o; rest = l }) else base128_after (n * 128 + (o - 128)) l) rest f
    by true e = record { front = []; are = ap (λ (g : Front). g.rest) (some_is e); whatever = λ back. ap (λ g. Some (number_leaving g back)) (some_is e) }
    by false e = later e

base128_after_read : (n : ℕ) (bytes : List ℕ) (f : Front) → base128_after n bytes ≡ Some f → IsReadOf number_leaves (base128_after n) bytes f
base128_after_read n [] f e = cc
base128_after_read n (o ∷ rest) f e = after_byte number_leaves (base128_after n) o rest f (after_octet n o rest f (base128_after_read (n * 128 + (o - 128)) rest f) e)

pub base128_read : (bytes : List ℕ) (f : Front) → base128_at bytes ≡ Some f → IsReadOf number_leaves base128_at bytes f
base128_read [] f e = cc
base128_read (o ∷ rest) f e = after_byte number_leaves base128_at o rest f (by (nat_eq o 128) e)
  where
    by : (b : Bool) → (if b then None else base128_after 0 (o ∷ rest)) ≡ Some f → IsReadOf number_leaves (λ l. if b then None else base128_after 0 (o ∷ l)) rest f
    by true e = cc
    by false e = after_octet 0 o rest f (base128_after_read (0 * 128 + (o - 128)) rest f) e

-- identifiers
high_tag_read : (class : Class) (constructed : Bool) (f : Front) (i : Identified) → high_tag class constructed f ≡ Some i → IsReadOf identifier_leaves (λ l. high_tag class constructed (number_leaving f l)) f.rest i
high_tag_read class constructed f i e = by (nat_le 31 f.number && nat_lt f.number (2 ^ 32)) e
  where
    by : (b : Bool) → (if b then Some (record { tag = record { class = class; value = f.number }; constructed = constructed; rest = f.rest }) else None) ≡ Some i →
        IsReadOf identifier_leaves (λ l. if b then Some (record { tag = record { class = class; value = f.number }; constructed = constructed; rest = l }) else None) f.rest i
    by true e = record { front = []; are = ap (λ (j : Identified). j.rest) (some_is e); whatever = λ back. ap (λ j. Some (identifier_leaving j back)) (some_is e) }
    by false e = cc

class_read : (constructed : Bool) (low : ℕ) (bytes : List ℕ) (class : Class) (i : Identified) → of_class constructed low bytes class ≡ Some i →
    IsReadOf identifier_leaves (λ l. of_class constructed low l class) bytes i
class_read constructed low bytes class i e = by (nat_lt low 31) e
  where
    by_number : (o : Option Front) → base128_at bytes ≡ o → option_and_then (high_tag class constructed) o ≡ Some i → IsReadOf identifier_leaves (λ l. option_and_then (high_tag class constructed) (base128_at l)) bytes i
    by_number None is e = cc
    by_number (Some f) is e = one_and_then number_leaves identifier_leaves base128_at (high_tag class constructed) bytes f i (base128_read bytes f is) (high_tag_read class constructed f i e)

    by : (b : Bool) → (if b then Some (record { tag = record { class = class; value = low }; constructed = constructed; rest = bytes }) else option_and_then (high_tag class constructed) (base128_at bytes)) ≡ Some i →
        IsReadOf identifier_leaves (λ l. if b then Some (record { tag = record { class = class; value = low }; constructed = constructed; rest = l }) else option_and_then (high_tag class constructed) (base128_at l)) bytes i
    by true e = record { front = []; are = ap (λ (j : Identified). j.rest) (some_is e); whatever = λ back. ap (λ j. Some (identifier_leaving j back)) (some_is e) }
    by false e = by_number (base128_at bytes) refl e

pub identifier_read : (bytes : List ℕ) (i : Identified) → identifier_at bytes ≡ Some i → IsReadOf identifier_leaves identifier_at bytes i
identifier_read [] i e = cc
identifier_read (o ∷ rest) i e = after_byte identifier_leaves identifier_at o rest i (by (class_at (o / 64)) e)
  where
    by : (c : Option Class) → option_and_then (of_class (o / 32 % 2 == 1) (o % 32) rest) c ≡ Some i →
        IsReadOf identifier_leaves (λ l. option_and_then (of_class (o / 32 % 2 == 1) (o % 32) l) c) rest i
    by None e = cc
    by (Some class) e = class_read (o / 32 % 2 == 1) (o % 32) rest class i e

-- lengths: the length in these digits, if there are enough
abbrev from_digits : Bool → List ℕ → List ℕ → Option Front
from_digits enough digits rest = if enough && begins_with_digit digits && nat_le 128 (magnitude digits) && nat_lt (magnitude digits) (2 ^ 64)
    then Some (record { number = magnitude digits; rest = rest })
    else None

record IsFromDigits (enough : Bool) (digits rest : List ℕ) (f : Front) : Type 0 where
  pub is_enough : enough ≡ true
  pub left : f.rest ≡ rest
  pub whatever : (back : List ℕ) → from_digits true digits back ≡ Some (number_leaving f back)

is_from_digits : (enough : Bool) (digits rest : List ℕ) (f : Front) → from_digits enough digits rest ≡ Some f → IsFromDigits enough digits rest f
is_from_digits false digits rest f e = cc
is_from_digits true digits rest f e = by (true && begins_with_digit digits && nat_le 128 (magnitude digits) && nat_lt (magnitude digits) (2 ^ 64)) refl e
  where
    by : (b : Bool) → (true && begins_with_digit digits && nat_le 128 (magnitude digits) && nat_lt (magnitude digits) (2 ^ 64)) ≡ b → (if b then Some (record { number = magnitude digits; rest = rest }) else None) ≡ Some f → IsFromDigits true digits rest f
    by true is e = record {
      is_enough = refl;
      left = sym (ap (λ (g : Front). g.rest) (some_is e));
      whatever = λ back. ap (λ b. if b then Some (record { number = magnitude digits; rest = back }) else None) is ∙ ap (λ g. Some (number_leaving g back)) (some_is e);
    }
    by false is e = cc

-- the bytes are there, with others after them
enough_there : (count : ℕ) (bytes back : List ℕ) → count ≤ length bytes → nat_le count (length (take count bytes ++ back)) ≡ true
enough_there count bytes back enough = le-leb count (length (take count bytes ++ back)) (omega (arith, length-append (take count bytes) back, length-take-le count bytes enough))

first_there : (count : ℕ) (bytes back : List ℕ) → count ≤ length bytes → take count (take count bytes ++ back) ≡ take count bytes
first_there count bytes back enough = ap (λ k. take k (take count bytes ++ back)) (sym (length-take-le count bytes enough)) ∙ take-append_seam (take count bytes) back

behind_there : (count : ℕ) (bytes back : List ℕ) → count ≤ length bytes → drop count (take count bytes ++ back) ≡ back
behind_there count bytes back enough = ap (λ k. drop k (take count bytes ++ back)) (sym (length-take-le count bytes enough)) ∙ drop-append_seam (take count bytes) back

long_length_read : (count : ℕ) (bytes : List ℕ) (f : Front) → long_length_at count bytes ≡ Some f → IsReadOf number_leaves (long_length_at count) bytes f
long_length_read count bytes f e =
    let t = is_from_digits (nat_le count (length bytes)) (take count bytes) (drop count bytes) f e in
    let enough : count ≤ length bytes = leb-true count (length bytes) t.is_enough in
    record {
      front = take count bytes;
      are = sym (take-append-drop count bytes) ∙ ap (λ l. take count bytes ++ l) (sym t.left);
      whatever = λ back.
          ap (λ b. from_digits b (take count (take count bytes ++ back)) (drop count (take count bytes ++ back))) (enough_there count bytes back enough)
          ∙ ap (λ l. from_digits true l (drop count (take count bytes ++ back))) (first_there count bytes back enough)
          ∙ ap (λ l. from_digits true (take count bytes) l) (behind_there count bytes back enough)
          ∙ t.whatever back;
    }

pub length_read : (bytes : List ℕ) (f : Front) → length_at bytes ≡ Some f → IsReadOf number_leaves length_at bytes f
length_read [] f e = cc
length_read (o ∷ rest) f e = after_byte number_leaves length_at o rest f (by (nat_lt o 128) e)
  where
    by : (b : Bool) → (if b then Some (record { number = o; rest = rest }) else long_length_at (o - 128) rest) ≡ Some f →
        IsReadOf number_leaves (λ l. if b then Some (record { number = o; rest = l }) else long_length_at (o - 128) l) rest f
    by true e = record { front = []; are = ap (λ (g : Front). g.rest) (some_is e); whatever = λ back. ap (λ g. Some (number_leaving g back)) (some_is e) }
    by false e = long_length_read (o - 128) rest f e

-- the contents, where there are enough bytes
abbrev holding : Bool → Identified → List ℕ → List ℕ → Option Element
holding enough i contents rest = if enough then Some (record { tag = i.tag; constructed = i.constructed; contents = contents; rest = rest }) else None

record IsHolding (enough : Bool) (i : Identified) (contents rest : List ℕ) (e : Element) : Type 0 where
  pub is_enough : enough ≡ true
  pub left : e.rest ≡ rest
  pub whatever : (back : List ℕ) → holding true i contents back ≡ Some (element_leaving e back)

is_holding : (enough : Bool) (i : Identified) (contents rest : List ℕ) (e : Element) → holding enough i contents rest ≡ Some e → IsHolding enough i contents rest e
is_holding false i contents rest e is = cc
is_holding true i contents rest e is = record {
  is_enough = refl;
  left = sym (ap (λ (g : Element). g.rest) (some_is is));
  whatever = λ back. ap (λ g. Some (element_leaving g back)) (some_is is);
}

contents_read : (i : Identified) (f : Front) (e : Element) → of_length i f ≡ Some e → IsReadOf element_leaves (λ l. of_length i (number_leaving f l)) f.rest e
contents_read i f e is =
    let h = is_holding (nat_le f.number (length f.rest)) i (take f.number f.rest) (drop f.number f.rest) e is in
    let enough : f.number ≤ length f.rest = leb-true f.number (length f.rest) h.is_enough in
    record {
      front = take f.number f.rest;
      are = sym (take-append-drop f.number f.rest) ∙ ap (λ l. take f.number f.rest ++ l) (sym h.left);
      whatever = λ back.
          ap (λ b. holding b i (take f.number (take f.number f.rest ++ back)) (drop f.number (take f.number f.rest ++ back))) (enough_there f.number f.rest back enough)
          ∙ ap (λ l. holding true i l (drop f.number (take f.number f.rest ++ back))) (first_there f.number f.rest back enough)
          ∙ ap (λ l. holding true i (take f.number f.rest) l) (behind_there f.number f.rest back enough)
          ∙ h.whatever back;
    }

measured_read : (i : Identified) (e : Element) → of_identifier i ≡ Some e → IsReadOf element_leaves (λ l. of_identifier (identifier_leaving i l)) i.rest e
measured_read i e is = by (length_at i.rest) refl is
  where
    by : (o : Option Front) → length_at i.rest ≡ o → option_and_then (of_length i) o ≡ Some e → IsReadOf element_leaves (λ l. of_identifier (identifier_leaving i l)) i.rest e
    by None found is = cc
    by (Some f) found is = one_and_then number_leaves element_leaves length_at (of_length i) i.rest f e (length_read i.rest f found) (contents_read i f e is)

-- the element
pub element_read : (bytes : List ℕ) (e : Element) → element_at bytes ≡ Some e → IsReadOf element_leaves element_at bytes e
element_read bytes e is = by (identifier_at bytes) refl is
  where
    by : (o : Option Identified) → identifier_at bytes ≡ o → option_and_then of_identifier o ≡ Some e → IsReadOf element_leaves element_at bytes e
    by None found is = cc
    by (Some i) found is = one_and_then identifier_leaves element_leaves identifier_at of_identifier bytes i e (identifier_read bytes i found) (measured_read i e is)
