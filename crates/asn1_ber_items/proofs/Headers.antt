-- The header with which bytes begin takes some of them, and is that of their front.
use Rattle.std.proofs.Common.{◌≡◌, ℕ, zero, suc, ◌+◌, ◌-◌, ◌<◌, ◌≤◌, ◌^◌, Bool, true, false, List, [], ◌∷◌, ◌++◌, Option, None, Some, append_assoc, length, length-append, take, drop, refl, ap, sym, ◌∙◌, arith, inl, inr}
use Rattle.std.proofs.Math.Seq.{drop-append_seam, take-append_seam}
use Rattle.std.proofs.lemmas.Bool.{le-leb, le-ltb, leb-true, lt-ltb, ne_eqb}
use Rattle.std.proofs.lemmas.Int.Digits.{length-digits_of-le}
use Rattle.std.proofs.lemmas.List.{drop-append-le, length-take-le, take-append-drop, take-append-le}
use Rattle.std.specs.Int.Digits.{digits_of}
use Rattle.std.specs.Prelude.{◌&&◌, nat_eq, nat_le, nat_lt, if◌then◌else◌}
use Rattle.std.specs.Option.{option_and_then, option_map}
use Rattle.asn1_tags.specs.declared.tags.Tag.{Tag}
use Rattle.asn1_values.proofs.Digits.{digits_of-magnitude}
use Rattle.asn1_values.specs.Numbers.{magnitude}
use Rattle.asn1_der_items.proofs.Found.{identifier-found}
use Rattle.asn1_items.proofs.Fronts.{IsReadOf, Leaves, after_byte, one_and_then}
use Rattle.asn1_der_items.proofs.ElementFronts.{identifier_leaves, identifier_read}
use Rattle.asn1_der_items.proofs.TrailingBytes.{identifier_at-append, identifier_at-shorter}
use Rattle.asn1_der_items.specs.Elements.{IsElement}
use Rattle.asn1_der_items.specs.Identifiers.{Identified, IsIdentifier, identifier_at}
use Rattle.asn1_der_items.specs.Lengths.{IsLength, IsLongForm}
use Rattle.asn1_ber_items.specs.Headers.{Header, Measured, header_at, later_size_at, long_size_at, of_identifier, size_at, with_size}
use Rattle.asn1_ber_items.specs.Spellings.{IsDefinite}

some_is : {A : Type 0} {x y : A} → Some x ≡ Some y → x ≡ y
some_is e = cc

drop_no_longer : (n : ℕ) (bytes : List ℕ) → length (drop n bytes) ≤ length bytes
drop_no_longer zero bytes = omega arith
drop_no_longer (suc n) [] = omega arith
drop_no_longer (suc n) (b ∷ bytes) = omega (arith, drop_no_longer n bytes)

long_size_no_longer : (count : ℕ) (bytes : List ℕ) (m : Measured) → long_size_at count bytes ≡ Some m → length m.rest ≤ length bytes
long_size_no_longer count bytes m is = by (nat_le count (length bytes) && nat_lt (magnitude (take count bytes)) (2 ^ 64)) is
  where
    by : (b : Bool) → (if b then Some (record { size = Some (magnitude (take count bytes)); rest = drop count bytes }) else None) ≡ Some m → length m.rest ≤ length bytes
    by true is = omega (arith, ap (λ (o : Measured). length o.rest) (some_is is), drop_no_longer count bytes)
    by false is = cc

later_size_no_longer : (count : ℕ) (bytes : List ℕ) (m : Measured) → later_size_at count bytes ≡ Some m → length m.rest ≤ length bytes
later_size_no_longer count bytes m is = by (nat_eq count 0) (nat_eq count 127) is
  where
    by : (a b : Bool) → (if a then Some (record { size = None; rest = bytes }) else (if b then None else long_size_at count bytes)) ≡ Some m → length m.rest ≤ length bytes
    by true b is = omega (arith, ap (λ (o : Measured). length o.rest) (some_is is))
    by false true is = cc
    by false false is = long_size_no_longer count bytes m is

size_shorter : (bytes : List ℕ) (m : Measured) → size_at bytes ≡ Some m → length m.rest < length bytes
size_shorter [] m is = cc
size_shorter (o ∷ rest) m is = by (nat_lt o 128) is
  where
    by : (b : Bool) → (if b then Some (record { size = Some o; rest = rest }) else later_size_at (o - 128) rest) ≡ Some m → length m.rest < length (o ∷ rest)
    by true is = omega (arith, ap (λ (n : Measured). length n.rest) (some_is is))
    by false is = omega (arith, later_size_no_longer (o - 128) rest m is)

pub header_shorter : (bytes : List ℕ) (h : Header) → header_at bytes ≡ Some h → length h.rest < length bytes
header_shorter bytes h is = by (identifier_at bytes) refl is
  where
    by_size : (i : Identified) (o : Option Measured) → size_at i.rest ≡ o → option_map (with_size i) o ≡ Some h → length h.rest < length i.rest
    by_size i None found is = cc
    by_size i (Some m) found is = omega (arith, ap (λ (g : Header). length g.rest) (some_is is), size_shorter i.rest m found)

    by : (o : Option Identified) → identifier_at bytes ≡ o → option_and_then of_identifier o ≡ Some h → length h.rest < length bytes
    by None found is = cc
    by (Some i) found is = omega (arith, identifier_at-shorter bytes i found, by_size i (size_at i.rest) refl is)

-- no header is in no bytes
pub some_bytes : (left : List ℕ) (h : Header) → header_at left ≡ Some h → left ≡ [] → ⊥
some_bytes left h at none = let e : None ≡ Some h = sym (ap header_at none) ∙ at in cc

-- the bytes after a header, cut after as many as its length says
pub cut_there : (h : Header) (size : ℕ) (contents back : List ℕ) → h.size ≡ Some size → size ≤ length h.rest → contents ≡ take size h.rest → back ≡ drop size h.rest → IsDefinite h contents back
cut_there h size contents back is enough first later = record {
  size = is ∙ ap Some (sym (ap length first ∙ length-take-le size h.rest enough));
  are = sym (take-append-drop size h.rest) ∙ ap (λ l. l ++ drop size h.rest) (sym first) ∙ ap (λ l. contents ++ l) (sym later);
}

pub cut_fits : (h : Header) (size : ℕ) (contents back : List ℕ) → h.size ≡ Some size → IsDefinite h contents back → size ≤ length h.rest
cut_fits h size contents back is d =
    let long : length contents ≡ size = some_is (sym d.size ∙ is) in omega (arith, long, ap length d.are, length-append contents back)

pub cut_shorter : (left : List ℕ) (h : Header) (contents back : List ℕ) → header_at left ≡ Some h → IsDefinite h contents back → length contents + length back < length left
cut_shorter left h contents back at is = omega (arith, header_shorter left h at, ap length is.are, length-append contents back)

-- trailing bytes: what was read, with these bytes after what is left
abbrev pub measured_before : Measured → List ℕ → Measured
measured_before m behind = record { size = m.size; rest = m.rest ++ behind }

abbrev pub header_before : Header → List ℕ → Header
header_before h behind = record { tag = h.tag; constructed = h.constructed; size = h.size; rest = h.rest ++ behind }

-- the length in these digits, if there are enough
abbrev long_size : Bool → List ℕ → List ℕ → Option Measured
long_size enough digits rest = if enough && nat_lt (magnitude digits) (2 ^ 64) then Some (record { size = Some (magnitude digits); rest = rest }) else None

long_size_at-append : (count : ℕ) (bytes behind : List ℕ) (m : Measured) → long_size_at count bytes ≡ Some m → long_size_at count (bytes ++ behind) ≡ Some (measured_before m behind)
long_size_at-append count bytes behind m is = by (nat_le count (length bytes)) refl is
  where
    fits : (b : Bool) → (if true && b then Some (record { size = Some (magnitude (take count bytes)); rest = drop count bytes }) else None) ≡ Some m →
        (if true && b then Some (record { size = Some (magnitude (take count bytes)); rest = drop count bytes ++ behind }) else None) ≡ Some (measured_before m behind)
    fits true is = ap (λ (n : Measured). Some (measured_before n behind)) (some_is is)
    fits false is = cc

    by : (a : Bool) → nat_le count (length bytes) ≡ a → long_size a (take count bytes) (drop count bytes) ≡ Some m → long_size_at count (bytes ++ behind) ≡ Some (measured_before m behind)
    by false few is = cc
    by true few is =
        let enough : count ≤ length bytes = leb-true count (length bytes) few in
        ap (λ a. long_size a (take count (bytes ++ behind)) (drop count (bytes ++ behind))) (le-leb count (length (bytes ++ behind)) (omega (arith, enough, length-append bytes behind)))
        ∙ ap (λ l. long_size true l (drop count (bytes ++ behind))) (take-append-le count bytes behind enough)
        ∙ ap (λ l. long_size true (take count bytes) l) (drop-append-le count bytes behind enough)
        ∙ fits (nat_lt (magnitude (take count bytes)) (2 ^ 64)) is

later_size_at-append : (count : ℕ) (bytes behind : List ℕ) (m : Measured) → later_size_at count bytes ≡ Some m → later_size_at count (bytes ++ behind) ≡ Some (measured_before m behind)
later_size_at-append count bytes behind m is = by (nat_eq count 0) (nat_eq count 127) is
  where
    by : (a b : Bool) → (if a then Some (record { size = None; rest = bytes }) else (if b then None else long_size_at count bytes)) ≡ Some m →
        (if a then Some (record { size = None; rest = bytes ++ behind }) else (if b then None else long_size_at count (bytes ++ behind))) ≡ Some (measured_before m behind)
    by true b is = ap (λ (n : Measured). Some (measured_before n behind)) (some_is is)
    by false true is = cc
    by false false is = long_size_at-append count bytes behind m is

pub size_at-append : (bytes behind : List ℕ) (m : Measured) → size_at bytes ≡ Some m → size_at (bytes ++ behind) ≡ Some (measured_before m behind)
size_at-append [] behind m is = cc
size_at-append (o ∷ rest) behind m is = by (nat_lt o 128) is
  where
    by : (b : Bool) → (if b then Some (record { size = Some o; rest = rest }) else later_size_at (o - 128) rest) ≡ Some m →
        (if b then Some (record { size = Some o; rest = rest ++ behind }) else later_size_at (o - 128) (rest ++ behind)) ≡ Some (measured_before m behind)
    by true is = ap (λ (n : Measured). Some (measured_before n behind)) (some_is is)
    by false is = later_size_at-append (o - 128) rest behind m is

pub header_at-append : (bytes behind : List ℕ) (h : Header) → header_at bytes ≡ Some h → header_at (bytes ++ behind) ≡ Some (header_before h behind)
header_at-append bytes behind h is = by (identifier_at bytes) refl is
  where
    by_size : (i : Identified) (o : Option Measured) → size_at i.rest ≡ o → option_map (with_size i) o ≡ Some h → option_map (with_size i) (size_at (i.rest ++ behind)) ≡ Some (header_before h behind)
    by_size i None found is = cc
    by_size i (Some m) found is = ap (option_map (with_size i)) (size_at-append i.rest behind m found) ∙ ap (λ (g : Header). Some (header_before g behind)) (some_is is)

    by : (o : Option Identified) → identifier_at bytes ≡ o → option_and_then of_identifier o ≡ Some h → header_at (bytes ++ behind) ≡ Some (header_before h behind)
    by None found is = cc
    by (Some i) found is = ap (option_and_then of_identifier) (identifier_at-append bytes behind i found) ∙ by_size i (size_at i.rest) refl is

-- The header is read of a front of the bytes, whatever follows this.
abbrev measured_leaving : Measured → List ℕ → Measured
measured_leaving m back = record { size = m.size; rest = back }

abbrev pub header_leaving : Header → List ℕ → Header
header_leaving h back = record { tag = h.tag; constructed = h.constructed; size = h.size; rest = back }

abbrev measured_leaves : Leaves Measured
measured_leaves = record { left = λ m. m.rest; leaving = λ m back. measured_leaving m back }

abbrev pub header_leaves : Leaves Header
header_leaves = record { left = λ h. h.rest; leaving = λ h back. header_leaving h back }

long_size_read : (count : ℕ) (bytes : List ℕ) (m : Measured) → long_size_at count bytes ≡ Some m → IsReadOf measured_leaves (long_size_at count) bytes m
long_size_read count bytes m is = by (nat_le count (length bytes)) (nat_lt (magnitude (take count bytes)) (2 ^ 64)) refl refl is
  where
    by : (a b : Bool) → nat_le count (length bytes) ≡ a → nat_lt (magnitude (take count bytes)) (2 ^ 64) ≡ b →
        (if a && b then Some (record { size = Some (magnitude (take count bytes)); rest = drop count bytes }) else None) ≡ Some m → IsReadOf measured_leaves (long_size_at count) bytes m
    by false b few fits is = cc
    by true false few fits is = cc
    by true true few fits is =
        let front = take count bytes in
        let long : length front ≡ count = length-take-le count bytes (leb-true count (length bytes) few) in
        record {
          front = front;
          are = sym (take-append-drop count bytes) ∙ ap (λ (n : Measured). front ++ n.rest) (some_is is);
          whatever = λ back.
              ap (λ a. long_size a (take count (front ++ back)) (drop count (front ++ back))) (le-leb count (length (front ++ back)) (omega (arith, long, length-append front back)))
              ∙ ap (λ l. long_size true l (drop count (front ++ back))) (ap (λ k. take k (front ++ back)) (sym long) ∙ take-append_seam front back)
              ∙ ap (λ l. long_size true front l) (ap (λ k. drop k (front ++ back)) (sym long) ∙ drop-append_seam front back)
              ∙ ap (λ b. if true && b then Some (record { size = Some (magnitude front); rest = back }) else None) fits
              ∙ ap (λ (n : Measured). Some (measured_leaving n back)) (some_is is);
        }

later_size_read : (count : ℕ) (bytes : List ℕ) (m : Measured) → later_size_at count bytes ≡ Some m → IsReadOf measured_leaves (later_size_at count) bytes m
later_size_read count bytes m is = by (nat_eq count 0) (nat_eq count 127) is
  where
    by : (a b : Bool) → (if a then Some (record { size = None; rest = bytes }) else (if b then None else long_size_at count bytes)) ≡ Some m →
        IsReadOf measured_leaves (λ l. if a then Some (record { size = None; rest = l }) else (if b then None else long_size_at count l)) bytes m
    by true b is = record { front = []; are = ap (λ (n : Measured). n.rest) (some_is is); whatever = λ back. ap (λ (n : Measured). Some (measured_leaving n back)) (some_is is) }
    by false true is = cc
    by false false is = long_size_read count bytes m is

size_read : (bytes : List ℕ) (m : Measured) → size_at bytes ≡ Some m → IsReadOf measured_leaves size_at bytes m
size_read [] m is = cc
size_read (o ∷ rest) m is = after_byte measured_leaves size_at o rest m (by (nat_lt o 128) is)
  where
    by : (b : Bool) → (if b then Some (record { size = Some o; rest = rest }) else later_size_at (o - 128) rest) ≡ Some m →
        IsReadOf measured_leaves (λ l. if b then Some (record { size = Some o; rest = l }) else later_size_at (o - 128) l) rest m
    by true is = record { front = []; are = ap (λ (n : Measured). n.rest) (some_is is); whatever = λ back. ap (λ (n : Measured). Some (measured_leaving n back)) (some_is is) }
    by false is = later_size_read (o - 128) rest m is

pub header_read : (bytes : List ℕ) (h : Header) → header_at bytes ≡ Some h → IsReadOf header_leaves header_at bytes h
header_read bytes h is = by (identifier_at bytes) refl is
  where
    by_size : (i : Identified) (o : Option Measured) → size_at i.rest ≡ o → option_map (with_size i) o ≡ Some h → IsReadOf header_leaves (λ l. option_map (with_size i) (size_at l)) i.rest h
    by_size i None found is = cc
    by_size i (Some m) found is =
        let r = size_read i.rest m found in
        record {
          front = r.front;
          are = r.are ∙ ap (λ (g : Header). r.front ++ g.rest) (some_is is);
          whatever = λ back. ap (option_map (with_size i)) (r.whatever back) ∙ ap (λ (g : Header). Some (header_leaving g back)) (some_is is);
        }

    by : (o : Option Identified) → identifier_at bytes ≡ o → option_and_then of_identifier o ≡ Some h → IsReadOf header_leaves header_at bytes h
    by None found is = cc
    by (Some i) found is = one_and_then identifier_leaves header_leaves identifier_at of_identifier bytes i h (identifier_read bytes i found) (by_size i (size_at i.rest) refl is)

-- a header is found by its identifier octets and a length
pub header-found : (t : Tag) (constructed : Bool) (identifier others : List ℕ) (m : Measured) → IsIdentifier t constructed identifier → size_at others ≡ Some m →
    header_at (identifier ++ others) ≡ Some (record { tag = t; constructed = constructed; size = m.size; rest = m.rest })
header-found t constructed identifier others m is found =
    ap (option_and_then of_identifier) (identifier-found t constructed identifier others is)
    ∙ ap (option_map (with_size (record { tag = t; constructed = constructed; rest = others }))) found

-- a length of the fewest octets is a length
few_digits : (n : ℕ) (octets : List ℕ) (is : IsLongForm n octets) → length is.digits ≤ 8
few_digits n octets is =
    let same : digits_of 256 n ≡ is.digits = digits_of-magnitude is.digits n is.shortest (sym is.value) in
    omega (arith, ap length same, length-digits_of-le 256 8 n (omega arith) (omega (arith, is.fits)))

some_digits : (digits : List ℕ) → 128 ≤ magnitude digits → length digits ≡ 0 → ⊥
some_digits [] high none = omega arith
some_digits (d ∷ digits) high none = omega arith

long_size-found : (n : ℕ) (octets back : List ℕ) (is : IsLongForm n octets) → long_size_at (length is.digits) (is.digits ++ back) ≡ Some (record { size = Some n; rest = back })
long_size-found n octets back is =
    ap (λ a. long_size a (take (length is.digits) (is.digits ++ back)) (drop (length is.digits) (is.digits ++ back))) (le-leb (length is.digits) (length (is.digits ++ back)) (omega (arith, length-append is.digits back)))
    ∙ ap (λ l. long_size true l (drop (length is.digits) (is.digits ++ back))) (take-append_seam is.digits back)
    ∙ ap (λ l. long_size true is.digits l) (drop-append_seam is.digits back)
    ∙ ap (λ k. if true && nat_lt k (2 ^ 64) then Some (record { size = Some k; rest = back }) else None) is.value
    ∙ ap (λ b. if true && b then Some (record { size = Some n; rest = back }) else None) (lt-ltb n (2 ^ 64) is.fits)

pub size-found : (n : ℕ) (octets back : List ℕ) → IsLength n octets → size_at (octets ++ back) ≡ Some (record { size = Some n; rest = back })
size-found n octets back (inl is) =
    ap (λ l. size_at (l ++ back)) is.are ∙ ap (λ b. if b then Some (record { size = Some n; rest = back }) else later_size_at (n - 128) back) (lt-ltb n 128 is.below)
size-found n octets back (inr is) =
    let same : length is.digits + 128 - 128 ≡ length is.digits = omega arith in
    ap (λ l. size_at (l ++ back)) is.are
    ∙ ap (λ b. if b then Some (record { size = Some (length is.digits + 128); rest = is.digits ++ back }) else later_size_at (length is.digits + 128 - 128) (is.digits ++ back)) (le-ltb (length is.digits + 128) 128 (omega arith))
    ∙ ap (λ k. later_size_at k (is.digits ++ back)) same
    ∙ ap (λ b. if b then Some (record { size = None; rest = is.digits ++ back }) else (if nat_eq (length is.digits) 127 then None else long_size_at (length is.digits) (is.digits ++ back)))
    (ne_eqb (length is.digits) 0 (some_digits is.digits (omega (arith, is.value, is.not_short))))
    ∙ ap (λ b. if b then None else long_size_at (length is.digits) (is.digits ++ back)) (ne_eqb (length is.digits) 127 (λ e. omega (arith, e, few_digits n octets is)))
    ∙ long_size-found n octets back is

-- so the header of an element of DER is found, whatever follows
pub element_header : (t : Tag) (constructed : Bool) (contents own back : List ℕ) → IsElement t constructed contents own →
    header_at (own ++ back) ≡ Some (record { tag = t; constructed = constructed; size = Some (length contents); rest = contents ++ back })
element_header t constructed contents own back is =
    let whole : own ++ back ≡ is.identifier ++ (is.size ++ (contents ++ back)) =
    ap (λ l. l ++ back) is.are ∙ append_assoc is.identifier (is.size ++ contents) back ∙ ap (λ l. is.identifier ++ l) (append_assoc is.size contents back) in
    ap header_at whole
    ∙ header-found t constructed is.identifier (is.size ++ (contents ++ back)) (record { size = Some (length contents); rest = contents ++ back }) is.is_identifier (size-found (length contents) is.size (contents ++ back) is.is_size)
