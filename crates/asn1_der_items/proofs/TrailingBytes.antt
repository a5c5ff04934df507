-- Trailing bytes change nothing of the element with which bytes begin, and what is left after it is shorter.
use Rattle.std.proofs.Common.{◌≡◌, ℕ, ◌+◌, ◌≤◌, ◌<◌, Bool, true, false, List, [], ◌++◌, Option, None, Some, append-nil, length, length-append, take, drop, refl, ap, sym, ◌∙◌, arith}
use Rattle.std.proofs.lemmas.List.{take-append-drop}
use Rattle.std.specs.Prelude.{nat_le, if◌then◌else◌}
use Rattle.std.specs.Option.{option_and_then}
use Rattle.asn1_items.proofs.Fronts.{read_before, read_shorter}
use Rattle.asn1_der_items.proofs.ElementFronts.{base128_read, element_leaves, element_leaving, element_read, identifier_leaves, identifier_read, length_read, number_leaves}
use Rattle.asn1_der_items.specs.Base128.{Front, base128_at}
use Rattle.asn1_der_items.specs.Elements.{Element, element_at, of_identifier, of_length}
use Rattle.asn1_der_items.specs.Identifiers.{Identified, identifier_at}
use Rattle.asn1_der_items.specs.Lengths.{length_at}
use Rattle.asn1_der_items.specs.Series.{IsAlone}

some_is : {A : Type 0} {x y : A} → Some x ≡ Some y → x ≡ y
some_is e = cc

-- what was read, with these bytes after what is left
abbrev pub element_before : Element → List ℕ → Element
element_before e behind = record { tag = e.tag; constructed = e.constructed; contents = e.contents; rest = e.rest ++ behind }

-- the element stays before any trailing bytes
pub element_at-append : (bytes behind : List ℕ) (e : Element) → element_at bytes ≡ Some e → element_at (bytes ++ behind) ≡ Some (element_before e behind)
element_at-append bytes behind e is = read_before element_leaves element_at bytes e (element_read bytes e is) behind

-- so do identifier octets
pub identifier_at-append : (bytes behind : List ℕ) (i : Identified) → identifier_at bytes ≡ Some i →
    identifier_at (bytes ++ behind) ≡ Some (record { tag = i.tag; constructed = i.constructed; rest = i.rest ++ behind })
identifier_at-append bytes behind i is = read_before identifier_leaves identifier_at bytes i (identifier_read bytes i is) behind

-- The element with which the bytes begin, alone, and what is left after it.
pub record IsCutOff (e : Element) (bytes : List ℕ) : Type 0 where
  pub own : List ℕ
  pub are : bytes ≡ own ++ e.rest
  pub alone : IsAlone (element_leaving e []) own

pub cut_off : (bytes : List ℕ) (e : Element) → element_at bytes ≡ Some e → IsCutOff e bytes
cut_off bytes e at =
    let r = element_read bytes e at in
    record { own = r.front; are = r.are; alone = record { at = ap element_at (sym (append-nil r.front)) ∙ r.whatever []; alone = refl } }

-- what is left is shorter
pub base128_at-shorter : (bytes : List ℕ) (f : Front) → base128_at bytes ≡ Some f → length f.rest < length bytes
base128_at-shorter bytes f is = read_shorter number_leaves base128_at bytes f refl (base128_read bytes f is)

pub identifier_at-shorter : (bytes : List ℕ) (i : Identified) → identifier_at bytes ≡ Some i → length i.rest < length bytes
identifier_at-shorter bytes i is = read_shorter identifier_leaves identifier_at bytes i refl (identifier_read bytes i is)

pub element_at-shorter : (bytes : List ℕ) (e : Element) → element_at bytes ≡ Some e → length e.rest < length bytes
element_at-shorter bytes e is = read_shorter element_leaves element_at bytes e refl (element_read bytes e is)

-- and the contents octets are of the bytes too
of_length-parts : (i : Identified) (f : Front) (e : Element) → of_length i f ≡ Some e → length e.contents + length e.rest ≡ length f.rest
of_length-parts i f e is = by (nat_le f.number (length f.rest)) is
  where
    by : (enough : Bool) → (if enough then Some (record { tag = i.tag; constructed = i.constructed; contents = take f.number f.rest; rest = drop f.number f.rest }) else None) ≡ Some e →
        length e.contents + length e.rest ≡ length f.rest
    by false is = cc
    by true is =
        sym (ap (λ (g : Element). length g.contents + length g.rest) (some_is is))
        ∙ sym (length-append (take f.number f.rest) (drop f.number f.rest))
        ∙ ap length (take-append-drop f.number f.rest)

pub parts_fit : (bytes : List ℕ) (e : Element) → element_at bytes ≡ Some e → length e.contents + length e.rest ≤ length bytes
parts_fit bytes e is = by (identifier_at bytes) refl is
  where
    by_length : (i : Identified) (o : Option Front) → length_at i.rest ≡ o → option_and_then (of_length i) o ≡ Some e → length e.contents + length e.rest ≤ length i.rest
    by_length i None found is = cc
    by_length i (Some f) found is = omega (arith, of_length-parts i f e is, read_shorter number_leaves length_at i.rest f refl (length_read i.rest f found))

    by : (o : Option Identified) → identifier_at bytes ≡ o → option_and_then of_identifier o ≡ Some e → length e.contents + length e.rest ≤ length bytes
    by None found is = cc
    by (Some i) found is = omega (arith, read_shorter identifier_leaves identifier_at bytes i refl (identifier_read bytes i found), by_length i (length_at i.rest) refl is)
