-- Bytes that begin with a header, and bytes that begin with none.
use Rattle.std.proofs.Common.{◌≡◌, ℕ, ◌≤◌, ◌<◌, Option, None, Some, List, [], ◌∷◌, ◌++◌, length, get_or, drop, refl, sym, ap, ◌∙◌, arith, zero, suc}
use Rattle.std.proofs.lemmas.Nat.{be_bytes_4}
use Rattle.std.specs.Option.{option_and_then}
use Rattle.asn1_tags.specs.Tags.{class_number}
use Rattle.asn1_tags.specs.declared.classes.Class.{Class}
use Rattle.asn1_tags.specs.declared.classes.Class.TheVariants.{Universal, Application, Context, Private}
use Rattle.asn1_tags.specs.declared.tags.Tag.{Tag}
use Rattle.asn1_items.specs.Headers.{Header, class_at, number_at, from_size, of_kind, from_class}
use Rattle.asn1_items.specs.Kinds.{item_byte, item_kind_at}
use Rattle.asn1_items.specs.Numbers.{four_bytes}
use Rattle.asn1_items.specs.declared.kinds.ItemKind.{ItemKind}
use Rattle.asn1_items.specs.declared.kinds.ItemKind.TheVariants as item
use Rattle.asn1_items.specs.declared.kinds.ScopeKind.{ScopeKind}
use Rattle.asn1_items.specs.declared.kinds.ScopeKind.TheVariants as scope

-- the class of its number
pub class_at-number : (class : Class) → class_at (class_number class) ≡ Some class
class_at-number Universal = refl
class_at-number Application = refl
class_at-number Context = refl
class_at-number Private = refl

-- what a class of this number gives
with_class : (class : Class) (byte : ℕ) (f : Class → Option Header) (h : Header) → class_number class ≡ byte → option_and_then f (class_at byte) ≡ Some h → f class ≡ Some h
with_class class byte f h is e = ap (option_and_then f) (sym (class_at-number class)) ∙ ap (λ b. option_and_then f (class_at b)) is ∙ e

-- the header of an item of content, after its kind
pub content_header_is : (xs : List ℕ) (class : Class) (h : Header) → 10 ≤ length xs → class_number class ≡ get_or xs 0 0 → from_class item.Content xs ≡ Some h →
    record {
      kind = item.Content;
      tag = record { class = class; value = number_at (get_or xs 1 0) (get_or xs 2 0) (get_or xs 3 0) (get_or xs 4 0) };
      content = get_or xs 5 0;
      size = number_at (get_or xs 6 0) (get_or xs 7 0) (get_or xs 8 0) (get_or xs 9 0);
      body = drop 10 xs;
    } ≡ h
content_header_is (x0 ∷ x1 ∷ x2 ∷ x3 ∷ x4 ∷ x5 ∷ x6 ∷ x7 ∷ x8 ∷ x9 ∷ xs) class h long is e =
    let found = with_class class x0 (λ k. of_kind item.Content (record { class = k; value = number_at x1 x2 x3 x4 }) (x5 ∷ x6 ∷ x7 ∷ x8 ∷ x9 ∷ xs)) h is e in
    cc
content_header_is _ class h long is e = absurd (omega arith)

-- the same of an item that holds others
pub scope_header_is : (kind : ScopeKind) (xs : List ℕ) (class : Class) (h : Header) → 9 ≤ length xs → class_number class ≡ get_or xs 0 0 → from_class (item.Scope kind) xs ≡ Some h →
    record {
      kind = item.Scope kind;
      tag = record { class = class; value = number_at (get_or xs 1 0) (get_or xs 2 0) (get_or xs 3 0) (get_or xs 4 0) };
      content = 0;
      size = number_at (get_or xs 5 0) (get_or xs 6 0) (get_or xs 7 0) (get_or xs 8 0);
      body = drop 9 xs;
    } ≡ h
scope_header_is kind (x0 ∷ x1 ∷ x2 ∷ x3 ∷ x4 ∷ x5 ∷ x6 ∷ x7 ∷ x8 ∷ xs) class h long is e =
    let found = with_class class x0 (λ k. of_kind (item.Scope kind) (record { class = k; value = number_at x1 x2 x3 x4 }) (x5 ∷ x6 ∷ x7 ∷ x8 ∷ xs)) h is e in
    cc
scope_header_is kind _ class h long is e = absurd (omega arith)

-- The header is found where there are enough bytes.
with_number : (class : Class) (byte : ℕ) (f : Class → Option Header) → class_number class ≡ byte → option_and_then f (class_at byte) ≡ f class
with_number class byte f is = ap (option_and_then f) (ap class_at (sym is) ∙ class_at-number class)

abbrev pub tag_in : List ℕ → Class → Tag
tag_in xs class = record { class = class; value = number_at (get_or xs 1 0) (get_or xs 2 0) (get_or xs 3 0) (get_or xs 4 0) }

abbrev pub content_header_in : List ℕ → Class → Header
content_header_in xs class = record { kind = item.Content; tag = tag_in xs class; content = get_or xs 5 0; size = number_at (get_or xs 6 0) (get_or xs 7 0) (get_or xs 8 0) (get_or xs 9 0); body = drop 10 xs }

pub content_header_at : (xs : List ℕ) (class : Class) → 10 ≤ length xs → class_number class ≡ get_or xs 0 0 → from_class item.Content xs ≡ Some (content_header_in xs class)
content_header_at (x0 ∷ x1 ∷ x2 ∷ x3 ∷ x4 ∷ x5 ∷ x6 ∷ x7 ∷ x8 ∷ x9 ∷ xs) class long is =
    with_number class x0 (λ k. of_kind item.Content (record { class = k; value = number_at x1 x2 x3 x4 }) (x5 ∷ x6 ∷ x7 ∷ x8 ∷ x9 ∷ xs)) is
content_header_at _ class long is = absurd (omega arith)

abbrev pub scope_header_in : ScopeKind → List ℕ → Class → Header
scope_header_in kind xs class = record { kind = item.Scope kind; tag = tag_in xs class; content = 0; size = number_at (get_or xs 5 0) (get_or xs 6 0) (get_or xs 7 0) (get_or xs 8 0); body = drop 9 xs }

pub scope_header_at : (kind : ScopeKind) (xs : List ℕ) (class : Class) → 9 ≤ length xs → class_number class ≡ get_or xs 0 0 → from_class (item.Scope kind) xs ≡ Some (scope_header_in kind xs class)
scope_header_at kind (x0 ∷ x1 ∷ x2 ∷ x3 ∷ x4 ∷ x5 ∷ x6 ∷ x7 ∷ x8 ∷ xs) class long is =
    with_number class x0 (λ k. of_kind (item.Scope kind) (record { class = k; value = number_at x1 x2 x3 x4 }) (x5 ∷ x6 ∷ x7 ∷ x8 ∷ xs)) is
scope_header_at kind _ class long is = absurd (omega arith)

-- There is none.
nothing_after : (o : Option Class) (f : Class → Option Header) (h : Header) → ((class : Class) → f class ≡ None) → option_and_then f o ≡ Some h → ⊥
nothing_after None f h none e = cc
nothing_after (Some class) f h none e = let no = none class in cc

unknown_class : (byte : ℕ) → 4 ≤ byte → class_at byte ≡ None
unknown_class (suc (suc (suc (suc byte)))) high = refl
unknown_class _ high = absurd (omega arith)

pub no_class : (kind : ItemKind) (xs : List ℕ) (h : Header) → 4 ≤ get_or xs 0 0 → from_class kind xs ≡ Some h → ⊥
no_class kind (x0 ∷ x1 ∷ x2 ∷ x3 ∷ x4 ∷ xs) h high e = let none = unknown_class x0 high in let no : option_and_then (λ k. of_kind kind (record { class = k; value = number_at x1 x2 x3 x4 }) xs) None ≡ Some h = ap (option_and_then (λ k. of_kind kind (record { class = k; value = number_at x1 x2 x3 x4 }) xs)) (sym none) ∙ e in cc
no_class kind _ h high e = cc

no_size : (xs : List ℕ) (kind : ItemKind) (t : Tag) (content : ℕ) → length xs < 4 → from_size kind t content xs ≡ None
no_size (a ∷ b ∷ c ∷ d ∷ xs) kind t content short = absurd (omega arith)
no_size _ kind t content short = refl

pub no_content_header : (xs : List ℕ) (h : Header) → length xs < 10 → from_class item.Content xs ≡ Some h → ⊥
no_content_header (x0 ∷ x1 ∷ x2 ∷ x3 ∷ x4 ∷ xs) h short e = nothing_after (class_at x0) (λ k. of_kind item.Content (record { class = k; value = number_at x1 x2 x3 x4 }) xs) h (too_short xs (omega arith)) e
  where
    too_short : (xs : List ℕ) → length xs < 5 → (k : Class) → of_kind item.Content (record { class = k; value = number_at x1 x2 x3 x4 }) xs ≡ None
    too_short [] short k = refl
    too_short (a ∷ xs) short k = no_size xs item.Content _ a (omega arith)
no_content_header _ h short e = cc

pub no_scope_header : (kind : ScopeKind) (xs : List ℕ) (h : Header) → length xs < 9 → from_class (item.Scope kind) xs ≡ Some h → ⊥
no_scope_header kind (x0 ∷ x1 ∷ x2 ∷ x3 ∷ x4 ∷ xs) h short e =
    nothing_after (class_at x0) (λ k. of_kind (item.Scope kind) (record { class = k; value = number_at x1 x2 x3 x4 }) xs) h (λ k. no_size xs (item.Scope kind) _ 0 (omega arith)) e
no_scope_header kind _ h short e = cc

-- the kind of its byte
pub item_kind_at-byte : (kind : ItemKind) → item_kind_at (item_byte kind) ≡ Some kind
item_kind_at-byte item.Content = refl
item_kind_at-byte (item.Scope scope.Sequence) = refl
item_kind_at-byte (item.Scope scope.Set) = refl
item_kind_at-byte (item.Scope scope.SequenceOf) = refl
item_kind_at-byte (item.Scope scope.SetOf) = refl
item_kind_at-byte (item.Scope scope.ExplicitTag) = refl
item_kind_at-byte (item.Scope scope.Alternative) = refl

-- and the byte of its kind
pub kind_at-is : (byte : ℕ) (kind : ItemKind) → item_kind_at byte ≡ Some kind → byte ≡ item_byte kind
kind_at-is zero kind e = cc
kind_at-is (suc zero) item.Content e = refl
kind_at-is (suc (suc zero)) (item.Scope scope.Sequence) e = refl
kind_at-is (suc (suc (suc zero))) (item.Scope scope.Set) e = refl
kind_at-is (suc (suc (suc (suc zero)))) (item.Scope scope.SequenceOf) e = refl
kind_at-is (suc (suc (suc (suc (suc zero))))) (item.Scope scope.SetOf) e = refl
kind_at-is (suc (suc (suc (suc (suc (suc zero)))))) (item.Scope scope.ExplicitTag) e = refl
kind_at-is (suc (suc (suc (suc (suc (suc (suc zero))))))) (item.Scope scope.Alternative) e = refl
kind_at-is _ kind e = cc

-- The bytes of the header are those of its parts.
low_bytes : (a b c d : ℕ) → a < 256 → b < 256 → c < 256 → d < 256 → (i : ℕ) → get_or (a ∷ b ∷ c ∷ d ∷ []) i 0 < 256
low_bytes a b c d p q r s zero = p
low_bytes a b c d p q r s (suc zero) = q
low_bytes a b c d p q r s (suc (suc zero)) = r
low_bytes a b c d p q r s (suc (suc (suc zero))) = s
low_bytes a b c d p q r s (suc (suc (suc (suc i)))) = omega arith

pub content_header_are : (xs : List ℕ) (class : Class) (value size : ℕ) → 10 ≤ length xs → ((i : ℕ) → get_or xs i 0 < 256) → class_number class ≡ get_or xs 0 0 →
    value ≡ number_at (get_or xs 1 0) (get_or xs 2 0) (get_or xs 3 0) (get_or xs 4 0) → size ≡ number_at (get_or xs 6 0) (get_or xs 7 0) (get_or xs 8 0) (get_or xs 9 0) →
    xs ≡ class_number class ∷ four_bytes value ++ get_or xs 5 0 ∷ four_bytes size ++ drop 10 xs
content_header_are (x0 ∷ x1 ∷ x2 ∷ x3 ∷ x4 ∷ x5 ∷ x6 ∷ x7 ∷ x8 ∷ x9 ∷ xs) class value size long low is of_value of_size =
    let v = be_bytes_4 (x1 ∷ x2 ∷ x3 ∷ x4 ∷ []) value refl (low_bytes x1 x2 x3 x4 (low 1) (low 2) (low 3) (low 4)) of_value in
    let s = be_bytes_4 (x6 ∷ x7 ∷ x8 ∷ x9 ∷ []) size refl (low_bytes x6 x7 x8 x9 (low 6) (low 7) (low 8) (low 9)) of_size in
    ap (λ k. k ∷ x1 ∷ x2 ∷ x3 ∷ x4 ∷ x5 ∷ x6 ∷ x7 ∷ x8 ∷ x9 ∷ xs) (sym is) ∙ ap (λ l. class_number class ∷ l ++ x5 ∷ x6 ∷ x7 ∷ x8 ∷ x9 ∷ xs) (sym v) ∙
    ap (λ l. class_number class ∷ four_bytes value ++ x5 ∷ l ++ xs) (sym s)
content_header_are _ class value size long low is of_value of_size = absurd (omega arith)

pub scope_header_are : (xs : List ℕ) (class : Class) (value size : ℕ) → 9 ≤ length xs → ((i : ℕ) → get_or xs i 0 < 256) → class_number class ≡ get_or xs 0 0 →
    value ≡ number_at (get_or xs 1 0) (get_or xs 2 0) (get_or xs 3 0) (get_or xs 4 0) → size ≡ number_at (get_or xs 5 0) (get_or xs 6 0) (get_or xs 7 0) (get_or xs 8 0) →
    xs ≡ class_number class ∷ four_bytes value ++ four_bytes size ++ drop 9 xs
scope_header_are (x0 ∷ x1 ∷ x2 ∷ x3 ∷ x4 ∷ x5 ∷ x6 ∷ x7 ∷ x8 ∷ xs) class value size long low is of_value of_size =
    let v = be_bytes_4 (x1 ∷ x2 ∷ x3 ∷ x4 ∷ []) value refl (low_bytes x1 x2 x3 x4 (low 1) (low 2) (low 3) (low 4)) of_value in
    let s = be_bytes_4 (x5 ∷ x6 ∷ x7 ∷ x8 ∷ []) size refl (low_bytes x5 x6 x7 x8 (low 5) (low 6) (low 7) (low 8)) of_size in
    ap (λ k. k ∷ x1 ∷ x2 ∷ x3 ∷ x4 ∷ x5 ∷ x6 ∷ x7 ∷ x8 ∷ xs) (sym is) ∙ ap (λ l. class_number class ∷ l ++ x5 ∷ x6 ∷ x7 ∷ x8 ∷ xs) (sym v) ∙
    ap (λ l. class_number class ∷ four_bytes value ++ l ++ xs) (sym s)
scope_header_are _ class value size long low is of_value of_size = absurd (omega arith)
