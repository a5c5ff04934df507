-- Packed records are items: the header is found in front of whatever follows.
use Rattle.std.proofs.Common.{◌≡◌, ℕ, ◌-◌, true, Option, None, Some, List, [], ◌∷◌, ◌++◌, append_assoc, length, take, refl, sym, ap, ◌∙◌, arith, length-append}
use Rattle.std.proofs.Math.Seq.{take-append_seam}
use Rattle.std.proofs.lemmas.Nat.{from_be_bytes-to_be_bytes_4}
use Rattle.std.specs.Option.{option_and_then}
use Rattle.std.specs.Int.{w32, to_be_bytes, from_be_bytes}
use borrow.Author.Tests.{eqb-true}
use Rattle.asn1_tags.specs.Tags.{class_number}
use Rattle.asn1_tags.specs.declared.classes.Class.{Class}
use Rattle.asn1_tags.specs.declared.tags.Tag.{Tag}
use Rattle.asn1_model.specs.Records as model
use Rattle.asn1_model.specs.Tags.{head_tag}
use Rattle.asn1_items.proofs.Fronts.{IsReadOf, Leaves, after_byte, read_before}
use Rattle.asn1_items.specs.Headers.{Header, class_at, number_at, from_size, from_content, of_kind, from_class, header_at, is_one, is_one_item}
use Rattle.asn1_items.specs.Kinds.{item_kind_at, kind_of, kind_of_scope}
use Rattle.asn1_items.specs.Numbers.{four_bytes}
use Rattle.asn1_items.specs.declared.kinds.ItemKind.{ItemKind}
use Rattle.asn1_items.specs.declared.kinds.ItemKind.TheVariants as item
use Rattle.asn1_items.specs.declared.kinds.ScopeKind.{ScopeKind}
use Rattle.asn1_items.specs.Items.{IsItem}
pub use Rattle.asn1_items.proofs.Headers.{class_at-number, item_kind_at-byte, kind_at-is}

-- the number of the four bytes of a number
abbrev pub number_at_four : ℕ → ℕ
number_at_four n = from_be_bytes w32 (to_be_bytes w32 n)

-- the header before trailing bytes
abbrev pub extend : Header → List ℕ → Header
extend h ys = record { kind = h.kind; tag = h.tag; content = h.content; size = h.size; body = h.body ++ ys }

some_is : {A : Type 0} {x y : A} → Some x ≡ Some y → x ≡ y
some_is e = cc

-- the header with other bytes after it
abbrev before : Header → List ℕ → Header
before h back = record { kind = h.kind; tag = h.tag; content = h.content; size = h.size; body = back }

abbrev header_leaves : Leaves Header
header_leaves = record { left = λ h. h.body; leaving = λ h back. before h back }

size_read : (kind : ItemKind) (t : Tag) (content : ℕ) (xs : List ℕ) (h : Header) → from_size kind t content xs ≡ Some h → IsReadOf header_leaves (from_size kind t content) xs h
size_read kind t content (a ∷ b ∷ c ∷ d ∷ body) h e = record {
  front = a ∷ b ∷ c ∷ d ∷ [];
  are = ap (λ (g : Header). a ∷ b ∷ c ∷ d ∷ g.body) (some_is e);
  whatever = λ back. ap (λ g. Some (before g back)) (some_is e);
}
size_read kind t content _ h e = cc

content_read : (t : Tag) (xs : List ℕ) (h : Header) → from_content t xs ≡ Some h → IsReadOf header_leaves (from_content t) xs h
content_read t [] h e = cc
content_read t (content ∷ xs) h e = after_byte header_leaves (from_content t) content xs h (size_read item.Content t content xs h e)

kind_read : (kind : ItemKind) (t : Tag) (xs : List ℕ) (h : Header) → of_kind kind t xs ≡ Some h → IsReadOf header_leaves (of_kind kind t) xs h
kind_read item.Content t xs h e = content_read t xs h e
kind_read (item.Scope kind) t xs h e = size_read (item.Scope kind) t 0 xs h e

class_read : (kind : ItemKind) (xs : List ℕ) (h : Header) → from_class kind xs ≡ Some h → IsReadOf header_leaves (from_class kind) xs h
class_read kind (class ∷ a ∷ b ∷ c ∷ d ∷ rest) h e =
    let r = by (class_at class) e in
    record { front = class ∷ a ∷ b ∷ c ∷ d ∷ r.front; are = ap (λ l. class ∷ a ∷ b ∷ c ∷ d ∷ l) r.are; whatever = r.whatever }
  where
    by : (o : Option Class) → option_and_then (λ k. of_kind kind (record { class = k; value = number_at a b c d }) rest) o ≡ Some h →
        IsReadOf header_leaves (λ l. option_and_then (λ k. of_kind kind (record { class = k; value = number_at a b c d }) l) o) rest h
    by None e = cc
    by (Some k) e = kind_read kind (record { class = k; value = number_at a b c d }) rest h e
class_read kind _ h e = cc

-- The header is read of the front of the bytes.
pub header_read : (xs : List ℕ) (h : Header) → header_at xs ≡ Some h → IsReadOf header_leaves header_at xs h
header_read [] h e = cc
header_read (byte ∷ rest) h e = after_byte header_leaves header_at byte rest h (by (item_kind_at byte) e)
  where
    by : (o : Option ItemKind) → option_and_then (λ kind. from_class kind rest) o ≡ Some h → IsReadOf header_leaves (λ l. option_and_then (λ kind. from_class kind l) o) rest h
    by None e = cc
    by (Some kind) e = class_read kind rest h e

-- So the header stays before any trailing bytes.
pub header_at-append : (xs ys : List ℕ) (h : Header) → header_at xs ≡ Some h → header_at (xs ++ ys) ≡ Some (extend h ys)
header_at-append xs ys h e = read_before header_leaves header_at xs h (header_read xs h e) ys

-- One item with trailing bytes.
pub record IsOneItem (own back : List ℕ) : Type 0 where
  pub header : Header
  pub at : header_at (own ++ back) ≡ Some header
  pub inside : List ℕ
  pub body : header.body ≡ inside ++ back
  pub size : header.size ≡ length inside

pub one_item : (own back : List ℕ) → is_one_item own ≡ true → IsOneItem own back
one_item own back one = by (header_at own) refl one
  where
    by : (o : Option Header) → header_at own ≡ o → is_one o ≡ true → IsOneItem own back
    by None found one = cc
    by (Some h) found one = record { header = extend h back; at = header_at-append own back h found; inside = h.body; body = refl; size = sym (eqb-true (length h.body) h.size one) }

-- a content
pub content_item : (t : Tag) (content : ℕ) (inside bytes back : List ℕ) → IsItem item.Content t (content ∷ []) inside bytes →
    header_at (bytes ++ back) ≡ Some (record { kind = item.Content; tag = t; content = content; size = length inside; body = inside ++ back })
content_item t content inside bytes back own =
    let tag : record { class = t.class; value = number_at_four t.value } ≡ t = ap (λ n. record { class = t.class; value = n }) (from_be_bytes-to_be_bytes_4 t.value own.tag_fits) in
    let size : number_at_four (length inside) ≡ length inside = from_be_bytes-to_be_bytes_4 (length inside) own.size_fits in
    ap (λ b. header_at (b ++ back)) own.are
    ∙ ap (option_and_then (λ k. Some (record { kind = item.Content; tag = record { class = k; value = number_at_four t.value }; content = content; size = number_at_four (length inside); body = inside ++ back }))) (class_at-number t.class)
    ∙ ap (λ u. Some (record { kind = item.Content; tag = u; content = content; size = number_at_four (length inside); body = inside ++ back })) tag
    ∙ ap (λ n. Some (record { kind = item.Content; tag = t; content = content; size = n; body = inside ++ back })) size

-- a scope
pub scope_item_of : (kind : ScopeKind) (t : Tag) (inside bytes back : List ℕ) → IsItem (item.Scope kind) t [] inside bytes →
    header_at (bytes ++ back) ≡ Some (record { kind = item.Scope kind; tag = t; content = 0; size = length inside; body = inside ++ back })
scope_item_of kind t inside bytes back own =
    let tag : record { class = t.class; value = number_at_four t.value } ≡ t = ap (λ n. record { class = t.class; value = n }) (from_be_bytes-to_be_bytes_4 t.value own.tag_fits) in
    let size : number_at_four (length inside) ≡ length inside = from_be_bytes-to_be_bytes_4 (length inside) own.size_fits in
    let rest = four_bytes t.value ++ four_bytes (length inside) ++ inside ++ back in
    ap (λ b. header_at (b ++ back)) own.are
    ∙ ap (option_and_then (λ k. from_class k (class_number t.class ∷ rest))) (item_kind_at-byte (item.Scope kind))
    ∙ ap (option_and_then (λ k. of_kind (item.Scope kind) (record { class = k; value = number_at_four t.value }) (four_bytes (length inside) ++ inside ++ back))) (class_at-number t.class)
    ∙ ap (λ u. Some (record { kind = item.Scope kind; tag = u; content = 0; size = number_at_four (length inside); body = inside ++ back })) tag
    ∙ ap (λ n. Some (record { kind = item.Scope kind; tag = t; content = 0; size = n; body = inside ++ back })) size

pub scope_item : (h : model.Head) (inside bytes back : List ℕ) → IsItem (kind_of h) (head_tag h) [] inside bytes →
    header_at (bytes ++ back) ≡ Some (record { kind = kind_of h; tag = head_tag h; content = 0; size = length inside; body = inside ++ back })
scope_item h inside bytes back own = scope_item_of (kind_of_scope h) (head_tag h) inside bytes back own

-- The bytes before the body are the other bytes of the item.
size_front : (kind : ItemKind) (t : Tag) (content : ℕ) (xs : List ℕ) (h : Header) → from_size kind t content xs ≡ Some h → (front : List ℕ) × (xs ≡ front ++ h.body)
size_front kind t content (a ∷ b ∷ c ∷ d ∷ body) h e = (a ∷ b ∷ c ∷ d ∷ [], ap (λ (g : Header). a ∷ b ∷ c ∷ d ∷ g.body) (some_is e))
size_front kind t content _ h e = cc

kind_front : (kind : ItemKind) (t : Tag) (xs : List ℕ) (h : Header) → of_kind kind t xs ≡ Some h → (front : List ℕ) × (xs ≡ front ++ h.body)
kind_front item.Content t [] h e = cc
kind_front item.Content t (content ∷ xs) h e = let f = size_front item.Content t content xs h e in (content ∷ f.0, ap (λ l. content ∷ l) f.1)
kind_front (item.Scope kind) t xs h e = size_front (item.Scope kind) t 0 xs h e

class_front : (kind : ItemKind) (xs : List ℕ) (h : Header) → from_class kind xs ≡ Some h → (front : List ℕ) × (xs ≡ front ++ h.body)
class_front kind (class ∷ a ∷ b ∷ c ∷ d ∷ rest) h e = by (class_at class) e
  where
    by : (o : Option Class) → option_and_then (λ k. of_kind kind (record { class = k; value = number_at a b c d }) rest) o ≡ Some h → (front : List ℕ) × (class ∷ a ∷ b ∷ c ∷ d ∷ rest ≡ front ++ h.body)
    by None e = cc
    by (Some k) e = let f = kind_front kind (record { class = k; value = number_at a b c d }) rest h e in (class ∷ a ∷ b ∷ c ∷ d ∷ f.0, ap (λ l. class ∷ a ∷ b ∷ c ∷ d ∷ l) f.1)
class_front kind _ h e = cc

pub header_front : (xs : List ℕ) (h : Header) → header_at xs ≡ Some h → (front : List ℕ) × (xs ≡ front ++ h.body)
header_front [] h e = cc
header_front (byte ∷ rest) h e = by (item_kind_at byte) e
  where
    by : (o : Option ItemKind) → option_and_then (λ kind. from_class kind rest) o ≡ Some h → (front : List ℕ) × (byte ∷ rest ≡ front ++ h.body)
    by None e = cc
    by (Some kind) e = let f = class_front kind rest h e in (byte ∷ f.0, ap (λ l. byte ∷ l) f.1)

-- what is in front of a rest
pub front_is : (xs front inside back : List ℕ) (n : ℕ) → xs ≡ front ++ (inside ++ back) → n ≡ length back → xs ≡ take (length xs - n) xs ++ back
front_is xs front inside back n is long =
    let joined : xs ≡ (front ++ inside) ++ back = is ∙ sym (append_assoc front inside back) in
    let enough : length xs - n ≡ length (front ++ inside) = omega (arith, ap length joined, length-append (front ++ inside) back) in
    joined ∙ ap (λ l. l ++ back) (sym (ap (λ k. take k xs) enough ∙ ap (take (length (front ++ inside))) joined ∙ take-append_seam (front ++ inside) back))

-- what is in front of one rest is one thing
pub same_front : (xs ys back : List ℕ) → xs ++ back ≡ ys ++ back → xs ≡ ys
same_front xs ys back e =
    let long : length xs ≡ length ys = omega (arith, ap length e, length-append xs back, length-append ys back) in
    sym (take-append_seam xs back) ∙ ap (take (length xs)) e ∙ ap (λ n. take n (ys ++ back)) long ∙ take-append_seam ys back
