-- Items of one content: with their length from the start, or with a length that was written later.
use Rattle.std.proofs.Common.{◌≡◌, ℕ, ◌+◌, ◌<◌, ◌^◌, List, [], ◌∷◌, ◌++◌, append_assoc, refl, sym, ap, subst, ◌∙◌, arith, length, length-append}
use Rattle.asn1_items.specs.Contents.{IsContent}
use Rattle.asn1_items.specs.Headers.{tag_bytes}
use Rattle.asn1_items.specs.Items.{Holds, IsItem, IsItemOf}
use Rattle.asn1_items.specs.Kinds.{content_byte, content_kind, item_byte}
use Rattle.asn1_items.specs.Numbers.{Appended, four_bytes}
use Rattle.asn1_items.specs.declared.kinds.ContentKind.{ContentKind}
use Rattle.asn1_items.specs.declared.kinds.ItemKind.TheVariants as item_kind
use Rattle.asn1_model.specs.Records as model
use Rattle.asn1_tags.specs.declared.tags.Tag.{Tag}

-- The bytes of an item of a content, whose length was written over four zeros.
pub record ScalarPlaced (y : model.Content) (t : Tag) (bytes filled : List ℕ) (start : ℕ) : Type 0 where
  pub front : List ℕ
  pub inside : List ℕ
  pub front_is : front ≡ bytes ++ (item_byte item_kind.Content ∷ tag_bytes t ++ content_byte (content_kind y) ∷ [])
  pub filled_is : filled ≡ front ++ ((0 ∷ 0 ∷ 0 ∷ 0 ∷ []) ++ inside)
  pub starts : start ≡ length front + 4
  pub is : IsContent y inside

pub placed : (y : model.Content) (t : Tag) (bytes opened filled : List ℕ) (k : ContentKind) (start : ℕ) → opened ≡ bytes ++ item_byte item_kind.Content ∷ (tag_bytes t ++ content_byte k ∷ 0 ∷ 0 ∷ 0 ∷ 0 ∷ []) → k ≡ content_kind y → start ≡ length opened → Appended (IsContent y) opened filled →
    ScalarPlaced y t bytes filled start
placed y t bytes opened filled k start header kind starts a =
    let front = bytes ++ (item_byte item_kind.Content ∷ tag_bytes t ++ content_byte k ∷ []) in
    let zeros : List ℕ = 0 ∷ 0 ∷ 0 ∷ 0 ∷ [] in
    let split : opened ≡ front ++ zeros = header ∙ ap (λ l. bytes ++ item_byte item_kind.Content ∷ l) (sym (append_assoc (tag_bytes t) (content_byte k ∷ []) zeros)) ∙ sym (append_assoc bytes (item_byte item_kind.Content ∷ tag_bytes t ++ content_byte k ∷ []) zeros) in
    record {
      front = front;
      inside = a.added;
      front_is = ap (λ j. bytes ++ (item_byte item_kind.Content ∷ tag_bytes t ++ content_byte j ∷ [])) kind;
      filled_is = a.joined ∙ ap (λ l. l ++ a.added) split ∙ append_assoc front zeros a.added;
      starts = omega (arith, starts, ap length split, length-append front zeros);
      is = a.is;
    }

-- the length was written over the zeros
pub measured : (y : model.Content) (t : Tag) (bytes filled new : List ℕ) (start : ℕ) → (p : ScalarPlaced y t bytes filled start) → t.value < 2 ^ 32 → length p.inside < 2 ^ 32 → new ≡ p.front ++ (four_bytes (length p.inside) ++ p.inside) →
    Appended (IsItemOf t y) bytes new
measured y t bytes filled new start p tag_fits small is =
    let front = item_byte item_kind.Content ∷ tag_bytes t ++ content_byte (content_kind y) ∷ [] in
    let rest = four_bytes (length p.inside) ++ p.inside in
    record {
      added = front ++ rest;
      is = record { inside = p.inside; is = p.is; item = record { are = refl; tag_fits = tag_fits; size_fits = small } };
      joined = is ∙ ap (λ l. l ++ rest) p.front_is ∙ append_assoc bytes front rest;
    }

-- an item whose length was known before
pub whole : (Is : List ℕ → Type 0) (t : Tag) (k : ContentKind) (size : ℕ) (bytes headed new inside : List ℕ) → Is inside → size ≡ length inside → t.value < 2 ^ 32 → size < 2 ^ 32 →
    headed ≡ bytes ++ item_byte item_kind.Content ∷ (tag_bytes t ++ content_byte k ∷ four_bytes size) → new ≡ headed ++ inside → Appended (Holds Is item_kind.Content t (content_byte k ∷ [])) bytes new
whole Is t k size bytes headed new inside is size_is tag_fits small header more =
    let head = item_byte item_kind.Content ∷ (tag_bytes t ++ content_byte k ∷ four_bytes size) in
    record {
      added = head ++ inside;
      is = record {
        inside = inside;
        is = is;
        item = record { are = ap (λ n. (item_byte item_kind.Content ∷ (tag_bytes t ++ content_byte k ∷ four_bytes n)) ++ inside) size_is; tag_fits = tag_fits; size_fits = subst (λ n. n < 2 ^ 32) size_is small };
      };
      joined = more ∙ ap (λ l. l ++ inside) header ∙ append_assoc bytes head inside;
    }

-- of another kind of bytes, and another name of the kind
pub as_item : (Is : List ℕ → Type 0) (y : model.Content) (t : Tag) (k : ContentKind) (bytes new : List ℕ) → ((own : List ℕ) → Is own → IsContent y own) → k ≡ content_kind y → Appended (Holds Is item_kind.Content t (content_byte k ∷ [])) bytes new → Appended (IsItemOf t y) bytes new
as_item Is y t k bytes new each kind a = record {
  added = a.added;
  is = record { inside = a.is.inside; is = each a.is.inside a.is.is; item = subst (λ j. IsItem item_kind.Content t (content_byte j ∷ []) a.is.inside a.added) kind a.is.item };
  joined = a.joined;
}
