-- The bytes of the header that the program found, and those of an item that was taken.
use Rattle.std.proofs.Common.{◌≡◌, ℕ, ◌-◌, ◌≤◌, ◌<◌, ◌^◌, true, List, [], ◌∷◌, ◌++◌, Some, Result, Ok, Err, append_assoc, append-nil, length, length-append, get_or, take, drop, sym, ap, subst, ◌∙◌, arith}
use Rattle.std.proofs.Math.Seq.{take-append_seam}
use Rattle.std.proofs.lemmas.Bool.{eq-eqb}
use Rattle.std.specs.Prelude.{IfOk}
use Rattle.asn1_items.proofs.Items.{content_item, scope_item_of}
use Rattle.asn1_items.proofs.Headers.{kind_at-is}
use Rattle.asn1_items.specs.Headers.{AreOfHeader, AreOfHeaderAfter, Header, IsHeader, Meets, content_bytes, header_at, is_one, is_one_item, tag_bytes}
use Rattle.asn1_items.specs.Items.{IsItem}
use Rattle.asn1_items.specs.Kinds.{item_byte, item_kind_at}
use Rattle.asn1_items.specs.Numbers.{four_bytes}
use Rattle.asn1_items.specs.Slices.{IsExpectedItem}
use Rattle.asn1_items.specs.declared.error.ItemError.{ItemError}
use Rattle.asn1_items.specs.declared.header.ExpectedHeader.{ExpectedHeader}
use Rattle.asn1_items.specs.declared.header.ExpectedHeader.TheVariants as expected
use Rattle.asn1_items.specs.declared.header.Header.{Header as Found}
use Rattle.asn1_items.specs.declared.kinds.ItemKind.{ItemKind}
use Rattle.asn1_items.specs.declared.kinds.ItemKind.TheVariants as item
use Rattle.asn1_tags.specs.declared.tags.Tag.{Tag}

-- with the byte of the kind in front
pub with_kind : (kind : ItemKind) (xs rest : List ℕ) (r : Result Found ItemError) → 1 ≤ length xs → rest ≡ drop 1 xs → item_kind_at (get_or xs 0 0) ≡ Some kind →
    IfOk r (AreOfHeaderAfter kind rest) → IfOk r (AreOfHeader xs)
with_kind kind [] rest r long is of_kind after = absurd (omega arith)
with_kind kind (byte ∷ xs) rest (Err e) long is of_kind after = tt
with_kind kind (byte ∷ xs) rest (Ok found) long is of_kind after =
    let own : byte ≡ item_byte found.kind = kind_at-is byte kind of_kind ∙ ap item_byte (sym after.kind_is) in
    let all : rest ≡ tag_bytes found.tag ++ content_bytes found.kind found.content ++ four_bytes found.size ++ found.body.now =
    after.are ∙ ap (λ k. tag_bytes found.tag ++ content_bytes k found.content ++ four_bytes found.size ++ found.body.now) (sym after.kind_is) in
    record {
      are = ap (λ b. b ∷ xs) own ∙ ap (λ l. item_byte found.kind ∷ l) (sym is ∙ all);
      tag_fits = after.tag_fits;
      size_fits = after.size_fits;
    }

-- The bytes that were taken are the item of the header.
pub item_is : (xs own inside rest : List ℕ) (found : Found) → AreOfHeader xs found → found.body.now ≡ inside ++ rest → found.size ≡ length inside →
    own ≡ take (length xs - length rest) xs → IsItem found.kind found.tag (content_bytes found.kind found.content) inside own × (xs ≡ own ++ rest)
item_is xs own inside rest found all body size taken =
    let front = item_byte found.kind ∷ tag_bytes found.tag ++ content_bytes found.kind found.content ++ four_bytes found.size in
    let joined : xs ≡ (front ++ inside) ++ rest =
    all.are ∙ ap (λ l. item_byte found.kind ∷ tag_bytes found.tag ++ content_bytes found.kind found.content ++ four_bytes found.size ++ l) body ∙ simp append_assoc in
    let long : length xs - length rest ≡ length (front ++ inside) = omega (arith, ap length joined, length-append (front ++ inside) rest) in
    let whole : own ≡ front ++ inside =
    taken ∙ ap (λ n. take n xs) long ∙ ap (take (length (front ++ inside))) joined ∙ take-append_seam (front ++ inside) rest in (
      record {
        are = whole ∙ ap (λ n. (item_byte found.kind ∷ tag_bytes found.tag ++ content_bytes found.kind found.content ++ four_bytes n) ++ inside) size ∙ simp append_assoc;
        tag_fits = all.tag_fits;
        size_fits = subst (λ n. n < 2 ^ 32) size all.size_fits;
      },
      joined ∙ ap (λ l. l ++ rest) (sym whole),
    )

-- one that has its length is an item
one_of : (kind : ItemKind) (t : Tag) (content : ℕ) (inside own : List ℕ) → IsItem kind t (content_bytes kind content) inside own → is_one_item own ≡ true
one_of item.Content t content inside own is = by (ap header_at (sym (append-nil own)) ∙ content_item t content inside own [] is)
  where
    by : header_at own ≡ Some (record { kind = item.Content; tag = t; content = content; size = length inside; body = inside ++ [] }) → is_one_item own ≡ true
    by at = ap is_one at ∙ eq-eqb (length (inside ++ [])) (length inside) (ap length (append-nil inside))
one_of (item.Scope kind) t content inside own is = by (ap header_at (sym (append-nil own)) ∙ scope_item_of kind t inside own [] is)
  where
    by : header_at own ≡ Some (record { kind = item.Scope kind; tag = t; content = 0; size = length inside; body = inside ++ [] }) → is_one_item own ≡ true
    by at = ap is_one at ∙ eq-eqb (length (inside ++ [])) (length inside) (ap length (append-nil inside))

-- and it is the expected one
pub expected_is : (wanted : ExpectedHeader) (h : Header) (found : Found) (inside own : List ℕ) → IsHeader found h → Meets wanted h →
    IsItem found.kind found.tag (content_bytes found.kind found.content) inside own → IsExpectedItem wanted found.tag inside own
expected_is (expected.Content t k) h found inside own is meets item_is =
    (is.tag ∙ meets.1, subst (λ b. IsItem item.Content found.tag (b ∷ []) inside own) (is.content ∙ meets.2) (subst (λ k. IsItem k found.tag (content_bytes k found.content) inside own) (is.kind ∙ meets.0) item_is))
expected_is (expected.Scope k t) h found inside own is meets item_is =
    (is.tag ∙ meets.1, subst (λ k. IsItem k found.tag (content_bytes k found.content) inside own) (is.kind ∙ meets.0) item_is)
expected_is expected.Alternative h found inside own is meets item_is = subst (λ k. IsItem k found.tag (content_bytes k found.content) inside own) (is.kind ∙ meets) item_is
expected_is expected.Any h found inside own is meets item_is = one_of found.kind found.tag found.content inside own item_is
