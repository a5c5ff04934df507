-- The bytes of one value are one whole item.
use Rattle.std.proofs.Common.{◌≡◌, ℕ, ◌+◌, ◌-◌, ◌≤◌, true, Option, None, Some, List, ◌++◌, ap, sym, ◌∙◌, arith, drop, length, length-append, length-drop, take, refl}
use Rattle.std.proofs.Math.Seq.{take-append-add}
use Rattle.std.proofs.lemmas.Bool.Decides.{Decides-eqb}
use Rattle.std.proofs.lemmas.List.{length-take-le, take-append-drop}
use Rattle.std.specs.Prelude.{◌↔◌, IsTrue}
use borrow.Author.Tests.{eqb-true}
use Rattle.asn1_bench.specs.Fronts.{IsCut}
use Rattle.asn1_items.proofs.Items.{extend, header_at-append, header_read}
use Rattle.asn1_items.specs.Headers.{Header, header_at, is_one, is_one_item}

-- The first n bytes are there, and are one item.
abbrev IsItemLong : List ℕ → ℕ → Type 0
IsItemLong bytes n = (n ≤ length bytes) × IsTrue (is_one_item (take n bytes))

-- what is cut off is one item
item_of_cut : (bytes : List ℕ) (n : ℕ) → IsCut bytes n → IsItemLong bytes n
item_of_cut bytes n cut =
    let h = cut.header in
    let r = header_read bytes h cut.at in
    let long : n ≡ length r.front + h.size = omega (arith, cut.long, ap length r.are, length-append r.front h.body) in
    let first : take n bytes ≡ r.front ++ take h.size h.body =
    ap (λ l. take n l) r.are ∙ ap (λ k. take k (r.front ++ h.body)) long ∙ take-append-add r.front h.body h.size in
    let whole = (Decides-eqb (length (take h.size h.body)) h.size).1 (length-take-le h.size h.body cut.all_there) in
    (omega (arith, cut.long, cut.all_there), ap is_one_item first ∙ ap is_one (r.whatever (take h.size h.body)) ∙ whole)

-- and one item is cut off
cut_of_item : (bytes : List ℕ) (n : ℕ) → IsItemLong bytes n → IsCut bytes n
cut_of_item bytes n (within, one) = by (header_at (take n bytes)) refl one
  where
    by : (o : Option Header) → header_at (take n bytes) ≡ o → is_one o ≡ true → IsCut bytes n
    by None found one = cc
    by (Some h) found one =
        let same : length h.body ≡ h.size = eqb-true (length h.body) h.size one in
        let long : length (h.body ++ drop n bytes) ≡ h.size + (length bytes - n) = omega (arith, length-append h.body (drop n bytes), length-drop n bytes, same) in
        record {
          header = extend h (drop n bytes);
          at = ap header_at (sym (take-append-drop n bytes)) ∙ header_at-append (take n bytes) (drop n bytes) h found;
          all_there = omega (arith, long);
          long = omega (arith, long, within);
        }

pub cut_is_item : (bytes : List ℕ) (n : ℕ) → IsCut bytes n ↔ ((n ≤ length bytes) × IsTrue (is_one_item (take n bytes)))
cut_is_item bytes n = ((λ cut. item_of_cut bytes n cut), (λ item. cut_of_item bytes n item))

-- no item is empty
pub no_empty_cut : (bytes : List ℕ) → IsCut bytes 0 → ⊥
no_empty_cut bytes cut = let one = (item_of_cut bytes 0 cut).1 in cc
