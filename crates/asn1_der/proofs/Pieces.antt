-- Pieces, from their bytes to their order.
use Rattle.std.proofs.Common.{◌≡◌, ℕ, true, List, [], ◌∷◌, ◌++◌, map, refl, sym, ap, subst, ◌∙◌, arith, append_assoc, append-nil, inl, inr}
use Rattle.std.proofs.lemmas.List.{map-append}
use Rattle.std.proofs.lemmas.List.Elements.{All-append, All-cons, All-head, All-nil, All-tail}
use Rattle.std.proofs.lemmas.List.Sorted.{IsPermutation-refl}
use Rattle.std.specs.List.{flat_map}
use Rattle.std.specs.Prelude.{◌⊎◌, IsTrue}
use Rattle.asn1_der.proofs.ElementCuts.{found_in_front, whole_by}
use Rattle.asn1_der_items.proofs.OneElement.{nothing_left}
use Rattle.asn1_der.specs.Sorting.{AreJoined, ArePieces, AreSorted, IsCutAs, key_of}
use Rattle.asn1_der.specs.declared.sorting.Cut.{Cut}
use Rattle.asn1_der.specs.declared.sorting.Order.{Order}
use Rattle.asn1_der.specs.declared.sorting.Order.TheVariants.{Tags, Encodings}
use Rattle.asn1_der.specs.declared.sorting.Piece.{Piece}
use Rattle.asn1_der_items.specs.Elements.{element_at}
use Rattle.asn1_der_items.specs.Series.{ends, is_one_element, tag_of}

-- the bytes of pieces, one after another
pub bytes_of_pieces : (pieces : List Piece) → flat_map (λ p. p.bytes.now) pieces ≡ flat_map (λ e. e) (map (λ p. p.bytes.now) pieces)
bytes_of_pieces [] = refl
bytes_of_pieces (p ∷ pieces) = ap (λ l. p.bytes.now ++ l) (bytes_of_pieces pieces)

-- How far the elements have been cut off: these are the pieces, and what is left are the other elements.
pub record AreCutSoFar (order : Order) (elements : List (List ℕ)) (pieces : List Piece) (left : List ℕ) : Type 0 where
  pub done : List (List ℕ)
  pub todo : List (List ℕ)
  pub are : elements ≡ done ++ todo
  pub pieces_are : ArePieces order done pieces
  pub left_is : AreJoined todo left

none_joined : (bytes : List ℕ) → AreJoined [] bytes → bytes ≡ []
none_joined bytes joined = joined.are

pub nothing_cut : (order : Order) (elements : List (List ℕ)) (pieces : List Piece) (inside : List ℕ) → pieces ≡ [] → AreJoined elements inside → AreCutSoFar order elements pieces inside
nothing_cut order elements pieces inside none joined = record {
  done = [];
  todo = elements;
  are = refl;
  pieces_are = subst (λ ps. ArePieces order [] ps) (sym none) (record { are = refl; keys = All-nil (λ (p : Piece). p.key ≡ key_of order (tag_of p.bytes.now)) });
  left_is = joined;
}

-- The element that is next, and how it goes on after it was cut off.
pub record NextIs (order : Order) (elements : List (List ℕ)) (pieces : List Piece) (left : List ℕ) : Type 0 where
  pub own : List ℕ
  pub back : List ℕ
  pub one : IsTrue (is_one_element own)
  pub is : left ≡ own ++ back
  pub after : (cut : Cut) (more : List Piece) → more ≡ pieces ++ cut.piece ∷ [] → IsCutAs order own back cut → AreCutSoFar order elements more cut.rest.now

pub next_is : (order : Order) (elements : List (List ℕ)) (pieces : List Piece) (left : List ℕ) → ¬ (left ≡ []) → AreCutSoFar order elements pieces left → NextIs order elements pieces left
next_is order elements pieces left some so_far = by so_far.todo so_far.are so_far.left_is
  where
    by : (todo : List (List ℕ)) → elements ≡ so_far.done ++ todo → AreJoined todo left → NextIs order elements pieces left
    by [] are joined = absurd (some (none_joined left joined))
    by (own ∷ todo) are joined =
        let Keyed = λ (p : Piece). p.key ≡ key_of order (tag_of p.bytes.now) in
        let back = flat_map (λ e. e) todo in
        record {
          own = own;
          back = back;
          one = All-head (λ e. IsTrue (is_one_element e)) own todo joined.each;
          is = joined.are;
          after = λ cut more is cut_is. record {
            done = so_far.done ++ own ∷ [];
            todo = todo;
            are = are ∙ sym (append_assoc so_far.done (own ∷ []) todo);
            pieces_are = subst (λ ps. ArePieces order (so_far.done ++ own ∷ []) ps) (sym is) (record {
              are = map-append (λ (p : Piece). p.bytes.now) pieces (cut.piece ∷ []) ∙ ap (λ l. l ++ cut.piece.bytes.now ∷ []) so_far.pieces_are.are ∙ ap (λ e. so_far.done ++ e ∷ []) cut_is.bytes;
              keys = All-append Keyed pieces (cut.piece ∷ []) so_far.pieces_are.keys (All-cons Keyed cut.piece [] (cut_is.key ∙ ap (λ e. key_of order (tag_of e)) (sym cut_is.bytes)) (All-nil Keyed));
            });
            left_is = record { each = All-tail (λ e. IsTrue (is_one_element e)) own todo joined.each; are = cut_is.rest };
          };
        }

nothing_is_no_element : (own back : List ℕ) → IsTrue (is_one_element own) → own ++ back ≡ [] → ⊥
nothing_is_no_element [] back one is = cc
nothing_is_no_element (o ∷ own) back one is = cc

-- all elements were cut off, where nothing is left
pub all_cut : (order : Order) (elements : List (List ℕ)) (pieces : List Piece) (left : List ℕ) → left ≡ [] → AreCutSoFar order elements pieces left → ArePieces order elements pieces
all_cut order elements pieces left none so_far = by so_far.todo so_far.are so_far.left_is
  where
    by : (todo : List (List ℕ)) → elements ≡ so_far.done ++ todo → AreJoined todo left → ArePieces order elements pieces
    by [] are joined = subst (λ es. ArePieces order es pieces) (sym (are ∙ append-nil so_far.done)) so_far.pieces_are
    by (own ∷ todo) are joined =
        absurd (nothing_is_no_element own (flat_map (λ e. e) todo) (All-head (λ e. IsTrue (is_one_element e)) own todo joined.each) (sym joined.are ∙ none))

-- No element and one element are in order.
none_sorted : (order : Order) → AreSorted order [] []
none_sorted Tags = record { sorted = []; moved = IsPermutation-refl []; in_order = λ k d low high. absurd (omega (arith, high)); are = refl }
none_sorted Encodings = record { sorted = []; moved = IsPermutation-refl []; in_order = λ k d low high. absurd (omega (arith, high)); are = refl }

one_sorted : (order : Order) (own : List ℕ) → AreSorted order (own ∷ []) (own ++ [])
one_sorted Tags own = record { sorted = own ∷ []; moved = IsPermutation-refl (own ∷ []); in_order = λ k d low high. absurd (omega (arith, high)); are = refl }
one_sorted Encodings own = record { sorted = own ∷ []; moved = IsPermutation-refl (own ∷ []); in_order = λ k d low high. absurd (omega (arith, high)); are = refl }

-- bytes that are at most one element consist of at most one
pub few_sorted : (order : Order) (elements : List (List ℕ)) (inside : List ℕ) → (inside ≡ []) ⊎ IsTrue (is_one_element inside) → AreJoined elements inside → AreSorted order elements inside
few_sorted order [] inside few joined = subst (λ l. AreSorted order [] l) (sym joined.are) (none_sorted order)
few_sorted order (own ∷ []) inside few joined = subst (λ l. AreSorted order (own ∷ []) l) (sym joined.are) (one_sorted order own)
few_sorted order (own ∷ other ∷ more) inside (inl none) joined =
    absurd (nothing_is_no_element own (flat_map (λ e. e) (other ∷ more)) (All-head (λ e. IsTrue (is_one_element e)) own (other ∷ more) joined.each) (sym joined.are ∙ none))
few_sorted order (own ∷ other ∷ more) inside (inr one) joined =
    let each = joined.each in
    let back = flat_map (λ e. e) (other ∷ more) in
    let found = found_in_front own back (All-head (λ e. IsTrue (is_one_element e)) own (other ∷ more) each) in
    let ended : ends found.element.rest ≡ true = sym (whole_by inside found.element (ap element_at joined.are ∙ found.at)) ∙ one in
    absurd (nothing_is_no_element other (flat_map (λ e. e) more) (All-head (λ e. IsTrue (is_one_element e)) other more (All-tail (λ e. IsTrue (is_one_element e)) own (other ∷ more) each)) (sym found.rest ∙ nothing_left found.element.rest ended))
