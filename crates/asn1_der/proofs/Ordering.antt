-- Sorted pieces are elements in order.
use Rattle.std.proofs.Common.{rules, ◌≡◌, ℕ, ◌+◌, ◌<◌, Bool, true, false, List, [], ◌∷◌, map, length, get_or, refl, sym, ap, subst, ◌∙◌, arith}
use Rattle.std.proofs.lemmas.List.{get_or-map, length-map}
use Rattle.std.proofs.lemmas.List.Sorted.{All-permutation, IsPermutation-map, IsPermutation-refl}
use Rattle.std.specs.Cmp.Lexicographic.{slice_cmp}
use Rattle.std.specs.List.{IsAllAdjacentAnswer, flat_map}
use Rattle.std.specs.List.Sorted.{IsSorted, IsSortedBy}
use Rattle.std.specs.Ordering.{is_ge, is_lt, nat_cmp, ordering_then}
use Rattle.std.specs.declared.cmp.Ordering.{Ordering}
use Rattle.std.specs.declared.cmp.Ordering.TheVariants.{Less, Equal, Greater}
use Rattle.std.specs.Prelude.{All, IsPermutation}
use Rattle.asn1_tags.specs.Tags.{tag_cmp}
use Rattle.asn1_tags.specs.contracts.tags.TagOrd.TheImpl.{ghosts as tag_ord}
use Rattle.asn1_tags.specs.declared.tags.Tag.{Tag}
use Rattle.asn1_der.proofs.Pieces.{bytes_of_pieces}
use Rattle.asn1_der.specs.Sorting.{AreJoined, ArePieces, AreSorted, IsAscendingBy, key_of, piece_cmp}
use Rattle.asn1_der.specs.contracts.sorting.PieceOrd.TheImpl.{ghosts as piece_ord}
use Rattle.asn1_der.specs.declared.sorting.Order.{Order}
use Rattle.asn1_der.specs.declared.sorting.Order.TheVariants.{Tags, Encodings}
use Rattle.asn1_der.specs.declared.sorting.Piece.{Piece}
use Rattle.asn1_der_items.specs.Series.{tag_of}

-- what is in order is so after a map that keeps the order
sorted_map : {P X : Type 0} (K : P → Type 0) (below : P → P → Bool) (after : X → X → Bool) (f : P → X) (ps : List P) → ((p q : P) → K p → K q → below p q ≡ false → after (f p) (f q) ≡ false) → All K ps → IsSortedBy below ps →
    IsSortedBy after (map f ps)
sorted_map K below after f [] keeps keyed sorted = λ k d low high. absurd (omega (arith, high))
sorted_map K below after f (p ∷ ps) keeps keyed sorted = λ k d low high.
    let long : k + 1 < length (p ∷ ps) = omega (arith, high, length-map (p ∷ ps) f) in
    let short : k < length (p ∷ ps) = omega (arith, long) in
    let kept = keeps _ _ (keyed (k + 1) p long) (keyed k p short) (sorted k p low long) in
    ap (λ x. after x (get_or (map f (p ∷ ps)) k d)) (get_or-map f (p ∷ ps) (k + 1) p d long) ∙ ap (λ x. after (f (get_or (p ∷ ps) (k + 1) p)) x) (get_or-map f (p ∷ ps) k p d short) ∙ kept

-- the first of two comparisons
first_not_below : (a b : Ordering) → is_lt (ordering_then a b) ≡ false → is_lt a ≡ false
first_not_below Less b e = cc
first_not_below Equal b e = refl
first_not_below Greater b e = refl

tag_order : (s t : Tag) → tag_ord.cmp s t ≡ tag_cmp s t
tag_order s t = search rules

pub piece_order : (p q : Piece) → piece_ord.cmp p q ≡ piece_cmp p q
piece_order p q = ap (λ o. ordering_then o (slice_cmp nat_cmp p.bytes.now q.bytes.now)) (tag_order p.key q.key)

in_order : (order : Order) (ps : List Piece) → All (λ p. p.key ≡ key_of order (tag_of p.bytes.now)) ps → IsSortedBy (λ p q. is_lt (piece_cmp p q)) ps → IsAscendingBy order (map (λ p. p.bytes.now) ps)
in_order Tags ps keyed sorted =
    sorted_map (λ p. p.key ≡ tag_of p.bytes.now) (λ p q. is_lt (piece_cmp p q)) (λ x y. is_lt (tag_cmp (tag_of x) (tag_of y))) (λ p. p.bytes.now) ps
    (λ p q own other not. ap (λ t. is_lt (tag_cmp t (tag_of q.bytes.now))) (sym own) ∙ ap (λ t. is_lt (tag_cmp p.key t)) (sym other) ∙ first_not_below (tag_cmp p.key q.key) (slice_cmp nat_cmp p.bytes.now q.bytes.now) not)
    keyed
    sorted
in_order Encodings ps keyed sorted =
    let one = key_of Encodings (key_of Encodings (tag_of [])) in
    sorted_map (λ p. p.key ≡ one) (λ p q. is_lt (piece_cmp p q)) (λ x y. is_lt (slice_cmp nat_cmp x y)) (λ p. p.bytes.now) ps
    (λ p q own other not. ap (λ t. is_lt (ordering_then (tag_cmp t one) (slice_cmp nat_cmp p.bytes.now q.bytes.now))) (sym own) ∙ ap (λ t. is_lt (ordering_then (tag_cmp p.key t) (slice_cmp nat_cmp p.bytes.now q.bytes.now))) (sym other) ∙ not)
    keyed
    sorted

-- what was made of sorted pieces
module _ (order : Order) (elements : List (List ℕ)) (old new : List Piece) (bytes : List ℕ) where
  sorted_by : ArePieces order elements old → IsPermutation old new → IsSorted piece_cmp new → bytes ≡ flat_map (λ p. p.bytes.now) new → AreSorted order elements bytes
  sorted_by pieces moved sorted are = record {
    sorted = map (λ p. p.bytes.now) new;
    moved = subst (λ es. IsPermutation es (map (λ p. p.bytes.now) new)) pieces.are (IsPermutation-map (λ (p : Piece). p.bytes.now) old new moved);
    in_order = in_order order new (All-permutation (λ p. p.key ≡ key_of order (tag_of p.bytes.now)) old new moved pieces.keys) sorted;
    are = are ∙ bytes_of_pieces new;
  }

  pub sorted_pieces : ArePieces order elements old → IsPermutation old new → IsSorted piece_ord.cmp new → bytes ≡ flat_map (λ p. p.bytes.now) new → AreSorted order elements bytes
  sorted_pieces pieces moved sorted are =
      sorted_by pieces moved (λ k d low high. ap is_lt (sym (piece_order (get_or new (k + 1) d) (get_or new k d))) ∙ sorted k d low high) are

-- what is not below is not less
not_less : (o : Ordering) → true ≡ is_ge o → is_lt o ≡ false
not_less Less e = cc
not_less Equal e = refl
not_less Greater e = refl

-- neighbours of which none comes before the one in front of it
pub neighbours_sorted : (ps : List Piece) (answer : Bool) → IsAllAdjacentAnswer (λ p q b. b ≡ is_ge (piece_cmp q p)) ps answer → answer ≡ true → IsSorted piece_cmp ps
neighbours_sorted ps true each is = λ k d low high. not_less (piece_cmp (get_or ps (k + 1) d) (get_or ps k d)) (each k d high)
neighbours_sorted ps false each is = cc

-- pieces that are in order as they are
pub sorted_as_they_are : (order : Order) (elements : List (List ℕ)) (ps : List Piece) (inside : List ℕ) → AreJoined elements inside → ArePieces order elements ps → IsSorted piece_cmp ps → AreSorted order elements inside
sorted_as_they_are order elements ps inside joined pieces sorted =
    sorted_by order elements ps ps inside pieces (IsPermutation-refl ps) sorted (joined.are ∙ ap (flat_map (λ e. e)) (sym pieces.are) ∙ sym (bytes_of_pieces ps))
