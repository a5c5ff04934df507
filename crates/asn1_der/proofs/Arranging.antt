-- The records inside a set, by their elements: where these change places, so do the records.
use Rattle.std.proofs.Common.{◌≡◌, ℕ, Bool, true, false, List, [], ◌∷◌, ◌++◌, map, length, get_or, set, refl, sym, ap, subst, ◌∙◌, arith}
use Rattle.std.proofs.Math.ListN.{get_or-map}
use Rattle.std.proofs.lemmas.List.{length-map, map-set}
use Rattle.std.proofs.lemmas.List.Elements.{All-cons, All-head, All-map, All-nil, All-tail}
use Rattle.std.proofs.lemmas.List.Sorted.{All-permutation, IsPermutation-append_right, IsPermutation-filter_both, IsPermutation-keeps, IsPermutation-map, IsPermutation-refl, IsPermutation-swap, IsPermutation-sym, IsPermutation-trans}
use Rattle.std.specs.List.{filter, flat_map, swap}
use Rattle.std.specs.Prelude.{All, IsPermutation, IsTrue, cond, not}
use Rattle.asn1_der_items.proofs.RecordElements.{is_element_of_record}
use Rattle.asn1_der_items.specs.Bytes.{HasDer, HaveDer}
use Rattle.asn1_der.specs.Sorting.{AreJoined}
use Rattle.asn1_der_items.specs.Series.{is_one_element}
use Rattle.asn1_model.specs.Records as model
use Rattle.asn1_model.specs.Records.{Record, held, is_presence_mark}

-- a list with two places exchanged, after a map
map-swap : {X Y : Type 0} (f : X → Y) (xs : List X) (i j : ℕ) → map f (swap xs i j) ≡ swap (map f xs) i j
map-swap f [] i j = refl
map-swap f (d ∷ xs) i j =
    let ys = d ∷ xs in
    map-set f (set ys i (get_or ys j d)) j (get_or ys i d)
    ∙ ap (λ l. set l j (f (get_or ys i d))) (map-set f ys i (get_or ys j d) ∙ ap (λ y. set (map f ys) i y) (sym (get_or-map f ys j d)))
    ∙ ap (λ y. set (set (map f ys) i (get_or (map f ys) j (f d))) j y) (sym (get_or-map f ys i d))

-- A rearrangement of the images of a list is the image of a rearrangement.
record IsMovedBelow {X Y : Type 0} (f : X → Y) (xs : List X) (ys : List Y) : Type 0 where
  order : List X
  moved : IsPermutation xs order
  are : map f order ≡ ys

moved_below : {X Y : Type 0} (f : X → Y) (xs : List X) (ys : List Y) → IsPermutation (map f xs) ys → IsMovedBelow f xs ys
moved_below f xs ys moved =
    IsPermutation-keeps
    (map f xs)
    (λ l. IsMovedBelow f xs l)
    (record { order = xs; moved = IsPermutation-refl xs; are = refl })
    (λ l i j in_i in_j so_far.
    let long = ap length so_far.are in
    let as_long = length-map so_far.order f in
    record {
      order = swap so_far.order i j;
      moved = IsPermutation-trans xs so_far.order (swap so_far.order i j) so_far.moved (IsPermutation-swap so_far.order (swap so_far.order i j) i j (omega (arith, in_i, long, as_long)) (omega (arith, in_j, long, as_long)) refl);
      are = map-swap f so_far.order i j ∙ ap (λ m. swap m i j) so_far.are;
    })
    ys
    moved

-- a record with its element
abbrev Pair : Type 0
Pair = Record × List ℕ

-- The record is no presence mark, and the element is its DER.
abbrev IsPair : Pair → Type 0
IsPair p = (is_presence_mark p.0 ≡ false) × HasDer p.0 p.1

-- The records that are no presence marks, each with its element.
record ArePaired (rs : List Record) (bytes : List ℕ) : Type 0 where
  pairs : List Pair
  records : map (λ p. p.0) pairs ≡ filter (λ r. not (is_presence_mark r)) rs
  each : All IsPair pairs
  are : bytes ≡ flat_map (λ e. e) (map (λ p. p.1) pairs)

mark_is_nothing : (r : Record) (own : List ℕ) → is_presence_mark r ≡ true → HasDer r own → own ≡ []
mark_is_nothing (model.scalar t c n x) own mark has = cc
mark_is_nothing (model.scope h rs) own mark has = cc
mark_is_nothing (model.open_type n bytes) own mark has = cc
mark_is_nothing (model.presence_mark m) own mark has = has

paired : (rs : List Record) (bytes : List ℕ) → HaveDer (held rs) bytes → ArePaired rs bytes
paired [] bytes have = record { pairs = []; records = refl; each = All-nil IsPair; are = have }
paired (r ∷ rs) bytes have = by (is_presence_mark r) refl (paired rs have.others have.are_others)
  where
    by : (b : Bool) → is_presence_mark r ≡ b → ArePaired rs have.others → ArePaired (r ∷ rs) bytes
    by true mark later = record {
      pairs = later.pairs;
      records = later.records ∙ sym (ap (λ b. cond (not b) (r ∷ filter (λ q. not (is_presence_mark q)) rs) (filter (λ q. not (is_presence_mark q)) rs)) mark);
      each = later.each;
      are = have.are ∙ ap (λ l. l ++ have.others) (mark_is_nothing r have.first mark have.is_first) ∙ later.are;
    }
    by false no_mark later = record {
      pairs = (r, have.first) ∷ later.pairs;
      records = ap (λ l. r ∷ l) later.records ∙ sym (ap (λ b. cond (not b) (r ∷ filter (λ q. not (is_presence_mark q)) rs) (filter (λ q. not (is_presence_mark q)) rs)) no_mark);
      each = All-cons IsPair (r, have.first) later.pairs (no_mark, have.is_first) later.each;
      are = have.are ∙ ap (λ l. have.first ++ l) later.are;
    }

-- the bytes of pairs are the DER of their records
pairs_have_der : (pairs : List Pair) → All IsPair pairs → HaveDer (held (map (λ p. p.0) pairs)) (flat_map (λ e. e) (map (λ p. p.1) pairs))
pairs_have_der [] each = refl
pairs_have_der (p ∷ pairs) each = record {
  first = p.1;
  others = flat_map (λ e. e) (map (λ q. q.1) pairs);
  is_first = (All-head IsPair p pairs each).1;
  are_others = pairs_have_der pairs (All-tail IsPair p pairs each);
  are = refl;
}

-- marks in front have no bytes
marks_first : (rs others : List Record) (bytes : List ℕ) → HaveDer (held others) bytes → HaveDer (held (filter is_presence_mark rs ++ others)) bytes
marks_first [] others bytes have = have
marks_first (model.scalar t c n x ∷ rs) others bytes have = marks_first rs others bytes have
marks_first (model.scope h inner ∷ rs) others bytes have = marks_first rs others bytes have
marks_first (model.open_type n own ∷ rs) others bytes have = marks_first rs others bytes have
marks_first (model.presence_mark m ∷ rs) others bytes have = record { first = []; others = bytes; is_first = refl; are_others = marks_first rs others bytes have; are = refl }

-- The records in the order of these elements.
pub record AreRearranged (rs : List Record) (sorted : List (List ℕ)) : Type 0 where
  pub order : List Record
  pub moved : IsPermutation order rs
  pub have_der : HaveDer (held order) (flat_map (λ e. e) sorted)

-- The elements inside a set, by whose order the records can be rearranged.
pub record CanBeRearranged (rs : List Record) (inside : List ℕ) : Type 0 where
  pub elements : List (List ℕ)
  pub joined : AreJoined elements inside
  pub rearranged : (sorted : List (List ℕ)) → IsPermutation elements sorted → AreRearranged rs sorted

pub can_be_rearranged : (rs : List Record) (inside : List ℕ) → HaveDer (held rs) inside → CanBeRearranged rs inside
can_be_rearranged rs inside have =
    let p = paired rs inside have in
    let marks = filter is_presence_mark rs in
    let others = filter (λ r. not (is_presence_mark r)) rs in
    record {
      elements = map (λ q. q.1) p.pairs;
      joined = record {
        each = All-map (λ e. IsTrue (is_one_element e)) (λ (q : Pair). q.1) p.pairs (λ k d in_k. let q = p.each k d in_k in (is_element_of_record _ _ q.0 q.1).one);
        are = p.are;
      };
      rearranged = λ sorted moved.
          let below = moved_below (λ (q : Pair). q.1) p.pairs sorted moved in
          let order = map (λ (q : Pair). q.0) below.order in
          let apart : IsPermutation rs (marks ++ others) = IsPermutation-filter_both is_presence_mark (λ r. not (is_presence_mark r)) (λ r. refl) rs in
          let turned : IsPermutation (marks ++ others) (marks ++ order) =
          IsPermutation-append_right marks others order (subst (λ l. IsPermutation l order) p.records (IsPermutation-map (λ (q : Pair). q.0) p.pairs below.order below.moved)) in
          let each = All-permutation IsPair p.pairs below.order below.moved p.each in
          record {
            order = marks ++ order;
            moved = IsPermutation-sym rs (marks ++ order) (IsPermutation-trans rs (marks ++ others) (marks ++ order) apart turned);
            have_der = subst (λ l. HaveDer (held (marks ++ order)) (flat_map (λ e. e) l)) below.are (marks_first rs order _ (pairs_have_der below.order each));
          };
    }
