-- The elements of a SET or a SET OF have an ascending order.
use Rattle.std.proofs.Common.{◌≡◌, ℕ, Bool, true, false, List, [], ◌∷◌, ◌++◌, refl, sym, ap, subst, ◌∙◌}
use Rattle.std.proofs.lemmas.List.Elements.{All-cons, All-nil}
use Rattle.std.proofs.lemmas.List.Sorted.{IsPermutation-append_right, IsPermutation-cons, IsPermutation-map, IsPermutation-middle, IsPermutation-refl, IsPermutation-sym, IsPermutation-trans}
use Rattle.std.specs.Int.Digits.{AllBelowBase}
use Rattle.std.specs.List.{flat_map}
use Rattle.std.specs.Prelude.{All, IsPermutation, IsSortedBy, IsTrue, map}
use Rattle.asn1_model.specs.Records.{Record, held, is_presence_mark}
use Rattle.asn1_der_items.specs.Bytes.{HasDer, HaveDer}
use Rattle.asn1_der_items.specs.Series.{AreElements, is_one_element}
use Rattle.asn1_der_items.proofs.OneContents.{below_first, below_later}
use Rattle.asn1_der_items.proofs.SomeEncoding.{below_both}
use Rattle.asn1_der_items.proofs.RecordElements.{mark_bytes, no_first, no_later, is_element_of_record}
use Rattle.asn1_der_items.proofs.Sorting.{ascending_map, sorted, sorted_by}

-- A record that is no presence mark, and its element.
pub record Piece : Type 0 where
  pub item : Record
  pub bytes : List ℕ
  pub der : HasDer item bytes
  pub one : is_one_element bytes ≡ true
  pub are_octets : AllBelowBase 256 bytes

-- the records, and the bytes of all
abbrev pub items : List Piece → List Record
items ps = map (λ p. p.item) ps

abbrev pub joined : List Piece → List ℕ
joined ps = flat_map (λ p. p.bytes) ps

-- Records and their bytes: presence marks, and the others with their elements.
pub record Parted (rs : List Record) (bytes : List ℕ) : Type 0 where
  pub marks : List Record
  pub pieces : List Piece
  pub no_bytes : HaveDer (held marks) []
  pub permutation : IsPermutation rs (marks ++ items pieces)
  pub are : bytes ≡ joined pieces

pub parted : (rs : List Record) (bytes : List ℕ) → AllBelowBase 256 bytes → HaveDer (held rs) bytes → Parted rs bytes
parted [] bytes below d = record { marks = []; pieces = []; no_bytes = refl; permutation = IsPermutation-refl []; are = d }
parted (r ∷ rs) bytes below d = by (is_presence_mark r) refl (parted rs d.others (below_later 256 d.first d.others low) d.are_others)
  where
    low : AllBelowBase 256 (d.first ++ d.others)
    low = subst (AllBelowBase 256) d.are below

    by : (m : Bool) → is_presence_mark r ≡ m → Parted rs d.others → Parted (r ∷ rs) bytes
    by true mark p =
        let empty = mark_bytes r d.first mark d.is_first in
        record {
          marks = r ∷ p.marks;
          pieces = p.pieces;
          no_bytes = record { first = []; others = []; is_first = subst (HasDer r) empty d.is_first; are_others = p.no_bytes; are = refl };
          permutation = IsPermutation-cons r rs (p.marks ++ items p.pieces) p.permutation;
          are = d.are ∙ ap (λ l. l ++ d.others) empty ∙ p.are;
        }
    by false no_mark p = record {
      marks = p.marks;
      pieces = record { item = r; bytes = d.first; der = d.is_first; one = (is_element_of_record r d.first no_mark d.is_first).one; are_octets = below_first 256 d.first d.others low } ∷ p.pieces;
      no_bytes = p.no_bytes;
      permutation = IsPermutation-trans (r ∷ rs) (r ∷ (p.marks ++ items p.pieces)) (p.marks ++ r ∷ items p.pieces) (IsPermutation-cons r rs (p.marks ++ items p.pieces) p.permutation) (IsPermutation-sym (p.marks ++ r ∷ items p.pieces) (r ∷ (p.marks ++ items p.pieces)) (IsPermutation-middle p.marks r (items p.pieces)));
      are = d.are ∙ ap (λ l. d.first ++ l) p.are;
    }

-- and back
pieces_der : (ps : List Piece) → HaveDer (held (items ps)) (joined ps)
pieces_der [] = refl
pieces_der (p ∷ ps) = record { first = p.bytes; others = joined ps; is_first = p.der; are_others = pieces_der ps; are = refl }

pub after_marks : (marks rs : List Record) (bytes : List ℕ) → HaveDer (held marks) [] → HaveDer (held rs) bytes → HaveDer (held (marks ++ rs)) bytes
after_marks [] rs bytes d later = later
after_marks (m ∷ marks) rs bytes d later =
    let first = no_first d.first d.others (sym d.are) in
    let others = no_later d.first d.others (sym d.are) in
    record { first = []; others = bytes; is_first = subst (HasDer m) first d.is_first; are_others = after_marks marks rs bytes (subst (HaveDer (held marks)) others d.are_others) later; are = refl }

octets_joined : (ps : List Piece) → AllBelowBase 256 (joined ps)
octets_joined [] = tt
octets_joined (p ∷ ps) = below_both p.bytes (joined ps) p.are_octets (octets_joined ps)

each_one : (ps : List Piece) → All (λ e. IsTrue (is_one_element e)) (map (λ p. p.bytes) ps)
each_one [] = All-nil (λ e. IsTrue (is_one_element e))
each_one (p ∷ ps) = All-cons (λ e. IsTrue (is_one_element e)) p.bytes (map (λ p. p.bytes) ps) p.one (each_one ps)

joined_is : (ps : List Piece) → joined ps ≡ flat_map (λ e. e) (map (λ p. p.bytes) ps)
joined_is [] = refl
joined_is (p ∷ ps) = ap (λ l. p.bytes ++ l) (joined_is ps)

-- Records and their bytes in another order, in which the elements rise.
pub record Reordered (AreInOrder : List (List ℕ) → Type 0) (rs : List Record) : Type 0 where
  pub all : List Record
  pub bytes : List ℕ
  pub permutation : IsPermutation rs all
  pub der : HaveDer (held all) bytes
  pub in_order : AreElements AreInOrder bytes
  pub are_octets : AllBelowBase 256 bytes

pub reordered : (lt : List ℕ → List ℕ → Bool) → ((x y : List ℕ) → lt x y ≡ true → lt y x ≡ false) → (rs : List Record) (bytes : List ℕ) → AllBelowBase 256 bytes → HaveDer (held rs) bytes → Reordered (IsSortedBy lt) rs
reordered lt asymmetric rs bytes below d =
    let p = parted rs bytes below d in
    let s = sorted (λ p q. lt p.bytes q.bytes) (λ p q. asymmetric p.bytes q.bytes) p.pieces in
    record {
      all = p.marks ++ items s.all;
      bytes = joined s.all;
      permutation = IsPermutation-trans rs (p.marks ++ items p.pieces) (p.marks ++ items s.all) p.permutation (IsPermutation-append_right p.marks (items p.pieces) (items s.all) (IsPermutation-map (λ p. p.item) p.pieces s.all s.permutation));
      der = after_marks p.marks (items s.all) (joined s.all) p.no_bytes (pieces_der s.all);
      in_order = record { elements = map (λ p. p.bytes) s.all; each = each_one s.all; order = sorted_by lt (map (λ p. p.bytes) s.all) (ascending_map lt (λ p. p.bytes) s.all s.ascends); are = joined_is s.all };
      are_octets = octets_joined s.all;
    }
