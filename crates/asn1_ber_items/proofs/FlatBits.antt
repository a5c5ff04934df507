-- Pieces of a bit string, header after header: inside a constructed piece the next header follows its own.
use Rattle.std.proofs.Common.{◌≡◌, ◌≢◌, ℕ, ◌<◌, Bool, true, false, List, [], ◌∷◌, ◌++◌, append-nil, append_assoc, None, Some, refl, ap, sym, subst, ◌∙◌, arith}
use Rattle.std.specs.Prelude.{Err, IfOk, MatchResult, Ok, Result, Vec}
use Rattle.std.specs.declared.alloc.Global.{Global}
use Rattle.asn1_items.specs.declared.error.ItemError.{ItemError}
use Rattle.asn1_items.specs.declared.error.ItemError.TheVariants.{Memory}
use Rattle.asn1_tags.specs.declared.tags.Tag.{Tag}
use Rattle.asn1_der_items.specs.Elements.{IsElement}
use Rattle.asn1_ber_items.specs.Headers.{Header, header_at}
use Rattle.asn1_ber_items.specs.Pieces.{AreBitPieces, ArePiecesOfBits, BIT_STRING, HaveUnused, bit_pieces_first, bit_pieces_last, bits_first, bits_last, no_bits}
use Rattle.asn1_ber_items.specs.Spellings.{IsDefinite, Spells, definite, indefinite, nothing, primitive}
use Rattle.asn1_ber_items.proofs.FlatOctets.{IsPiece, contents_before, element_definite, element_piece, is_piece, piece_before, piece_header}
use Rattle.asn1_ber_items.proofs.Headers.{element_header, header_before}
use Rattle.asn1_ber_items.proofs.Splits.{one_extent}

-- The bytes are pieces, header after header; these are their octets, and this many bits of the last octet are unused.
pub data FlatBits : List ℕ → ℕ → List ℕ → Type 0 where
  no_header : FlatBits [] 0 []
  last_bits : (bytes octets : List ℕ) (unused : ℕ) (h : Header) → IsPiece BIT_STRING false h bytes → IsDefinite h (unused ∷ octets) [] → HaveUnused unused octets → FlatBits bytes unused octets
  bits_next : (bytes octets rest later : List ℕ) (unused : ℕ) (h : Header) → IsPiece BIT_STRING false h bytes → IsDefinite h (0 ∷ octets) rest → FlatBits rest unused later → FlatBits bytes unused (octets ++ later)
  header_next : (bytes later : List ℕ) (unused : ℕ) (h : Header) → IsPiece BIT_STRING true h bytes → FlatBits h.rest unused later → FlatBits bytes unused later

flat_append : (bytes octets more end : List ℕ) (none unused : ℕ) → none ≡ 0 → FlatBits bytes none octets → FlatBits more unused end → FlatBits (bytes ++ more) unused (octets ++ end)
flat_append _ _ more end _ unused is_zero no_header second = second
flat_append _ _ more end _ unused is_zero (last_bits bytes octets none h piece is have) second =
    bits_next (bytes ++ more) octets more end unused (header_before h more) (piece_before BIT_STRING false h bytes more piece)
    (subst (λ n. IsDefinite (header_before h more) (n ∷ octets) more) is_zero (contents_before h (none ∷ octets) [] more is)) second
flat_append _ _ more end _ unused is_zero (bits_next bytes octets rest later none h piece is flat) second =
    subst (λ l. FlatBits (bytes ++ more) unused l) (sym (append_assoc octets later end))
    (bits_next (bytes ++ more) octets (rest ++ more) (later ++ end) unused (header_before h more) (piece_before BIT_STRING false h bytes more piece) (contents_before h (0 ∷ octets) rest more is)
    (flat_append rest later more end none unused is_zero flat second))
flat_append _ _ more end _ unused is_zero (header_next bytes later none h piece flat) second =
    header_next (bytes ++ more) (later ++ end) unused (header_before h more) (piece_before BIT_STRING true h bytes more piece) (flat_append h.rest later more end none unused is_zero flat second)

-- an element of DER alone
alone_piece : (constructed : Bool) (contents own : List ℕ) → IsElement BIT_STRING constructed contents own → IsPiece BIT_STRING constructed (piece_header BIT_STRING constructed contents []) own
alone_piece constructed contents own element = subst (λ l. IsPiece BIT_STRING constructed (piece_header BIT_STRING constructed contents []) l) (append-nil own) (element_piece BIT_STRING constructed contents own [] element)

pub flat : (contents octets : List ℕ) (unused : ℕ) → AreBitPieces contents unused octets → FlatBits contents unused octets
flat _ _ _ no_bits = no_header
flat _ _ _ (bits_last unused octets own element have) =
    last_bits own octets unused (piece_header BIT_STRING false (unused ∷ octets) []) (alone_piece false (unused ∷ octets) own element) (element_definite BIT_STRING false (unused ∷ octets) []) have
flat _ _ _ (bit_pieces_last unused inside octets own element held) =
    header_next own octets unused (piece_header BIT_STRING true inside []) (alone_piece true inside own element)
    (subst (λ l. FlatBits l unused octets) (sym (append-nil inside)) (flat inside octets unused held))
flat _ _ _ (bits_first unused octets own others later element pieces) =
    bits_next (own ++ others) octets others later unused (piece_header BIT_STRING false (0 ∷ octets) others) (element_piece BIT_STRING false (0 ∷ octets) own others element)
    (element_definite BIT_STRING false (0 ∷ octets) others) (flat others later unused pieces)
flat _ _ _ (bit_pieces_first unused inside octets own others later element held pieces) =
    header_next (own ++ others) (octets ++ later) unused (piece_header BIT_STRING true inside others) (element_piece BIT_STRING true inside own others element)
    (flat_append inside octets others later 0 unused refl (flat inside octets 0 held) (flat others later unused pieces))

-- What follows the header with which such bytes begin.
pub data NextBits (h : Header) (unused : ℕ) (octets : List ℕ) : Type 0 where
  are_last : h.tag ≡ BIT_STRING → h.constructed ≡ false → IsDefinite h (unused ∷ octets) [] → HaveUnused unused octets → NextBits h unused octets
  are_bits : (first rest later : List ℕ) → h.tag ≡ BIT_STRING → h.constructed ≡ false → IsDefinite h (0 ∷ first) rest → FlatBits rest unused later → octets ≡ first ++ later → NextBits h unused octets
  is_header : h.tag ≡ BIT_STRING → h.constructed ≡ true → FlatBits h.rest unused octets → NextBits h unused octets

pub next : (bytes octets : List ℕ) (unused : ℕ) (h : Header) → FlatBits bytes unused octets → header_at bytes ≡ Some h → NextBits h unused octets
next _ _ _ h no_header at = let e : None ≡ Some h = at in cc
next _ _ _ h (last_bits bytes octets unused g piece is have) at =
    let same = is_piece BIT_STRING false h g bytes at piece in
    are_last (ap (λ (i : Header). i.tag) (sym same) ∙ piece.tag) (ap (λ (i : Header). i.constructed) (sym same) ∙ piece.form) (subst (λ (i : Header). IsDefinite i (unused ∷ octets) []) same is) have
next _ _ _ h (bits_next bytes octets rest later unused g piece is flat) at =
    let same = is_piece BIT_STRING false h g bytes at piece in
    are_bits octets rest later (ap (λ (i : Header). i.tag) (sym same) ∙ piece.tag) (ap (λ (i : Header). i.constructed) (sym same) ∙ piece.form)
    (subst (λ (i : Header). IsDefinite i (0 ∷ octets) rest) same is) flat refl
next _ _ _ h (header_next bytes later unused g piece flat) at =
    let same = is_piece BIT_STRING true h g bytes at piece in
    is_header (ap (λ (i : Header). i.tag) (sym same) ∙ piece.tag) (ap (λ (i : Header). i.constructed) (sym same) ∙ piece.form) (subst (λ (i : Header). FlatBits i.rest unused later) same flat)

-- no header is left at the end, and some header where bytes are left
record IsNone (unused : ℕ) (octets : List ℕ) : Type 0 where
  pub unused_is : unused ≡ 0
  pub octets_are : octets ≡ []

flat_end : (bytes octets : List ℕ) (unused : ℕ) → FlatBits bytes unused octets → bytes ≡ [] → IsNone unused octets
flat_end _ _ _ no_header none = record { unused_is = refl; octets_are = refl }
flat_end _ _ _ (last_bits bytes octets unused h piece is have) none = let e : None ≡ Some h = sym (ap header_at none) ∙ piece.at in cc
flat_end _ _ _ (bits_next bytes octets rest later unused h piece is flat) none = let e : None ≡ Some h = sym (ap header_at none) ∙ piece.at in cc
flat_end _ _ _ (header_next bytes later unused h piece flat) none = let e : None ≡ Some h = sym (ap header_at none) ∙ piece.at in cc

some_header : (bytes octets : List ℕ) (unused : ℕ) → FlatBits bytes unused octets → bytes ≢ [] → (h : Header) × (header_at bytes ≡ Some h)
some_header _ _ _ no_header some = absurd (some refl)
some_header _ _ _ (last_bits bytes octets unused h piece is have) some = (h, piece.at)
some_header _ _ _ (bits_next bytes octets rest later unused h piece is flat) some = (h, piece.at)
some_header _ _ _ (header_next bytes later unused h piece flat) some = (h, piece.at)

-- Of such bytes, of which the first are a normal form, the first are all pieces that there are; or they are pieces of whole octets, and
-- others follow.
pub data IsNested (whole more : List ℕ) (unused : ℕ) (octets : List ℕ) : Type 0 where
  all_there : more ≡ [] → AreBitPieces whole unused octets → IsNested whole more unused octets
  some_there : (own later : List ℕ) → AreBitPieces whole 0 own → FlatBits more unused later → octets ≡ own ++ later → IsNested whole more unused octets

both_none : (xs ys : List ℕ) → xs ++ ys ≡ [] → (xs ≡ []) × (ys ≡ [])
both_none [] ys e = (refl, e)
both_none (x ∷ xs) ys e = cc

-- a primitive element, and others after it
module _ (contents own others more octets : List ℕ) (unused : ℕ) (t : Tag) (element : IsElement t false contents own) where
  pub after_bits : NextBits (piece_header t false contents (others ++ more)) unused octets → ((later : List ℕ) → FlatBits (others ++ more) unused later → IsNested others more unused later) → IsNested (own ++ others) more unused octets
  after_bits (is_header tag form f) rest = let e : false ≡ true = form in cc
  after_bits (are_last tag form it have) rest =
      let same = one_extent (piece_header t false contents (others ++ more)) (unused ∷ octets) [] contents (others ++ more) it (element_definite t false contents (others ++ more)) in
      let none = both_none others more (sym same.back_is) in
      let its : IsElement BIT_STRING false (unused ∷ octets) own = subst (λ l. IsElement BIT_STRING false l own) (sym same.contents_are) (subst (λ u. IsElement u false contents own) tag element) in
      all_there none.1 (subst (λ l. AreBitPieces l unused octets) (sym (append-nil own) ∙ ap (λ l. own ++ l) (sym none.0)) (bits_last unused octets own its have))
  after_bits (are_bits first last later tag form it f are) rest =
      let same = one_extent (piece_header t false contents (others ++ more)) (0 ∷ first) last contents (others ++ more) it (element_definite t false contents (others ++ more)) in
      let its : IsElement BIT_STRING false (0 ∷ first) own = subst (λ l. IsElement BIT_STRING false l own) (sym same.contents_are) (subst (λ u. IsElement u false contents own) tag element) in
      by its (rest later (subst (λ l. FlatBits l unused later) same.back_is f))
    where
      by : IsElement BIT_STRING false (0 ∷ first) own → IsNested others more unused later → IsNested (own ++ others) more unused octets
      by its (all_there none pieces) = all_there none (subst (λ l. AreBitPieces (own ++ others) unused l) (sym are) (bits_first unused first own others later its pieces))
      by its (some_there mine end pieces flat joined) =
          some_there (first ++ mine) end (bits_first 0 first own others mine its pieces) flat (are ∙ ap (λ l. first ++ l) joined ∙ sym (append_assoc first mine end))

-- a constructed element, and others after it
module _ (inside own others more octets : List ℕ) (unused : ℕ) (t : Tag) (element : IsElement t true inside own) where
  pub after_pieces : NextBits (piece_header t true inside (others ++ more)) unused octets → (FlatBits (inside ++ (others ++ more)) unused octets → IsNested inside (others ++ more) unused octets) →
      ((later : List ℕ) → FlatBits (others ++ more) unused later → IsNested others more unused later) → IsNested (own ++ others) more unused octets
  after_pieces (are_last tag form it have) held rest = let e : true ≡ false = form in cc
  after_pieces (are_bits first last later tag form it f are) held rest = let e : true ≡ false = form in cc
  after_pieces (is_header tag form f) held rest = by (held f)
    where
      its : IsElement BIT_STRING true inside own
      its = subst (λ u. IsElement u true inside own) tag element

      with_rest : (mine later : List ℕ) → AreBitPieces inside 0 mine → octets ≡ mine ++ later → IsNested others more unused later → IsNested (own ++ others) more unused octets
      with_rest mine later pieces are (all_there none after) = all_there none (subst (λ l. AreBitPieces (own ++ others) unused l) (sym are) (bit_pieces_first unused inside mine own others later its pieces after))
      with_rest mine later pieces are (some_there first end after flat joined) =
          some_there (mine ++ first) end (bit_pieces_first 0 inside mine own others first its pieces after) flat (are ∙ ap (λ l. mine ++ l) joined ∙ sym (append_assoc mine first end))

      by : IsNested inside (others ++ more) unused octets → IsNested (own ++ others) more unused octets
      by (all_there none pieces) =
          let n = both_none others more none in
          all_there n.1 (subst (λ l. AreBitPieces l unused octets) (sym (append-nil own) ∙ ap (λ l. own ++ l) (sym n.0)) (bit_pieces_last unused inside octets own its pieces))
      by (some_there mine later pieces flat are) = with_rest mine later pieces are (rest later flat)

nested : (bytes whole rest more octets : List ℕ) (unused : ℕ) → Spells bytes whole rest → FlatBits (whole ++ more) unused octets → IsNested whole more unused octets
nested _ _ _ more octets unused (nothing bytes) f = some_there [] octets no_bits f refl
nested _ _ _ more octets unused (primitive bytes contents own back others rest h begin is element spells) f =
    after_bits contents own others more octets unused h.tag element
    (next (own ++ (others ++ more)) octets unused (piece_header h.tag false contents (others ++ more)) (subst (λ l. FlatBits l unused octets) (append_assoc own others more) f) (element_header h.tag false contents own (others ++ more) element))
    (λ later flat. nested back others rest more later unused spells flat)
nested _ _ _ more octets unused (definite bytes contents inside own back others rest h begin is inner element spells) f =
    after_pieces inside own others more octets unused h.tag element
    (next (own ++ (others ++ more)) octets unused (piece_header h.tag true inside (others ++ more)) (subst (λ l. FlatBits l unused octets) (append_assoc own others more) f) (element_header h.tag true inside own (others ++ more) element))
    (λ flat. nested contents inside [] (others ++ more) octets unused inner flat)
    (λ later flat. nested back others rest more later unused spells flat)
nested _ _ _ more octets unused (indefinite bytes inside own back others rest h begin none inner element spells) f =
    after_pieces inside own others more octets unused h.tag element
    (next (own ++ (others ++ more)) octets unused (piece_header h.tag true inside (others ++ more)) (subst (λ l. FlatBits l unused octets) (append_assoc own others more) f) (element_header h.tag true inside own (others ++ more) element))
    (λ flat. nested h.rest inside (0 ∷ 0 ∷ back) (others ++ more) octets unused inner flat)
    (λ later flat. nested back others rest more later unused spells flat)

-- What is left of some bytes, and the octets that were read before it, behind how many bits are unused so far.
pub record AreReadBits (bytes left written : List ℕ) : Type 0 where
  pub octets : List ℕ
  pub are : written ≡ 0 ∷ octets
  pub ahead : (unused : ℕ) (whole : List ℕ) → FlatBits bytes unused whole → (later : List ℕ) × (FlatBits left unused later × (whole ≡ octets ++ later))
  pub behind : (unused : ℕ) (later : List ℕ) → FlatBits left unused later → FlatBits bytes unused (octets ++ later)

pub read_none : (bytes written : List ℕ) → written ≡ 0 ∷ [] → AreReadBits bytes bytes written
read_none bytes written are = record { octets = []; are = are; ahead = λ unused whole f. (whole, (f, refl)); behind = λ unused later f. f }

-- a primitive piece of whole octets
pub read_bits : (bytes left written new first rest : List ℕ) (h : Header) → IsPiece BIT_STRING false h left → IsDefinite h (0 ∷ first) rest → new ≡ written ++ first → AreReadBits bytes left written → AreReadBits bytes rest new
read_bits bytes left written new first rest h piece is joined r = record {
  octets = r.octets ++ first;
  are = joined ∙ ap (λ l. l ++ first) r.are;
  ahead = λ unused whole f. (let a = r.ahead unused whole f in by unused whole a.0 a.1.1 (next left a.0 unused h a.1.0 piece.at));
  behind = λ unused later f. subst (λ l. FlatBits bytes unused l) (sym (append_assoc r.octets first later)) (r.behind unused (first ++ later) (bits_next left first rest later unused h piece is f));
}
  where
    tail_is : (n m : ℕ) (xs ys : List ℕ) → n ∷ xs ≡ m ∷ ys → (n ≡ m) × (xs ≡ ys)
    tail_is n m xs ys e = (cc, cc)

    by : (unused : ℕ) (whole later : List ℕ) → whole ≡ r.octets ++ later → NextBits h unused later → (end : List ℕ) × (FlatBits rest unused end × (whole ≡ (r.octets ++ first) ++ end))
    by unused whole later are (is_header tag form f) = let e : false ≡ true = sym piece.form ∙ form in cc
    by unused whole later are (are_last tag form it have) =
        let same = one_extent h (unused ∷ later) [] (0 ∷ first) rest it is in
        let parts = tail_is unused 0 later first same.contents_are in (
          [],
          (
            subst (λ n. FlatBits rest n []) (sym parts.0) (subst (λ l. FlatBits l 0 []) same.back_is no_header),
            are ∙ ap (λ l. r.octets ++ l) parts.1 ∙ sym (append-nil (r.octets ++ first)),
          ),
        )
    by unused whole later are (are_bits other last end tag form it f joined) =
        let same = one_extent h (0 ∷ other) last (0 ∷ first) rest it is in
        let parts = tail_is 0 0 other first same.contents_are in (
          end,
          (subst (λ l. FlatBits l unused end) same.back_is f, are ∙ ap (λ l. r.octets ++ l) (joined ∙ ap (λ l. l ++ end) parts.1) ∙ sym (append_assoc r.octets first end)),
        )

pub read_header : (bytes left written : List ℕ) (h : Header) → IsPiece BIT_STRING true h left → AreReadBits bytes left written → AreReadBits bytes h.rest written
read_header bytes left written h piece r = record {
  octets = r.octets;
  are = r.are;
  ahead = λ unused whole f. (let a = r.ahead unused whole f in by unused whole a.0 a.1.1 (next left a.0 unused h a.1.0 piece.at));
  behind = λ unused later f. r.behind unused later (header_next left later unused h piece f);
}
  where
    by : (unused : ℕ) (whole later : List ℕ) → whole ≡ r.octets ++ later → NextBits h unused later → (end : List ℕ) × (FlatBits h.rest unused end × (whole ≡ r.octets ++ end))
    by unused whole later are (is_header tag form f) = (later, (f, are))
    by unused whole later are (are_last tag form it have) = let e : true ≡ false = sym piece.form ∙ form in cc
    by unused whole later are (are_bits first last end tag form it f joined) = let e : true ≡ false = sym piece.form ∙ form in cc

-- where bytes are left of pieces, the next header is one of a piece
pub left_header : (bytes left written octets : List ℕ) (unused : ℕ) → left ≢ [] → AreReadBits bytes left written → AreBitPieces bytes unused octets → (h : Header) × (header_at left ≡ Some h)
left_header bytes left written octets unused some r pieces =
    let a = r.ahead unused octets (flat bytes octets unused pieces) in some_header left a.0 unused a.1.0 some

pub left_next : (bytes left written octets : List ℕ) (unused : ℕ) (h : Header) → header_at left ≡ Some h → (r : AreReadBits bytes left written) → AreBitPieces bytes unused octets → (later : List ℕ) × (NextBits h unused later × (octets ≡ r.octets ++ later))
left_next bytes left written octets unused h at r pieces =
    let a = r.ahead unused octets (flat bytes octets unused pieces) in (a.0, (next left a.0 unused h a.1.0 at, a.1.1))

pub left_tag : (bytes left written octets : List ℕ) (unused : ℕ) (h : Header) → header_at left ≡ Some h → AreReadBits bytes left written → AreBitPieces bytes unused octets → h.tag ≡ BIT_STRING
left_tag bytes left written octets unused h at r pieces = let n = left_next bytes left written octets unused h at r pieces in by n.0 n.1.0
  where
    by : (later : List ℕ) → NextBits h unused later → h.tag ≡ BIT_STRING
    by later (is_header tag form f) = tag
    by later (are_last tag form it have) = tag
    by later (are_bits first last end tag form it f joined) = tag

-- What a primitive piece is: the last, or one of whole octets.
pub data IsBitsHere (unused : ℕ) (octets read contents rest : List ℕ) : Type 0 where
  is_last : (own : List ℕ) → contents ≡ unused ∷ own → rest ≡ [] → HaveUnused unused own → octets ≡ read ++ own → IsBitsHere unused octets read contents rest
  is_whole : (own : List ℕ) → contents ≡ 0 ∷ own → IsBitsHere unused octets read contents rest

pub left_contents : (bytes left written octets : List ℕ) (unused : ℕ) (h : Header) → header_at left ≡ Some h → h.constructed ≡ false → AreReadBits bytes left written → AreBitPieces bytes unused octets →
    (contents : List ℕ) × ((rest : List ℕ) × IsDefinite h contents rest)
left_contents bytes left written octets unused h at plain r pieces = let n = left_next bytes left written octets unused h at r pieces in by n.0 n.1.0
  where
    by : (later : List ℕ) → NextBits h unused later → (contents : List ℕ) × ((rest : List ℕ) × IsDefinite h contents rest)
    by later (is_header tag form f) = let e : true ≡ false = sym form ∙ plain in cc
    by later (are_last tag form it have) = (unused ∷ later, ([], it))
    by later (are_bits first last end tag form it f joined) = (0 ∷ first, (last, it))

pub bits_here : (bytes left written octets contents rest : List ℕ) (unused : ℕ) (h : Header) → header_at left ≡ Some h → h.constructed ≡ false → IsDefinite h contents rest → (r : AreReadBits bytes left written) →
    AreBitPieces bytes unused octets → IsBitsHere unused octets r.octets contents rest
bits_here bytes left written octets contents rest unused h at plain is r pieces = let n = left_next bytes left written octets unused h at r pieces in by n.0 n.1.0 n.1.1
  where
    by : (later : List ℕ) → NextBits h unused later → octets ≡ r.octets ++ later → IsBitsHere unused octets r.octets contents rest
    by later (is_header tag form f) are = let e : true ≡ false = sym form ∙ plain in cc
    by later (are_last tag form it have) are = let same = one_extent h (unused ∷ later) [] contents rest it is in is_last later (sym same.contents_are) (sym same.back_is) have are
    by later (are_bits first last end tag form it f joined) are = let same = one_extent h (0 ∷ first) last contents rest it is in is_whole first (sym same.contents_are)

-- a piece has contents octets
pub some_contents : (octets read contents rest : List ℕ) (unused : ℕ) → IsBitsHere unused octets read contents rest → contents ≡ [] → ⊥
some_contents octets read contents rest unused (is_last own are none have joined) empty = let e : [] ≡ unused ∷ own = sym empty ∙ are in cc
some_contents octets read contents rest unused (is_whole own are) empty = let e : [] ≡ 0 ∷ own = sym empty ∙ are in cc

-- A piece with unused bits is the last.
pub record IsLastHere (unused first : ℕ) (octets read own rest : List ℕ) : Type 0 where
  pub unused_is : first ≡ unused
  pub none : rest ≡ []
  pub have : HaveUnused first own
  pub joined : octets ≡ read ++ own

pub last_here : (octets read own rest : List ℕ) (unused first : ℕ) → 0 < first → IsBitsHere unused octets read (first ∷ own) rest → IsLastHere unused first octets read own rest
last_here octets read own rest unused first some (is_last other are none have joined) =
    let same : first ≡ unused = cc in
    let later : own ≡ other = cc in
    record { unused_is = same; none = none; have = subst (λ n. HaveUnused n own) (sym same) (subst (HaveUnused unused) (sym later) have); joined = joined ∙ ap (λ l. read ++ l) (sym later) }
last_here octets read own rest unused first some (is_whole other are) =
    let zero : first ≡ 0 = cc in
    let none : ⊥ = omega (arith, some, zero) in
    absurd none

-- where none is left, all bits were read
pub read_all : (bytes left written octets : List ℕ) (unused : ℕ) → left ≡ [] → AreReadBits bytes left written → AreBitPieces bytes unused octets → written ≡ unused ∷ octets
read_all bytes left written octets unused none r pieces =
    let a = r.ahead unused octets (flat bytes octets unused pieces) in
    let n = flat_end left a.0 unused a.1.0 none in
    r.are ∙ ap (λ u. u ∷ r.octets) (sym n.unused_is) ∙ ap (λ l. unused ∷ l) (sym (append-nil r.octets) ∙ ap (λ l. r.octets ++ l) (sym n.octets_are) ∙ sym a.1.1)

-- what was read is of pieces, if the bytes are a normal form
pub nested_whole : (spelling bytes rest octets : List ℕ) (unused : ℕ) → Spells spelling bytes rest → FlatBits bytes unused octets → AreBitPieces bytes unused octets
nested_whole spelling bytes rest octets unused spells f = by (nested spelling bytes rest [] octets unused spells (subst (λ l. FlatBits l unused octets) (sym (append-nil bytes)) f))
  where
    by : IsNested bytes [] unused octets → AreBitPieces bytes unused octets
    by (all_there none pieces) = pieces
    by (some_there own later pieces flat are) =
        let n = flat_end [] later unused flat refl in
        subst (λ u. AreBitPieces bytes u octets) (sym n.unused_is) (subst (λ l. AreBitPieces bytes 0 l) (sym (append-nil own) ∙ ap (λ l. own ++ l) (sym n.octets_are) ∙ sym are) pieces)

pub read_only : (spelling bytes rest left written : List ℕ) → left ≡ [] → AreReadBits bytes left written → Spells spelling bytes rest → ArePiecesOfBits bytes written
read_only spelling bytes rest left written none r spells = record {
  unused = 0;
  octets = r.octets;
  are = r.are;
  pieces = nested_whole spelling bytes rest r.octets 0 spells
      (subst (λ l. FlatBits bytes 0 l) (append-nil r.octets) (r.behind 0 [] (subst (λ l. FlatBits l 0 []) (sym none) no_header)));
}

-- a last piece
pub read_last : (spelling bytes rest left written octets new : List ℕ) (unused : ℕ) (h : Header) → IsPiece BIT_STRING false h left → IsDefinite h (unused ∷ octets) [] → HaveUnused unused octets →
    (r : AreReadBits bytes left written) → new ≡ unused ∷ (r.octets ++ octets) → Spells spelling bytes rest → ArePiecesOfBits bytes new
read_last spelling bytes rest left written octets new unused h piece is have r are spells = record {
  unused = unused;
  octets = r.octets ++ octets;
  are = are;
  pieces = nested_whole spelling bytes rest (r.octets ++ octets) unused spells (r.behind unused octets (last_bits left octets unused h piece is have));
}

-- the answer for the last piece
pub last_found : (result : Result (Vec ℕ Global) ItemError) (octets read own rest : List ℕ) (unused first : ℕ) → IsLastHere unused first octets read own rest →
    MatchResult result (λ v. (v.items ≡ first ∷ (read ++ own)) × HaveUnused first own) (λ e. HaveUnused first own → e ≡ Memory) → MatchResult result (λ v. v.items ≡ unused ∷ octets) (λ e. e ≡ Memory)
last_found (Ok v) octets read own rest unused first last answer = answer.0 ∙ ap (λ n. n ∷ (read ++ own)) last.unused_is ∙ ap (λ l. unused ∷ l) (sym last.joined)
last_found (Err e) octets read own rest unused first last answer = answer last.have

pub last_only : (result : Result (Vec ℕ Global) ItemError) (spelling bytes rest left written own : List ℕ) (first : ℕ) (h : Header) → IsPiece BIT_STRING false h left → IsDefinite h (first ∷ own) [] →
    (r : AreReadBits bytes left written) → Spells spelling bytes rest →
    MatchResult result (λ v. (v.items ≡ first ∷ (r.octets ++ own)) × HaveUnused first own) (λ e. HaveUnused first own → e ≡ Memory) → IfOk result (λ v. ArePiecesOfBits bytes v.items)
last_only (Ok v) spelling bytes rest left written own first h piece is r spells answer = read_last spelling bytes rest left written own v.items first h piece is answer.1 r answer.0 spells
last_only (Err e) spelling bytes rest left written own first h piece is r spells answer = tt
