-- Pieces of a string of octets, header after header: inside a constructed piece the next header follows its own.
use Rattle.std.proofs.Common.{◌≡◌, ◌≢◌, ℕ, Bool, true, false, List, [], ◌∷◌, ◌++◌, append-nil, append_assoc, None, Some, length, refl, ap, sym, subst, ◌∙◌}
use Rattle.std.specs.Prelude.{◌==◌}
use Rattle.std.proofs.lemmas.Bool.{eqb-true}
use Rattle.std.proofs.lemmas.List.{nil_from_length}
use Rattle.asn1_tags.specs.declared.tags.Tag.{Tag}
use Rattle.asn1_der_items.specs.Elements.{IsElement}
use Rattle.asn1_ber_items.specs.Headers.{Header, header_at}
use Rattle.asn1_ber_items.specs.Pieces.{AreOctetPieces, OCTET_STRING, no_octets, octets_first, octet_pieces_first}
use Rattle.asn1_ber_items.specs.Spellings.{IsDefinite, Spells, definite, indefinite, nothing, primitive}
use Rattle.asn1_ber_items.proofs.Headers.{element_header, header_at-append, header_before}
use Rattle.asn1_ber_items.proofs.Splits.{one_extent}

some_is : {A : Type 0} {x y : A} → Some x ≡ Some y → x ≡ y
some_is e = cc

-- The bytes begin with the header of a piece of this tag and form.
pub record IsPiece (t : Tag) (constructed : Bool) (h : Header) (bytes : List ℕ) : Type 0 where
  pub at : header_at bytes ≡ Some h
  pub tag : h.tag ≡ t
  pub form : h.constructed ≡ constructed

-- the same of the header that the bytes have
pub is_piece : (t : Tag) (constructed : Bool) (g h : Header) (bytes : List ℕ) → header_at bytes ≡ Some g → IsPiece t constructed h bytes → h ≡ g
is_piece t constructed g h bytes at p = some_is (sym p.at ∙ at)

-- trailing bytes
pub piece_before : (t : Tag) (constructed : Bool) (h : Header) (bytes more : List ℕ) → IsPiece t constructed h bytes → IsPiece t constructed (header_before h more) (bytes ++ more)
piece_before t constructed h bytes more p = record { at = header_at-append bytes more h p.at; tag = p.tag; form = p.form }

pub contents_before : (h : Header) (contents rest more : List ℕ) → IsDefinite h contents rest → IsDefinite (header_before h more) contents (rest ++ more)
contents_before h contents rest more is = record { size = is.size; are = ap (λ l. l ++ more) is.are ∙ append_assoc contents rest more }

-- the header of an element of DER
abbrev pub piece_header : Tag → Bool → List ℕ → List ℕ → Header
piece_header t constructed contents back = record { tag = t; constructed = constructed; size = Some (length contents); rest = contents ++ back }

pub element_piece : (t : Tag) (constructed : Bool) (contents own back : List ℕ) → IsElement t constructed contents own → IsPiece t constructed (piece_header t constructed contents back) (own ++ back)
element_piece t constructed contents own back element = record { at = element_header t constructed contents own back element; tag = refl; form = refl }

pub element_definite : (t : Tag) (constructed : Bool) (contents back : List ℕ) → IsDefinite (piece_header t constructed contents back) contents back
element_definite t constructed contents back = record { size = refl; are = refl }

-- The bytes are pieces, header after header, and these are their octets.
pub data FlatOctets : List ℕ → List ℕ → Type 0 where
  no_header : FlatOctets [] []
  octets_next : (bytes contents rest later : List ℕ) (h : Header) → IsPiece OCTET_STRING false h bytes → IsDefinite h contents rest → FlatOctets rest later → FlatOctets bytes (contents ++ later)
  header_next : (bytes later : List ℕ) (h : Header) → IsPiece OCTET_STRING true h bytes → FlatOctets h.rest later → FlatOctets bytes later

flat_append : (bytes octets more end : List ℕ) → FlatOctets bytes octets → FlatOctets more end → FlatOctets (bytes ++ more) (octets ++ end)
flat_append _ _ more end no_header second = second
flat_append _ _ more end (octets_next bytes contents rest later h piece is flat) second =
    subst (λ l. FlatOctets (bytes ++ more) l) (sym (append_assoc contents later end))
    (octets_next (bytes ++ more) contents (rest ++ more) (later ++ end) (header_before h more) (piece_before OCTET_STRING false h bytes more piece) (contents_before h contents rest more is)
    (flat_append rest later more end flat second))
flat_append _ _ more end (header_next bytes later h piece flat) second =
    header_next (bytes ++ more) (later ++ end) (header_before h more) (piece_before OCTET_STRING true h bytes more piece) (flat_append h.rest later more end flat second)

pub flat : (contents octets : List ℕ) → AreOctetPieces contents octets → FlatOctets contents octets
flat _ _ no_octets = no_header
flat _ _ (octets_first octets own others later element pieces) =
    octets_next (own ++ others) octets others later (piece_header OCTET_STRING false octets others) (element_piece OCTET_STRING false octets own others element) (element_definite OCTET_STRING false octets others)
    (flat others later pieces)
flat _ _ (octet_pieces_first inside octets own others later element held pieces) =
    header_next (own ++ others) (octets ++ later) (piece_header OCTET_STRING true inside others) (element_piece OCTET_STRING true inside own others element)
    (flat_append inside octets others later (flat inside octets held) (flat others later pieces))

-- What follows the header with which such bytes begin.
pub data NextOctets (h : Header) (octets : List ℕ) : Type 0 where
  are_octets : (contents rest later : List ℕ) → h.tag ≡ OCTET_STRING → h.constructed ≡ false → IsDefinite h contents rest → FlatOctets rest later → octets ≡ contents ++ later → NextOctets h octets
  is_header : h.tag ≡ OCTET_STRING → h.constructed ≡ true → FlatOctets h.rest octets → NextOctets h octets

pub next : (bytes octets : List ℕ) (h : Header) → FlatOctets bytes octets → header_at bytes ≡ Some h → NextOctets h octets
next _ _ h no_header at = let e : None ≡ Some h = at in cc
next _ _ h (octets_next bytes contents rest later g piece is flat) at =
    let same = is_piece OCTET_STRING false h g bytes at piece in
    are_octets contents rest later (ap (λ (i : Header). i.tag) (sym same) ∙ piece.tag) (ap (λ (i : Header). i.constructed) (sym same) ∙ piece.form)
    (subst (λ (i : Header). IsDefinite i contents rest) same is) flat refl
next _ _ h (header_next bytes later g piece flat) at =
    let same = is_piece OCTET_STRING true h g bytes at piece in
    is_header (ap (λ (i : Header). i.tag) (sym same) ∙ piece.tag) (ap (λ (i : Header). i.constructed) (sym same) ∙ piece.form)
    (subst (λ (i : Header). FlatOctets i.rest later) same flat)

-- no header is left at the end, and some header where bytes are left
flat_end : (bytes octets : List ℕ) → FlatOctets bytes octets → bytes ≡ [] → octets ≡ []
flat_end _ _ no_header none = refl
flat_end _ _ (octets_next bytes contents rest later h piece is flat) none = let e : None ≡ Some h = sym (ap header_at none) ∙ piece.at in cc
flat_end _ _ (header_next bytes later h piece flat) none = let e : None ≡ Some h = sym (ap header_at none) ∙ piece.at in cc

some_header : (bytes octets : List ℕ) → FlatOctets bytes octets → bytes ≢ [] → (h : Header) × (header_at bytes ≡ Some h)
some_header _ _ no_header some = absurd (some refl)
some_header _ _ (octets_next bytes contents rest later h piece is flat) some = (h, piece.at)
some_header _ _ (header_next bytes later h piece flat) some = (h, piece.at)

-- Of such bytes, of which the first are a normal form, the first are pieces.
record IsNested (whole more octets : List ℕ) : Type 0 where
  pub own : List ℕ
  pub later : List ℕ
  pub pieces : AreOctetPieces whole own
  pub flat : FlatOctets more later
  pub are : octets ≡ own ++ later

-- a primitive element, and others after it
module _ (contents own others more octets : List ℕ) (t : Tag) (element : IsElement t false contents own) where
  after_octets : NextOctets (piece_header t false contents (others ++ more)) octets → ((later : List ℕ) → FlatOctets (others ++ more) later → IsNested others more later) → IsNested (own ++ others) more octets
  after_octets (is_header tag form f) rest = let e : false ≡ true = form in cc
  after_octets (are_octets first last later tag form it f are) rest =
      let same = one_extent (piece_header t false contents (others ++ more)) first last contents (others ++ more) it (element_definite t false contents (others ++ more)) in
      let n = rest later (subst (λ l. FlatOctets l later) same.back_is f) in
      record {
        own = contents ++ n.own;
        later = n.later;
        pieces = octets_first contents own others n.own (subst (λ u. IsElement u false contents own) tag element) n.pieces;
        flat = n.flat;
        are = are ∙ ap (λ l. l ++ later) same.contents_are ∙ ap (λ l. contents ++ l) n.are ∙ sym (append_assoc contents n.own n.later);
      }

-- a constructed element, and others after it
module _ (inside own others more octets : List ℕ) (t : Tag) (element : IsElement t true inside own) where
  after_pieces : NextOctets (piece_header t true inside (others ++ more)) octets → (FlatOctets (inside ++ (others ++ more)) octets → IsNested inside (others ++ more) octets) →
      ((later : List ℕ) → FlatOctets (others ++ more) later → IsNested others more later) → IsNested (own ++ others) more octets
  after_pieces (are_octets first last later tag form it f are) held rest = let e : true ≡ false = form in cc
  after_pieces (is_header tag form f) held rest =
      let m = held f in
      let n = rest m.later m.flat in
      record {
        own = m.own ++ n.own;
        later = n.later;
        pieces = octet_pieces_first inside m.own own others n.own (subst (λ u. IsElement u true inside own) tag element) m.pieces n.pieces;
        flat = n.flat;
        are = m.are ∙ ap (λ l. m.own ++ l) n.are ∙ sym (append_assoc m.own n.own n.later);
      }

nested : (bytes whole rest more octets : List ℕ) → Spells bytes whole rest → FlatOctets (whole ++ more) octets → IsNested whole more octets
nested _ _ _ more octets (nothing bytes) f = record { own = []; later = octets; pieces = no_octets; flat = f; are = refl }
nested _ _ _ more octets (primitive bytes contents own back others rest h begin is element spells) f =
    after_octets contents own others more octets h.tag element
    (next (own ++ (others ++ more)) octets (piece_header h.tag false contents (others ++ more)) (subst (λ l. FlatOctets l octets) (append_assoc own others more) f) (element_header h.tag false contents own (others ++ more) element))
    (λ later flat. nested back others rest more later spells flat)
nested _ _ _ more octets (definite bytes contents inside own back others rest h begin is inner element spells) f =
    after_pieces inside own others more octets h.tag element
    (next (own ++ (others ++ more)) octets (piece_header h.tag true inside (others ++ more)) (subst (λ l. FlatOctets l octets) (append_assoc own others more) f) (element_header h.tag true inside own (others ++ more) element))
    (λ flat. nested contents inside [] (others ++ more) octets inner flat)
    (λ later flat. nested back others rest more later spells flat)
nested _ _ _ more octets (indefinite bytes inside own back others rest h begin none inner element spells) f =
    after_pieces inside own others more octets h.tag element
    (next (own ++ (others ++ more)) octets (piece_header h.tag true inside (others ++ more)) (subst (λ l. FlatOctets l octets) (append_assoc own others more) f) (element_header h.tag true inside own (others ++ more) element))
    (λ flat. nested h.rest inside (0 ∷ 0 ∷ back) (others ++ more) octets inner flat)
    (λ later flat. nested back others rest more later spells flat)

-- What is left of some bytes, and the octets that were read before it.
pub record AreReadOctets (bytes left written : List ℕ) : Type 0 where
  pub ahead : (octets : List ℕ) → FlatOctets bytes octets → (later : List ℕ) × (FlatOctets left later × (octets ≡ written ++ later))
  pub behind : (later : List ℕ) → FlatOctets left later → FlatOctets bytes (written ++ later)

pub read_none : (bytes : List ℕ) → AreReadOctets bytes bytes []
read_none bytes = record { ahead = λ octets f. (octets, (f, refl)); behind = λ later f. f }

pub read_octets : (bytes left written contents rest : List ℕ) (h : Header) → IsPiece OCTET_STRING false h left → IsDefinite h contents rest → AreReadOctets bytes left written → AreReadOctets bytes rest (written ++ contents)
read_octets bytes left written contents rest h piece is r = record {
  ahead = λ octets f. (let a = r.ahead octets f in by octets a.0 a.1.1 (next left a.0 h a.1.0 piece.at));
  behind = λ later f. subst (λ l. FlatOctets bytes l) (sym (append_assoc written contents later)) (r.behind (contents ++ later) (octets_next left contents rest later h piece is f));
}
  where
    by : (octets later : List ℕ) → octets ≡ written ++ later → NextOctets h later → (end : List ℕ) × (FlatOctets rest end × (octets ≡ (written ++ contents) ++ end))
    by octets later are (is_header tag form f) = let e : false ≡ true = sym piece.form ∙ form in cc
    by octets later are (are_octets first last end tag form it f joined) =
        let same = one_extent h first last contents rest it is in (
          end,
          (subst (λ l. FlatOctets l end) same.back_is f, are ∙ ap (λ l. written ++ l) (joined ∙ ap (λ l. l ++ end) same.contents_are) ∙ sym (append_assoc written contents end)),
        )

pub read_header : (bytes left written : List ℕ) (h : Header) → IsPiece OCTET_STRING true h left → AreReadOctets bytes left written → AreReadOctets bytes h.rest written
read_header bytes left written h piece r = record {
  ahead = λ octets f. (let a = r.ahead octets f in by octets a.0 a.1.1 (next left a.0 h a.1.0 piece.at));
  behind = λ later f. r.behind later (header_next left later h piece f);
}
  where
    by : (octets later : List ℕ) → octets ≡ written ++ later → NextOctets h later → (end : List ℕ) × (FlatOctets h.rest end × (octets ≡ written ++ end))
    by octets later are (is_header tag form f) = (later, (f, are))
    by octets later are (are_octets first last end tag form it f joined) = let e : true ≡ false = sym piece.form ∙ form in cc

-- where bytes are left of pieces, the next header is one of a piece
pub left_header : (bytes left written octets : List ℕ) → left ≢ [] → AreReadOctets bytes left written → AreOctetPieces bytes octets → (h : Header) × (header_at left ≡ Some h)
left_header bytes left written octets some r pieces =
    let a = r.ahead octets (flat bytes octets pieces) in some_header left a.0 a.1.0 some

pub left_next : (bytes left written octets : List ℕ) (h : Header) → header_at left ≡ Some h → AreReadOctets bytes left written → AreOctetPieces bytes octets → (later : List ℕ) × NextOctets h later
left_next bytes left written octets h at r pieces =
    let a = r.ahead octets (flat bytes octets pieces) in (a.0, next left a.0 h a.1.0 at)

pub left_tag : (bytes left written octets : List ℕ) (h : Header) → header_at left ≡ Some h → AreReadOctets bytes left written → AreOctetPieces bytes octets → h.tag ≡ OCTET_STRING
left_tag bytes left written octets h at r pieces = let n = left_next bytes left written octets h at r pieces in by n.0 n.1
  where
    by : (later : List ℕ) → NextOctets h later → h.tag ≡ OCTET_STRING
    by later (is_header tag form f) = tag
    by later (are_octets first last end tag form it f joined) = tag

pub left_contents : (bytes left written octets : List ℕ) (h : Header) → header_at left ≡ Some h → h.constructed ≡ false → AreReadOctets bytes left written → AreOctetPieces bytes octets →
    (contents : List ℕ) × ((rest : List ℕ) × IsDefinite h contents rest)
left_contents bytes left written octets h at plain r pieces = let n = left_next bytes left written octets h at r pieces in by n.0 n.1
  where
    by : (later : List ℕ) → NextOctets h later → (contents : List ℕ) × ((rest : List ℕ) × IsDefinite h contents rest)
    by later (is_header tag form f) = let e : true ≡ false = sym form ∙ plain in cc
    by later (are_octets first last end tag form it f joined) = (first, (last, it))

-- where none is left, all octets were read
pub read_all : (bytes left written octets : List ℕ) → left ≡ [] → AreReadOctets bytes left written → AreOctetPieces bytes octets → written ≡ octets
read_all bytes left written octets none r pieces =
    let a = r.ahead octets (flat bytes octets pieces) in
    sym (append-nil written) ∙ ap (λ l. written ++ l) (sym (flat_end left a.0 a.1.0 none)) ∙ sym a.1.1

pub read_only : (spelling bytes rest left written : List ℕ) → left ≡ [] → AreReadOctets bytes left written → Spells spelling bytes rest → AreOctetPieces bytes written
read_only spelling bytes rest left written none r spells =
    let f = r.behind [] (subst (λ l. FlatOctets l []) (sym none) no_header) in
    let n = nested spelling bytes rest [] (written ++ []) spells (subst (λ l. FlatOctets l (written ++ [])) (sym (append-nil bytes)) f) in
    subst (λ l. AreOctetPieces bytes l) (sym (append-nil n.own) ∙ ap (λ l. n.own ++ l) (sym (flat_end [] n.later n.flat refl)) ∙ sym n.are ∙ append-nil written) n.pieces

-- whether bytes are left, by their length
pub some_left : (bytes : List ℕ) → false ≡ (length bytes == 0) → bytes ≢ []
some_left [] test is = let e : false ≡ true = test in cc
some_left (b ∷ bytes) test is = cc

pub none_left : (bytes : List ℕ) → true ≡ (length bytes == 0) → bytes ≡ []
none_left bytes test = nil_from_length bytes (eqb-true (length bytes) 0 (sym test))
