use Rattle.std.proofs.Common.{◌≡◌, false, [], ◌∷◌, ◌++◌, ap, subst, ◌∙◌, arith}
use Rattle.std.proofs.lemmas.List.{nil_from_length}
use Rattle.std.proofs.lemmas.Result.{err_from_is_err_and}
use Rattle.asn1_items.proofs.DecodeStates.{not_both}
use Rattle.asn1_ber_items.specs.Headers.{header_of}
use Rattle.asn1_ber_items.specs.Spellings.{IsDefinite}
use Rattle.asn1_ber_items.proofs.FlatBits.{IsBitsHere, bits_here, last_found, last_here, last_only, left_contents, left_header, left_tag, read_all, read_bits, read_header, read_none, read_only, some_contents}
use Rattle.asn1_ber_items.proofs.FlatOctets.{IsPiece, none_left, some_left}
use Rattle.asn1_ber_items.specs.Pieces.{BIT_STRING}
use Rattle.asn1_ber_items.proofs.Headers.{cut_shorter, header_shorter}
use Rattle.asn1_ber_items.proofs.NormalPieces.{bit_pieces_normal}
use Rattle.asn1_ber_items.proofs.pieces.bits_of_pieces.Goals as goal

pub loop-left-init : goal.loop-left-init
loop-left-init c = read_none c.args.contents.now c.extend_from_slice.new.self.items (c.in_ok-extend_from_slice.ensures.items ∙ ap (λ l. l ++ 0 ∷ []) c.new-bits.ensures.items)

pub returns-in_err-header-clause-found : goal.returns-in_err-header-clause-found
returns-in_err-header-clause-found c = λ unused octets pieces.
    let h = left_header c.args.contents.now c.loop-left.left.now c.loop-left.bits.items octets unused (some_left c.loop-left.left.now c.loop-left-test.ensures) c.loop-left.invariant pieces in
    let wrong = c.in_err-header.ensures.found h.0 h.1 in cc

pub returns-then-not-is_bit_string-clause-found : goal.returns-then-not-is_bit_string-clause-found
returns-then-not-is_bit_string-clause-found c = λ unused octets pieces.
    let tag = left_tag c.args.contents.now c.loop-left.left.now c.loop-left.bits.items octets unused (header_of c.in_ok-header.header) c.in_ok-header.ensures.only c.loop-left.invariant pieces in
    absurd (not_both c.is_bit_string.result c.if-not-is_bit_string.true (c.is_bit_string.ensures.1 tag))

pub loop-left-preserved-then-header : goal.loop-left-preserved-then-header
loop-left-preserved-then-header c =
    read_header c.args.contents.now c.loop-left.left.now c.loop-left.bits.items (header_of c.in_ok-header.header)
    (record { at = c.in_ok-header.ensures.only; tag = c.is_bit_string.ensures.0 c.if-not-is_bit_string.false; form = c.if-header.true }) c.loop-left.invariant

pub loop-left-smaller-then-header : goal.loop-left-smaller-then-header
loop-left-smaller-then-header c = header_shorter c.loop-left.left.now (header_of c.in_ok-header.header) c.in_ok-header.ensures.only

pub returns-clause-found : goal.returns-clause-found
returns-clause-found c = λ unused octets pieces.
    read_all c.args.contents.now c.loop-left.left.now c.loop-left.bits.items octets unused (none_left c.loop-left.left.now c.loop-left-test.ensures) c.loop-left.invariant pieces

pub returns-clause-only : goal.returns-clause-only
returns-clause-only c =
    let contents = c.args.contents.now in
    read_only contents contents [] c.loop-left.left.now c.loop-left.bits.items (none_left c.loop-left.left.now c.loop-left-test.ensures) c.loop-left.invariant c.in_ok-check_normal.ensures.only

pub returns-in_err-check_normal-clause-found : goal.returns-in_err-check_normal-clause-found
returns-in_err-check_normal-clause-found c = λ unused octets pieces.
    let p = err_from_is_err_and c.from_residual.result c.from_residual.ensures.1 in
    rw (p.1, p.2) (c.in_err-check_normal.ensures.found (bit_pieces_normal c.args.contents.now octets unused pieces))

pub returns-in_err-piece-clause-found : goal.returns-in_err-piece-clause-found
returns-in_err-piece-clause-found c = λ unused octets pieces.
    let p = left_contents c.args.contents.now c.loop-left.left.now c.loop-left.bits.items octets unused (header_of c.in_ok-header.header) c.in_ok-header.ensures.only c.if-header.false c.loop-left.invariant pieces in
    let wrong = c.in_err-piece.ensures.found p.0 p.1.0 p.1.1 in cc

pub loop-left-smaller : goal.loop-left-smaller
loop-left-smaller c = omega (arith, cut_shorter c.loop-left.left.now (header_of c.in_ok-header.header) c.in_ok-piece.piece.contents.now c.in_ok-piece.piece.rest.now c.in_ok-header.ensures.only c.in_ok-piece.ensures.only)

pub returns-in_default-clause-found : goal.returns-in_default-clause-found
returns-in_default-clause-found c = λ unused octets pieces.
    let here = bits_here c.args.contents.now c.loop-left.left.now c.loop-left.bits.items octets c.in_ok-piece.piece.contents.now c.in_ok-piece.piece.rest.now unused (header_of c.in_ok-header.header) c.in_ok-header.ensures.only c.if-header.false c.in_ok-piece.ensures.only c.loop-left.invariant pieces in
    absurd (some_contents octets c.loop-left.invariant.octets c.in_ok-piece.piece.contents.now c.in_ok-piece.piece.rest.now unused here (nil_from_length c.in_ok-piece.piece.contents.now c.in_default.ensures.cases))

pub returns-then-not-is_empty-clause-found : goal.returns-then-not-is_empty-clause-found
returns-then-not-is_empty-clause-found c = λ unused octets pieces.
    let first = c.in-Some.unused.now in
    let here = bits_here c.args.contents.now c.loop-left.left.now c.loop-left.bits.items octets c.in_ok-piece.piece.contents.now c.in_ok-piece.piece.rest.now unused (header_of c.in_ok-header.header) c.in_ok-header.ensures.only c.if-header.false c.in_ok-piece.ensures.only c.loop-left.invariant pieces in
    let last = last_here octets c.loop-left.invariant.octets c.in-Some.octets.now c.in_ok-piece.piece.rest.now unused first c.if-unused-gt0.true
    (subst (λ l. IsBitsHere unused octets c.loop-left.invariant.octets l c.in_ok-piece.piece.rest.now) c.in-Some.ensures.cases.0 here) in
    absurd (some_left c.in_ok-piece.piece.rest.now c.if-not-is_empty.ensures last.none)

pub returns-then-unused-gt0-clause-found : goal.returns-then-unused-gt0-clause-found
returns-then-unused-gt0-clause-found c = λ unused octets pieces.
    let first = c.in-Some.unused.now in
    let here = bits_here c.args.contents.now c.loop-left.left.now c.loop-left.bits.items octets c.in_ok-piece.piece.contents.now c.in_ok-piece.piece.rest.now unused (header_of c.in_ok-header.header) c.in_ok-header.ensures.only c.if-header.false c.in_ok-piece.ensures.only c.loop-left.invariant pieces in
    let last = last_here octets c.loop-left.invariant.octets c.in-Some.octets.now c.in_ok-piece.piece.rest.now unused first c.if-unused-gt0.true
    (subst (λ l. IsBitsHere unused octets c.loop-left.invariant.octets l c.in_ok-piece.piece.rest.now) c.in-Some.ensures.cases.0 here) in
    last_found c.with_last.result octets c.loop-left.invariant.octets c.in-Some.octets.now c.in_ok-piece.piece.rest.now unused first last (c.with_last.ensures c.loop-left.invariant.octets c.loop-left.invariant.are)

pub returns-then-unused-gt0-clause-only : goal.returns-then-unused-gt0-clause-only
returns-then-unused-gt0-clause-only c =
    let contents = c.args.contents.now in
    let h = header_of c.in_ok-header.header in
    let piece : IsPiece BIT_STRING false h c.loop-left.left.now = record { at = c.in_ok-header.ensures.only; tag = c.is_bit_string.ensures.0 c.if-not-is_bit_string.false; form = c.if-header.false } in
    let is = subst (λ l. IsDefinite h l []) c.in-Some.ensures.cases.0 (subst (IsDefinite h c.in_ok-piece.piece.contents.now) (none_left c.in_ok-piece.piece.rest.now c.if-not-is_empty.ensures) c.in_ok-piece.ensures.only) in
    last_only c.with_last.result contents contents [] c.loop-left.left.now c.loop-left.bits.items c.in-Some.octets.now c.in-Some.unused.now h piece is c.loop-left.invariant c.in_ok-check_normal.ensures.only
    (c.with_last.ensures c.loop-left.invariant.octets c.loop-left.invariant.are)

pub loop-left-preserved : goal.loop-left-preserved
loop-left-preserved c =
    let h = header_of c.in_ok-header.header in
    let piece : IsPiece BIT_STRING false h c.loop-left.left.now = record { at = c.in_ok-header.ensures.only; tag = c.is_bit_string.ensures.0 c.if-not-is_bit_string.false; form = c.if-header.false } in
    let zero : c.in-Some.unused.now ≡ 0 = omega (arith, c.if-unused-gt0.false) in
    let is = subst (λ n. IsDefinite h (n ∷ c.in-Some.octets.now) c.in_ok-piece.piece.rest.now) zero (subst (λ l. IsDefinite h l c.in_ok-piece.piece.rest.now) c.in-Some.ensures.cases.0 c.in_ok-piece.ensures.only) in
    read_bits c.args.contents.now c.loop-left.left.now c.loop-left.bits.items c.extend_from_slice-in-loop-left.new.self.items c.in-Some.octets.now c.in_ok-piece.piece.rest.now h piece is c.in_ok-extend_from_slice-2.ensures.items c.loop-left.invariant
