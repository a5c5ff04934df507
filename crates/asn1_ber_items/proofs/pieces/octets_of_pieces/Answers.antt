use Rattle.std.proofs.Common.{[], sym, subst, arith}
use Rattle.std.proofs.lemmas.Result.{err_from_is_err_and}
use Rattle.asn1_items.proofs.DecodeStates.{not_both}
use Rattle.asn1_ber_items.specs.Headers.{header_of}
use Rattle.asn1_ber_items.proofs.FlatOctets.{AreReadOctets, left_contents, left_header, left_tag, none_left, read_all, read_header, read_none, read_octets, read_only, some_left}
use Rattle.asn1_ber_items.proofs.Headers.{cut_shorter, header_shorter}
use Rattle.asn1_ber_items.proofs.NormalPieces.{octet_pieces_normal}
use Rattle.asn1_ber_items.proofs.pieces.octets_of_pieces.Goals as goal

pub loop-left-init : goal.loop-left-init
loop-left-init c = subst (λ l. AreReadOctets c.args.contents.now c.args.contents.now l) (sym c.new-octets.ensures.items) (read_none c.args.contents.now)

pub returns-in_err-header-clause-found : goal.returns-in_err-header-clause-found
returns-in_err-header-clause-found c = λ octets pieces.
    let h = left_header c.args.contents.now c.loop-left.left.now c.loop-left.octets.items octets (some_left c.loop-left.left.now c.loop-left-test.ensures) c.loop-left.invariant pieces in
    let wrong = c.in_err-header.ensures.found h.0 h.1 in cc

pub returns-then-not-is_octet_string-clause-found : goal.returns-then-not-is_octet_string-clause-found
returns-then-not-is_octet_string-clause-found c = λ octets pieces.
    let tag = left_tag c.args.contents.now c.loop-left.left.now c.loop-left.octets.items octets (header_of c.in_ok-header.header) c.in_ok-header.ensures.only c.loop-left.invariant pieces in
    absurd (not_both c.is_octet_string.result c.if-not-is_octet_string.true (c.is_octet_string.ensures.1 tag))

pub returns-in_err-piece-clause-found : goal.returns-in_err-piece-clause-found
returns-in_err-piece-clause-found c = λ octets pieces.
    let p = left_contents c.args.contents.now c.loop-left.left.now c.loop-left.octets.items octets (header_of c.in_ok-header.header) c.in_ok-header.ensures.only c.if-header.false c.loop-left.invariant pieces in
    let wrong = c.in_err-piece.ensures.found p.0 p.1.0 p.1.1 in cc

pub loop-left-preserved-then-header : goal.loop-left-preserved-then-header
loop-left-preserved-then-header c =
    read_header c.args.contents.now c.loop-left.left.now c.loop-left.octets.items (header_of c.in_ok-header.header)
    (record { at = c.in_ok-header.ensures.only; tag = c.is_octet_string.ensures.0 c.if-not-is_octet_string.false; form = c.if-header.true }) c.loop-left.invariant

pub loop-left-smaller-then-header : goal.loop-left-smaller-then-header
loop-left-smaller-then-header c = header_shorter c.loop-left.left.now (header_of c.in_ok-header.header) c.in_ok-header.ensures.only

pub loop-left-smaller : goal.loop-left-smaller
loop-left-smaller c = omega (arith, cut_shorter c.loop-left.left.now (header_of c.in_ok-header.header) c.in_ok-piece.piece.contents.now c.in_ok-piece.piece.rest.now c.in_ok-header.ensures.only c.in_ok-piece.ensures.only)

pub loop-left-preserved : goal.loop-left-preserved
loop-left-preserved c =
    subst (λ l. AreReadOctets c.args.contents.now c.in_ok-piece.piece.rest.now l) (sym c.in_ok-extend_from_slice.ensures.items)
    (read_octets c.args.contents.now c.loop-left.left.now c.loop-left.octets.items c.in_ok-piece.piece.contents.now c.in_ok-piece.piece.rest.now (header_of c.in_ok-header.header)
    (record { at = c.in_ok-header.ensures.only; tag = c.is_octet_string.ensures.0 c.if-not-is_octet_string.false; form = c.if-header.false }) c.in_ok-piece.ensures.only c.loop-left.invariant)

pub returns-clause-found : goal.returns-clause-found
returns-clause-found c = λ octets pieces.
    read_all c.args.contents.now c.loop-left.left.now c.loop-left.octets.items octets (none_left c.loop-left.left.now c.loop-left-test.ensures) c.loop-left.invariant pieces

pub returns-clause-only : goal.returns-clause-only
returns-clause-only c =
    let contents = c.args.contents.now in
    read_only contents contents [] c.loop-left.left.now c.loop-left.octets.items (none_left c.loop-left.left.now c.loop-left-test.ensures) c.loop-left.invariant c.in_ok-check_normal.ensures.only

pub returns-in_err-check_normal-clause-found : goal.returns-in_err-check_normal-clause-found
returns-in_err-check_normal-clause-found c = λ octets pieces.
    let p = err_from_is_err_and c.from_residual.result c.from_residual.ensures.1 in
    rw (p.1, p.2) (c.in_err-check_normal.ensures.found (octet_pieces_normal c.args.contents.now octets pieces))
