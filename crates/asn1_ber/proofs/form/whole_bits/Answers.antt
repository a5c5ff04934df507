use Rattle.asn1_ber.proofs.Contents.{bit_pieces_only}
use Rattle.std.proofs.Common.{◌∙◌, sym, subst}
use Rattle.std.proofs.lemmas.Result.{err_from_is_err_and}
use Rattle.asn1_ber_items.specs.LooseContents.{AreLooseBits, AreSameBits}
use Rattle.asn1_elements.specs.declared.contents.Contents.TheVariants.{Made}
use Rattle.asn1_ber.proofs.form.whole_bits.Goals as goal

pub returns-in_err-strict-clause-found : goal.returns-in_err-strict-clause-found
returns-in_err-strict-clause-found c = λ list own.
    let q = err_from_is_err_and c.from_residual-in_err-strict.result c.from_residual-in_err-strict.ensures.1 in
    let pieces = own.are_pieces in
    let whole = c.as_slice.ensures.value ∙ c.in_ok-whole.ensures.found pieces.unused pieces.octets pieces.pieces ∙ sym pieces.are in
    rw (q.1, q.2) (c.in_err-strict.ensures.found list (subst (AreLooseBits list) (sym whole) own.are_bits))

pub returns-clause-only : goal.returns-clause-only
returns-clause-only c =
    bit_pieces_only c.args.pieces.now c.in_ok-whole.whole.items (Made c.in_ok-strict.strict) c.in_ok-whole.ensures.only
    (subst (λ l. AreSameBits l c.in_ok-strict.strict.items) c.as_slice.ensures.value c.in_ok-strict.ensures.only)
