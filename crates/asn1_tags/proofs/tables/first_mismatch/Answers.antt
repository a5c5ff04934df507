use Rattle.asn1_tags.proofs.Fitting.{fits_upto}
use Rattle.asn1_tags.proofs.tables.first_mismatch.Goals as goal

pub loop-index-preserved : goal.loop-index-preserved
loop-index-preserved c =
    fits_upto c.args.tags.now c.args.table.now c.loop-index.index c.loop-index.invariant (c.entry_fits.ensures.0 c.if-not-entry_fits.false)
