use Rattle.std.proofs.Common.{arith}
use Rattle.asn1_tags.proofs.Fitting.{less_from_fit_at, next_fits_at}
use Rattle.asn1_tags.proofs.tables.entry_fits.Goals as goal

pub returns-else-index-eq0 : goal.returns-else-index-eq0
returns-else-index-eq0 c = (
  λ yes. next_fits_at c.args.tags.now c.args.table.now c.args.index _ (omega (arith, c.if-index-eq0.false)) c.requires (c.has_tag.ensures.0 c.if-has_tag.true) (c.is_before.ensures.0 yes),
  λ fit. c.is_before.ensures.1 (less_from_fit_at c.args.tags.now c.args.table.now c.args.index _ (omega (arith, c.if-index-eq0.false)) c.requires fit),
)
