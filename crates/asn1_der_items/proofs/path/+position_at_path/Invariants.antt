use Rattle.std.proofs.Common.{length}
use Rattle.asn1_der_items.proofs.path.+position_at_path.Given as goal

abbrev pub decreases-position_at_path : goal.decreases-position_at_path
decreases-position_at_path l = length l.path.now
