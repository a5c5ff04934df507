use Rattle.asn1_items.specs.Slices.{open_lists}
use Rattle.asn1_elements.proofs.unread_bytes.+bytes_left.Given as goal

abbrev pub decreases-bytes_left : goal.decreases-bytes_left
decreases-bytes_left l = open_lists l.slices.now
