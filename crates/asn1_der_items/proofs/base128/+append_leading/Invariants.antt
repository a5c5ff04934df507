use Rattle.asn1_der_items.proofs.base128.+append_leading.Given as goal

abbrev pub decreases-append_leading : goal.decreases-append_leading
decreases-append_leading l = l.number
