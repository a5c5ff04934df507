use Rattle.std.proofs.Common.{◌≡◌, ◌*◌, ◌^◌, ◌<◌}
use Rattle.asn1_ber_items.proofs.size.fits_before.Given as goal

abbrev pub invariant-loop-zero : goal.invariant-loop-zero
invariant-loop-zero l = record {
  is : l.shifted ≡ l.number * 256 ^ l._zero;
  fits : l.shifted < 2 ^ 64;
}
