use Rattle.std.proofs.Common.{length, length-append, ap, arith}
use Rattle.asn1_items.specs.Numbers.{IsInteger}
use Rattle.asn1_items.proofs.SizedItems.{whole}
use Rattle.asn1_items.proofs.scalars.push_signed.Goals as goal

pub returns-clause-appended : goal.returns-clause-appended
returns-clause-appended c = λ z value short sign.
    let a = c.in_ok-append_signed.ensures.appended z value short sign in
    let header = c.in_ok-push_sized_header.ensures in
    whole (IsInteger z) c.args.tag c.args.content _ c.args.bytes.now.items c.push_sized_header.new.bytes.items _ a.added a.is
    (omega (arith, c.in_ok-append_signed.ensures.long, ap length a.joined, length-append c.push_sized_header.new.bytes.items a.added)) header.fits.0 header.fits.1 header.appended a.joined
