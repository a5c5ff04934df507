use Rattle.std.proofs.Common.{◌<◌, arith, length}
use Rattle.asn1_der_items.proofs.TrailingBytes.{element_at-shorter}
use Rattle.asn1_der_items.specs.Elements.{element_of}
use Rattle.asn1_certificate_input.proofs.reading.end_of_certificate.Goals as goal

pub overflow_sub-end : goal.overflow_sub-end
overflow_sub-end c =
    let shorter : length c.in-Ok.element.rest.now < length c.args.octets.now = element_at-shorter c.args.octets.now (element_of c.in-Ok.element) c.in-Ok.ensures.only in
    omega (arith, shorter)
