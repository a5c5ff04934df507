use Rattle.std.proofs.Common.{arith, sym}
use Rattle.asn1_der_items.proofs.TrailingBytes.{parts_fit}
use Rattle.asn1_der_items.specs.Elements.{element_of}
use Rattle.asn1_der_items.proofs.Reached.{behind-shorter, position-within}
use Rattle.asn1_der_items.proofs.path.+position_at_path.Goals as goal

pub overflow_sub-result : goal.overflow_sub-result
overflow_sub-result t c = omega (arith, parts_fit c.args.bytes.now (element_of c.in-Ok.element) c.in-Ok.ensures.only)

pub overflow_sub-result-2 : goal.overflow_sub-result-2
overflow_sub-result-2 t c =
    omega (arith, parts_fit c.args.bytes.now (element_of c.in-Ok.element) c.in-Ok.ensures.only, behind-shorter _ c.in-Ok.element.contents.now c.in-Some.left.now c.in-Some.ensures)

pub overflow_add-result : goal.overflow_add-result
overflow_add-result t c =
    omega (arith, parts_fit c.args.bytes.now (element_of c.in-Ok.element) c.in-Ok.ensures.only, behind-shorter _ c.in-Ok.element.contents.now c.in-Some.left.now c.in-Some.ensures, position-within _ c.in-Some.left.now c.in-Some-position_at_path.position (sym c.in-Some-position_at_path.ensures))
