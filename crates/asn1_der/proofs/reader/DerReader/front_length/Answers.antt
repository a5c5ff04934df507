use Rattle.std.proofs.Common.{arith}
use Rattle.asn1_der_items.proofs.TrailingBytes.{element_at-shorter}
use Rattle.asn1_der_items.specs.Elements.{Element}
use Rattle.asn1_der.proofs.reader.DerReader.front_length.Goals as goal

pub overflow_sub-result : goal.overflow_sub-result
overflow_sub-result c =
    let e : Element = record { tag = c.in_ok-element.element.tag; constructed = c.in_ok-element.element.constructed; contents = c.in_ok-element.element.contents.now; rest = c.in_ok-element.element.rest.now } in
    omega (arith, element_at-shorter c.args.input.now e c.in_ok-element.ensures.only)

pub returns : goal.returns
returns c =
    let e : Element = record { tag = c.in_ok-element.element.tag; constructed = c.in_ok-element.element.constructed; contents = c.in_ok-element.element.contents.now; rest = c.in_ok-element.element.rest.now } in
    record {
      element = e;
      at = c.in_ok-element.ensures.only;
      long = omega (arith, element_at-shorter c.args.input.now e c.in_ok-element.ensures.only);
    }
