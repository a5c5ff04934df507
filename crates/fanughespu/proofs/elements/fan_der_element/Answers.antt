use Rattle.std.proofs.Common.{rules, refl, arith}
use Rattle.asn1_der_items.proofs.TrailingBytes.{parts_fit}
use Rattle.asn1_der_items.specs.Elements.{element_of}
use Rattle.fanughespu.proofs.elements.fan_der_element.Goals as goal

pub overflow_sub-element : goal.overflow_sub-element
overflow_sub-element c = omega (arith, parts_fit c.args.octets.now (element_of c.in-Ok.found) c.in-Ok.ensures.only)

pub overflow_sub-element-2 : goal.overflow_sub-element-2
overflow_sub-element-2 c = omega (arith, parts_fit c.args.octets.now (element_of c.in-Ok.found) c.in-Ok.ensures.only)

pub returns-clause-found : goal.returns-clause-found
returns-clause-found c = λ _. record {
  element = element_of c.in-Ok.found;
  at = c.in-Ok.ensures.only;
  class = search rules;
  number = refl;
  form = refl;
  size = refl;
  header = omega (arith, parts_fit c.args.octets.now (element_of c.in-Ok.found) c.in-Ok.ensures.only);
}
