use Rattle.std.proofs.Common.{◌≡◌, Some, ap, arith, drop, length, subst}
use Rattle.asn1_der_items.proofs.TrailingBytes.{parts_fit}
use Rattle.asn1_der_items.specs.Elements.{element_at, element_of}
use Rattle.fanughespu.proofs.certificate_parts.fan_certificate_part.Goals as goal

pub overflow_sub-size : goal.overflow_sub-size
overflow_sub-size c = omega (arith, parts_fit c.in-Some-split_at_checked.own.now (element_of c.in-Ok.element) c.in-Ok.ensures.only)

pub returns-clause-found : goal.returns-clause-found
returns-clause-found c =
    let own = c.in-Some-split_at_checked.own.now in
    let e = element_of c.in-Ok.element in
    let is : own ≡ drop c.in-Some.start c.args.octets.now = c.in-Some-split_at_checked.ensures.cases.2 in
    λ _. record {
      element = e;
      leads = (let found = c.in-Some.ensures in cc);
      begins = subst (λ l. element_at l ≡ Some e) is c.in-Ok.ensures.only;
      ends = omega (arith, ap length is, parts_fit own e c.in-Ok.ensures.only);
    }
