use Rattle.std.proofs.Common.{◌∙◌, ap, arith}
use Rattle.asn1_der_items.proofs.TrailingBytes.{element_at-shorter}
use Rattle.asn1_der.specs.Sorting.{key_of}
use Rattle.asn1_der.proofs.ElementCuts.{cut_off, is_found}
use Rattle.asn1_der.proofs.sorting.first_of.Goals as goal

pub returns-in_default-clause-found : goal.returns-in_default-clause-found
returns-in_default-clause-found c = λ own back one is. is_found own back c.args.bytes.now _ one is (λ e at. let wrong = c.in_default.ensures.found e at in cc)

pub overflow_sub-bytes : goal.overflow_sub-bytes
overflow_sub-bytes c =
    let shorter = element_at-shorter c.args.bytes.now _ c.in-Ok.ensures.only in
    omega (arith, shorter)

pub returns-clause-found : goal.returns-clause-found
returns-clause-found c = λ own back one is.
    let cut = cut_off own back c.args.bytes.now c.in-Some.own.now c.in-Some.rest.now _ one is c.in-Ok.ensures.only c.in-Some.ensures.cases in
    record { bytes = cut.front_is; rest = cut.rest_is; key = c.key_of.ensures ∙ ap (key_of c.args.order) cut.tag_is }

pub returns-clause-shorter : goal.returns-clause-shorter
returns-clause-shorter c =
    let shorter = element_at-shorter c.args.bytes.now _ c.in-Ok.ensures.only in
    omega (arith, shorter, c.in-Some.ensures.cases.4)
