use Rattle.std.proofs.Common.{refl, sym, ◌∙◌, arith}
use Rattle.std.proofs.lemmas.Result.{MatchResult-weaker}
use Rattle.asn1_ber_items.specs.Segments.{written_in}
use Rattle.asn1_ber_items.specs.Headers.{header_of}
use Rattle.asn1_ber_items.proofs.Headers.{header_shorter}
use Rattle.asn1_ber_items.proofs.Splits.{indefinite_splits}
use Rattle.asn1_ber_items.proofs.Steps.{has_header, its_header, no_memory}
use Rattle.asn1_ber_items.proofs.Walking.{begins}
use Rattle.asn1_ber_items.proofs.walk.Walk.begin_next.Goals as goal

pub returns-in-Err : goal.returns-in-Err
returns-in-Err c = λ none consistent. record {
  not_missing = λ missing. c.error_of_form.ensures.not_missing missing;
  stuck = λ memory outcome more writes.
      let left = c.args.self.now.left.now in
      let b = begins c.args.self.now.begun.items left (written_in c.args.self.now.written) outcome more
      (λ outer e back are ends after. none back (record { outer = outer; innermost = e; are = are; ends = ends; after = after })) writes in
      let h = has_header left b in
      let wrong = c.in-Err.ensures.found h.0 h.1 in cc;
}

pub returns-then-is_end_of_contents : goal.returns-then-is_end_of_contents
returns-then-is_end_of_contents c = λ none consistent. record {
  not_missing = λ missing. missing;
  stuck = λ memory outcome more writes.
      let left = c.args.self.now.left.now in
      let h = header_of c.in-Ok.header in
      let b = begins c.args.self.now.begun.items left (written_in c.args.self.now.written) outcome more
      (λ outer e back are ends after. none back (record { outer = outer; innermost = e; are = are; ends = ends; after = after })) writes in
      (its_header left h c.in-Ok.ensures.only b).0 (c.if-is_end_of_contents.ensures.0 refl);
}

pub returns-in-None : goal.returns-in-None
returns-in-None c = λ none consistent.
    let left = c.args.self.now.left.now in
    let h = header_of c.in-Ok.header in
    let at = c.in-Ok.ensures.only in
    MatchResult-weaker c.begin_constructed.result
    (c.begin_constructed.ensures
    (indefinite_splits h left (record { at = at; is_element = λ same. (let wrong = c.if-is_end_of_contents.ensures.1 same in cc); form = c.if-header.true }) c.in-None.is)
    (omega (arith, header_shorter left h at)) consistent)
    (λ done goes. goes)
    (λ e memory. no_memory c.args.self.now e memory)

pub returns-in-None-2 : goal.returns-in-None-2
returns-in-None-2 c = λ none consistent. record {
  not_missing = λ missing. missing;
  stuck = λ memory outcome more writes.
      let left = c.args.self.now.left.now in
      let h = header_of c.in-Ok.header in
      let b = begins c.args.self.now.begun.items left (written_in c.args.self.now.written) outcome more
      (λ outer e back are ends after. none back (record { outer = outer; innermost = e; are = are; ends = ends; after = after })) writes in
      let form = (its_header left h c.in-Ok.ensures.only b).1 c.in-None.is in
      let wrong = sym form ∙ c.if-header.false in cc;
}
