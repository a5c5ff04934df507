use Rattle.std.proofs.Common.{◌≤◌, length, arith}
use Rattle.std.proofs.lemmas.Result.{MatchResult-weaker}
use Rattle.asn1_ber_items.specs.Segments.{written_in}
use Rattle.asn1_ber_items.specs.Headers.{header_of}
use Rattle.asn1_ber_items.proofs.Headers.{cut_shorter, cut_there}
use Rattle.asn1_ber_items.proofs.Splits.{definite_splits, primitive_splits}
use Rattle.asn1_ber_items.proofs.Steps.{has_contents, no_memory}
use Rattle.asn1_ber_items.proofs.Walking.{begins}
use Rattle.asn1_ber_items.proofs.walk.Walk.begin_with_length.Goals as goal

pub returns-in_default : goal.returns-in_default
returns-in_default c = λ here size none consistent. record {
  not_missing = λ missing. missing;
  stuck = λ memory outcome more writes.
      let left = c.args.self.now.left.now in
      let h = header_of c.args.header in
      let b = begins c.args.self.now.begun.items left (written_in c.args.self.now.written) outcome more
      (λ outer e back are ends after. none back (record { outer = outer; innermost = e; are = are; ends = ends; after = after })) writes in
      let enough : c.args.size ≤ length c.args.header.rest.now = has_contents left h c.args.size here.at size b in
      absurd (omega (arith, enough, c.in_default.ensures.cases));
}

pub returns-then-header : goal.returns-then-header
returns-then-header c = λ here size none consistent.
    let left = c.args.self.now.left.now in
    let h = header_of c.args.header in
    let split = c.in-Some.ensures.cases in
    let is = cut_there h c.args.size c.in-Some.contents.now c.in-Some.back.now size split.0 split.1 split.2 in
    MatchResult-weaker c.begin_constructed.result
    (c.begin_constructed.ensures
    (definite_splits h left c.in-Some.contents.now c.in-Some.back (record { at = here.at; is_element = here.is_element; form = c.if-header.true }) is)
    (cut_shorter left h c.in-Some.contents.now c.in-Some.back.now here.at is) consistent)
    (λ done goes. goes)
    (λ e memory. no_memory c.args.self.now e memory)

pub returns-else-header : goal.returns-else-header
returns-else-header c = λ here size none consistent.
    let left = c.args.self.now.left.now in
    let h = header_of c.args.header in
    let split = c.in-Some.ensures.cases in
    let is = cut_there h c.args.size c.in-Some.contents.now c.in-Some.back.now size split.0 split.1 split.2 in
    MatchResult-weaker c.copy.result
    (c.copy.ensures
    (λ own element. primitive_splits h left c.in-Some.contents.now own c.in-Some.back.now (record { at = here.at; is_element = here.is_element; form = c.if-header.false }) is element)
    (omega (arith, cut_shorter left h c.in-Some.contents.now c.in-Some.back.now here.at is)) consistent)
    (λ done goes. goes)
    (λ e memory. no_memory c.args.self.now e memory)
