use Rattle.std.proofs.Common.{refl, sym, ◌∙◌, arith}
use Rattle.std.proofs.lemmas.Result.{err_from_is_err_and}
use Rattle.asn1_ber_items.specs.Ends.{IsAtEnd, Passes, in_contents, in_header}
use Rattle.asn1_ber_items.specs.Headers.{header_of}
use Rattle.asn1_ber_items.proofs.Ends.{begins}
use Rattle.asn1_ber_items.proofs.Headers.{cut_there}
use Rattle.asn1_ber_items.proofs.Inside.{has_element, no_header}
use Rattle.asn1_ber_items.proofs.Searching.{ends_definite, option_weaker, passes_definite, passes_indefinite}
use Rattle.asn1_ber_items.proofs.Steps.{has_contents, has_header, its_header}
use Rattle.asn1_ber_items.proofs.ahead.Ahead.behind_header.Goals as goal

pub returns-in_err-header : goal.returns-in_err-header
returns-in_err-header c = λ more.
    let n = c.args.self.levels in
    let left = c.args.self.left.now in
    let p = err_from_is_err_and c.from_residual.result c.from_residual.ensures.1 in
    rw (p.1, p.2) (record {
      none = λ ahead. (let h = has_header left (begins n left more ahead) in let wrong = c.in_err-header.ensures.found h.0 h.1 in cc);
      missing = (
        λ missing. in_header n left (c.in_err-header.ensures.missing.0 missing),
        λ ends. c.in_err-header.ensures.missing.1 (no_header n left ends (λ h at. (let wrong = c.in_err-header.ensures.found h at in cc))),
      );
    })

pub returns-then-is_end_of_contents : goal.returns-then-is_end_of_contents
returns-then-is_end_of_contents c = λ more. record {
  none = λ ahead.
      let left = c.args.self.left.now in
      (its_header left (header_of c.in_ok-header.header) c.in_ok-header.ensures.only (begins c.args.self.levels left more ahead)).0 (c.if-is_end_of_contents.ensures.0 refl);
  missing = (
    λ missing. absurd missing,
    λ ends. (has_element c.args.self.levels c.args.self.left.now (header_of c.in_ok-header.header) ends c.in_ok-header.ensures.only more).is_element (c.if-is_end_of_contents.ensures.0 refl),
  );
}

pub returns-in-Some-split_at_checked : goal.returns-in-Some-split_at_checked
returns-in-Some-split_at_checked c = λ more.
    let h = header_of c.in_ok-header.header in
    let split = c.in-Some-split_at_checked.ensures.cases in
    let back = c.in-Some-split_at_checked.back.now in
    let is = cut_there h c.in-Some.size c.in-Some-split_at_checked._contents.now back c.in-Some.is split.0 split.1 split.2 in
    option_weaker c.inside.result _ (IsAtEnd c.args.self) _ (Passes c.args.self) c.inside.ensures
    (ends_definite c.args.self h c.in-Some-split_at_checked._contents.now back c.in_ok-header.ensures.only (λ same. (let wrong = c.if-is_end_of_contents.ensures.1 same in cc)) is)
    (λ new there.
    passes_definite c.args.self new h c.in-Some-split_at_checked._contents.now back c.in_ok-header.ensures.only
    (λ same. (let wrong = c.if-is_end_of_contents.ensures.1 same in cc)) is there.2 there.0 there.1)

pub returns-in-None-split_at_checked : goal.returns-in-None-split_at_checked
returns-in-None-split_at_checked c = λ more.
    let n = c.args.self.levels in
    let left = c.args.self.left.now in
    let h = header_of c.in_ok-header.header in
    record {
      none = λ ahead. (let enough = has_contents left h c.in-Some.size c.in_ok-header.ensures.only c.in-Some.is (begins n left more ahead) in absurd (omega (arith, enough, c.in-None-split_at_checked.ensures.cases)));
      missing = (
        λ missing. in_contents n left (record {
          header = h;
          long = c.in-Some.size;
          at = c.in_ok-header.ensures.only;
          is_element = λ same. (let wrong = c.if-is_end_of_contents.ensures.1 same in cc);
          size = c.in-Some.is;
          few = omega (arith, c.in-None-split_at_checked.ensures.cases);
        }),
        λ ends. tt,
      );
    }

pub returns-in-None : goal.returns-in-None
returns-in-None c = λ more.
    let h = header_of c.in_ok-header.header in
    option_weaker c.inside-in-None.result _ (IsAtEnd c.args.self) _ (Passes c.args.self) c.inside-in-None.ensures
    (λ none. absurd (omega (arith, none)))
    (λ new there.
    passes_indefinite c.args.self new h
    (record { at = c.in_ok-header.ensures.only; is_element = λ same. (let wrong = c.if-is_end_of_contents.ensures.1 same in cc); form = c.if-header.true })
    c.in-None.is (omega (arith, there.0)) there.1)

pub returns-in-None-2 : goal.returns-in-None-2
returns-in-None-2 c = λ more. record {
  none = λ ahead.
      let left = c.args.self.left.now in
      let form = (its_header left (header_of c.in_ok-header.header) c.in_ok-header.ensures.only (begins c.args.self.levels left more ahead)).1 c.in-None.is in
      let wrong = sym form ∙ c.if-header.false in cc;
  missing = (
    λ missing. absurd missing,
    λ ends.
        let form = (has_element c.args.self.levels c.args.self.left.now (header_of c.in_ok-header.header) ends c.in_ok-header.ensures.only more).form c.in-None.is in
        let wrong = sym form ∙ c.if-header.false in cc,
  );
}
