use Rattle.std.proofs.Common.{◌++◌, false, ap, ◌∙◌, arith, length}
use Rattle.std.proofs.lemmas.Result.{MatchResult-weaker}
use Rattle.asn1_der_items.proofs.elements.append_primitive.Goals as goal

pub returns-clause-appended : goal.returns-clause-appended
returns-clause-appended c =
    let b = c.in_ok-begin_element.ensures in
    let h = c.in_ok-append_contents.ensures.appended in
    MatchResult-weaker c.end_element.result
    (c.end_element.ensures c.args.tag false c.args.bytes.now.items b.added h.added b.is (h.joined ∙ ap (λ l. l ++ h.added) b.joined) (omega (arith, c.len-start.ensures, c.begin_element.new.bytes.ok.0, ap length b.joined)))
    (λ done a. record { added = a.added; is = record { contents = h.added; are = h.is; element = a.is }; joined = a.joined })
    (λ e memory. tt)

pub returns-clause-refused : goal.returns-clause-refused
returns-clause-refused c =
    let b = c.in_ok-begin_element.ensures in
    let h = c.in_ok-append_contents.ensures.appended in
    MatchResult-weaker c.end_element.result
    (c.end_element.ensures c.args.tag false c.args.bytes.now.items b.added h.added b.is (h.joined ∙ ap (λ l. l ++ h.added) b.joined) (omega (arith, c.len-start.ensures, c.begin_element.new.bytes.ok.0, ap length b.joined)))
    (λ done a. tt)
    (λ e memory other. absurd (other memory))
