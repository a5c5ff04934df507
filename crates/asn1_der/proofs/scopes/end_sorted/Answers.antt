use Rattle.std.proofs.Common.{◌++◌}
use Rattle.std.proofs.lemmas.Result.{MatchResult-weaker}
use Rattle.asn1_der.proofs.scopes.end_sorted.Goals as goal

pub returns : goal.returns
returns c = λ t before front inside elements begun is starts joined.
    let a = c.in_ok-sort_elements.ensures (before ++ front) inside elements is starts joined in
    MatchResult-weaker c.end_as_written.result
    (c.end_as_written.ensures t before front a.added begun a.joined starts)
    (λ done w. record { added = w.added; is = record { contents = a.added; are = a.is; element = w.is }; joined = w.joined })
    (λ e memory. memory)
