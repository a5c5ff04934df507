use Rattle.std.proofs.Common.{◌≡◌, [], ◌++◌, ap, sym, ◌∙◌}
use Rattle.asn1_resolver.specs.Accepted as resolved
use Rattle.asn1_compilation.proofs.Accepted.{none_between}
use Rattle.asn1_compilation.proofs.stages.print_checked.Goals as goal

pub returns : goal.returns
returns c = λ accepted.
    let clashes = c.in_ok-check_tags.field-0.items in
    let rest = c.in_ok-printed.printed.problems.items in
    let all = c.in_ok-append-2.ensures.items ∙ ap (λ front. front ++ rest) c.in_ok-append.ensures.items in
    let none : clashes ≡ [] = none_between c.args.problems.items clashes rest c.in_ok-check_tags.ensures.errors (ap resolved.accepts (sym all) ∙ accepted) in
    c.in_ok-check_tags.ensures.accepted.0 none
