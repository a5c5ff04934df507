use Rattle.std.proofs.Common.{◌≡◌, true, ap, sym, ◌∙◌}
use Rattle.asn1_compilation.specs.Messages.{accepts}
use Rattle.asn1_resolver.specs.Accepted as resolved
use Rattle.asn1_compilation.proofs.Accepted.{warned_in_front}
use Rattle.asn1_compilation.proofs.stages.refused.Goals as goal

pub returns-clause-refused : goal.returns-clause-refused
returns-clause-refused c = λ has_files.
    let all : resolved.accepts c.append.new.self.items ≡ true =
    ap resolved.accepts (sym c.as_slice.ensures.value) ∙ c.in_ok-messages.ensures
    (ap accepts (sym c.new-2.ensures.told) ∙ (sym c.new-2.ensures.complete ∙ has_files)) in
    warned_in_front c.args.resolution.problems.items c.in_ok-further.further.items
    (ap resolved.accepts (sym c.in_ok-append.ensures.items) ∙ all)
