use Rattle.std.proofs.Common.{◌≡◌, true, ap, sym, ◌∙◌}
use Rattle.asn1_compilation.specs.Messages.{accepts}
use Rattle.asn1_compilation.proofs.Accepted.{accepted_if_told, accepted_in_front}
use Rattle.asn1_compilation.proofs.stages.schema_messages.Goals as goal

pub returns : goal.returns
returns c = λ accepted.
    let messages = c.in_ok-messages.messages.items in
    let externs = c.append.new.self.items in
    let front : accepts externs ≡ true = accepted_in_front externs c.in_ok-extern_module_errors.field-0.items (ap accepts (sym c.in_ok-append-2.ensures.items) ∙ accepted) in
    let own : accepts messages ≡ true = accepted_in_front messages c.in_ok-extern_errors.field-0.items (ap accepts (sym c.in_ok-append.ensures.items) ∙ front) in
    accepted_if_told c.args.problems.now messages c.in_ok-messages.ensures own
