use Rattle.std.proofs.Common.{ℕ, List, ◌≡◌, ◌++◌, ◌∙◌, ap, codes}
use Rattle.std.specs.Option.{option_copied}
use Rattle.std.specs.String.{string_bytes}
use Rattle.asn1_ldap_stream.specs.Beginnings.{name_at}
use Rattle.asn1_ldap_stream.specs.Elements.{label}
use Rattle.asn1_ldap_stream.proofs.unknown.unknown_line.Goals as goal

pub returns : goal.returns
returns c =
    let number = c.in_ok-number.number in
    let cause = string_bytes c.in_ok-cause.cause in
    let labelled : string_bytes c.push_label.new.text ≡ label number (name_at c.args.beginning.operation.now) =
    c.in_ok-push_label.ensures ∙ ap (λ l. l ++ label number (option_copied c.operation_in.result)) c.new-text.ensures.bytes
    ∙ ap (λ name. label number name) c.operation_in.ensures in
    record {
      number = number;
      known = c.in_ok-number.ensures;
      cause = cause;
      line = c.in_ok-writeln.ensures.bytes ∙ ap (λ l. l ++ (codes "not understood: " ++ (cause ++ codes "\n"))) labelled;
    }
