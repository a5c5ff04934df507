use Rattle.std.proofs.Common.{◌++◌, ◌∙◌, ap, subst, sym}
use Rattle.std.specs.List.{AllPass}
use Rattle.asn1_ldap_text.specs.Controls.{controls_lines}
use Rattle.asn1_ldap_text.specs.Escapes.{is_visible}
use Rattle.asn1_ldap_text.specs.Messages.{message_line}
use Rattle.asn1_ldap_text.proofs.PrintableMessages.{message_passes}
use Rattle.asn1_ldap_text.proofs.messages.message_text.Goals as goal

pub returns-clause-visible : goal.returns-clause-visible
returns-clause-visible c =
    let m = c.args.message.now in
    subst (AllPass is_visible)
    (sym (c.in_ok-push_controls.ensures ∙ ap (λ l. l ++ controls_lines m.controls) (c.in_ok-push_line.ensures ∙ ap (λ l. l ++ message_line m) c.new-text.ensures.bytes)))
    (message_passes m)
