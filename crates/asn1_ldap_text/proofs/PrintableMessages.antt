-- The lines of messages have printable characters and line feeds alone.
use Rattle.std.proofs.Common.{◌≡◌, ℕ, Bool, true, false, ◌&&◌, ◌||◌, ◌==◌, List, [], ◌∷◌, ◌++◌, Option, None, Some, Vec, Global, codes, refl, ◌∙◌}
use Rattle.std.specs.List.{AllPass, flat_map, list_all}
use Rattle.std.proofs.lemmas.List.Folds.{list_all-append}
use Rattle.std.proofs.lemmas.List.Sums.{AllPass-from_list_all}
use Rattle.asn1_ldap.specs.declared.control.Control.{Control}
use Rattle.asn1_ldap.specs.declared.ldap_message.LdapMessage.{LdapMessage}
use Rattle.asn1_ldap_text.specs.Controls.{control_line, controls_lines, critical_text, criticality_text}
use Rattle.asn1_ldap_text.specs.Escapes.{is_printable, is_visible}
use Rattle.asn1_ldap_text.specs.Lengths.{optional_length}
use Rattle.asn1_ldap_text.specs.Messages.{message_line, message_lines, number_text}
use Rattle.asn1_ldap_text.specs.Operations.{operation_text}
use Rattle.asn1_ldap_text.specs.Strings.{word}
use Rattle.asn1_ldap_text.proofs.Printable.{Printable, both, integer_printable, passed}
use Rattle.asn1_ldap_text.proofs.PrintableFilters.{optional_length_printable, word_printable}
use Rattle.asn1_ldap_text.proofs.PrintableOperations.{operation_printable}
use Rattle.asn1_values.specs.Text.{integer_text}

-- each character is printable, or a line feed
abbrev Visible : List ℕ → Type 0
Visible text = list_all is_visible text ≡ true

both_visible : (a b : List ℕ) → Visible a → Visible b → Visible (a ++ b)
both_visible a b p q = list_all-append is_visible a b ∙ passed (list_all is_visible a) (list_all is_visible b) p q

-- a printable character is one of these
one_visible : (feed printable : Bool) (rest others : Bool) → (rest ≡ true → others ≡ true) → (printable && rest) ≡ true → ((feed || printable) && others) ≡ true
one_visible true true rest others h p = h p
one_visible false true rest others h p = h p
one_visible true false rest others h p = absurd (never p)
  where
    never : false ≡ true → ⊥
    never e = cc
one_visible false false rest others h p = p

printable_is_visible : (text : List ℕ) → Printable text → Visible text
printable_is_visible [] p = refl
printable_is_visible (c ∷ text) p =
    one_visible (c == 10) (is_printable c) (list_all is_printable text) (list_all is_visible text) (printable_is_visible text) p

critical_printable : (b : Bool) → Printable (critical_text b)
critical_printable true = refl
critical_printable false = refl

criticality_printable : (c : Control) → Printable (criticality_text c)
criticality_printable c =
    both (critical_text c.criticality) (optional_length (codes ", value") c.control_value) (critical_printable c.criticality)
    (optional_length_printable (codes ", value") c.control_value refl)

control_visible : (c : Control) → Visible (control_line c)
control_visible c =
    both_visible (word c.control_type) (criticality_text c ++ codes "\n") (printable_is_visible (word c.control_type) (word_printable c.control_type))
    (both_visible (criticality_text c) (codes "\n") (printable_is_visible (criticality_text c) (criticality_printable c)) refl)

each_visible : (controls : List Control) → Visible (flat_map control_line controls)
each_visible [] = refl
each_visible (c ∷ controls) = both_visible (control_line c) (flat_map control_line controls) (control_visible c) (each_visible controls)

controls_visible : (controls : Option (Vec Control Global)) → Visible (controls_lines controls)
controls_visible (Some controls) = each_visible controls.items
controls_visible None = refl

number_printable : (m : LdapMessage) → Printable (number_text m.message_id)
number_printable m = both (integer_text m.message_id) (codes " ") (integer_printable m.message_id) refl

line_visible : (m : LdapMessage) → Visible (message_line m)
line_visible m =
    both_visible (number_text m.message_id) (operation_text m.protocol_op ++ codes "\n") (printable_is_visible (number_text m.message_id) (number_printable m))
    (both_visible (operation_text m.protocol_op) (codes "\n") (printable_is_visible (operation_text m.protocol_op) (operation_printable m.protocol_op)) refl)

-- each character of a message's lines passes the test
pub message_passes : (m : LdapMessage) → AllPass is_visible (message_lines m)
message_passes m =
    AllPass-from_list_all is_visible (message_lines m)
    (both_visible (message_line m) (controls_lines m.controls) (line_visible m) (controls_visible m.controls))
