use Rattle.asn1_ldap_stream.specs.Elements.{understood}
use Rattle.asn1_ldap_stream.proofs.messages.MessageRules.element_text.Goals as goal

pub returns-in-Ok-clause-text : goal.returns-in-Ok-clause-text
returns-in-Ok-clause-text g c = understood c.in-Ok.ensures.lines
