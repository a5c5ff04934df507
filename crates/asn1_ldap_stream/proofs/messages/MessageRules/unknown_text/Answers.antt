use Rattle.asn1_ldap_stream.specs.Elements.{unknown}
use Rattle.asn1_ldap_stream.proofs.messages.MessageRules.unknown_text.Goals as goal

pub returns-in_ok-unknown_line-in-Some-clause-text : goal.returns-in_ok-unknown_line-in-Some-clause-text
returns-in_ok-unknown_line-in-Some-clause-text g c = unknown (record {
  error = c.args.error;
  not_read = c.requires.not_read;
  not_memory = c.requires.not_memory;
  message_id = c.in-Some.beginning.message_id.now;
  operation = c.in-Some.beginning.operation.now;
  begins = c.in-Some.ensures;
  line = c.in_ok-unknown_line-in-Some.ensures;
})
