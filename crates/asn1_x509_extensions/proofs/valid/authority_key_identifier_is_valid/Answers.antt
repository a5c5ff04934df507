use Rattle.asn1_x509_extensions.proofs.ValidNames.{key_valid}
use Rattle.asn1_x509_extensions.proofs.valid.authority_key_identifier_is_valid.Goals as goal

pub returns : goal.returns
returns c = λ accepts. key_valid accepts c.args.key.now
