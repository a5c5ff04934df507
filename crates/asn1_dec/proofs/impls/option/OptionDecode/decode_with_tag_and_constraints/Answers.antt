use Rattle.asn1_model.specs.ConstraintSets.{constraint_set}
use Rattle.asn1_laws.proofs.ReadingOptionals.{after_option}
use Rattle.asn1_dec.proofs.impls.option.OptionDecode.decode_with_tag_and_constraints.Goals as goal

pub returns-clause-read : goal.returns-clause-read
returns-clause-read g c = λ v n rest outer can of_type valid follow.
    c.decode_optional_with_tag_and_constraints.ensures.read v n rest outer can of_type valid (after_option g.T.AsnType.meaning c.args.tag (constraint_set c.args.constraints.now) n v rest follow)
