use Rattle.asn1_circles.proofs.UnrolledWriting.{writes_made}
use Rattle.asn1_circles.specs.Words.{constraint_set, name_of}
use Rattle.asn1_ldap.specs.FilterMeaning.{is_made}
use Rattle.asn1_ldap.proofs.filter.FilterEncode.+filter.Goals as goal

-- what is written of a value is what is written of what it is made of
pub returns : goal.returns
returns g t c =
    let v = c.args.self.now in
    writes_made g.E.Encoder.writer c.args.encoder.now _ c.encode_with_tag_and_constraints.result
    (is_made.records v c.args.tag (constraint_set c.args.constraints.now) (name_of c.args.name)) (is_made.of_type_back v) (rw c.deref.ensures at c.encode_with_tag_and_constraints.ensures)
