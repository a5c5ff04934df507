use Rattle.std.specs.Prelude.{Some, codes}
use Rattle.asn1_tags.specs.Names.{name_of}
use Rattle.asn1_laws.proofs.WritingNames.{named_or}
use Rattle.asn1_enc.proofs.impls.lists.VecEncode.encode_with_tag_and_constraints.Goals as goal

pub returns : goal.returns
returns g c =
    rw (← c.deref.ensures.value, ← named_or (name_of c.args.name) (Some (codes "SEQUENCE_OF")) (name_of c.or.result) c.or.ensures.named c.or.ensures.empty) c.encode_sequence_of.ensures.writes
