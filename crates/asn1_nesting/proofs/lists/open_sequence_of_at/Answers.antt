use Rattle.std.specs.Cmp.Lexicographic.{pointwise}
use Rattle.std.specs.Global.{Vec}
use Rattle.asn1_model.specs.ConstraintSets.{constraint_set}
use Rattle.asn1_nesting.proofs.OpenAndClosedSequences.{less_depth, opened_sequence_of, sequence_of_not_opened}
use Rattle.asn1_nesting.proofs.lists.open_sequence_of_at.Goals as goal

pub returns-clause-opened : goal.returns-clause-opened
returns-clause-opened g c =
    opened_sequence_of g.D.Decoder.reader c.args.tag (constraint_set c.args.constraints.now) c.args.decoder.now c.open_sequence_of.new.self c.open_sequence_of.result c.open_sequence_of.ensures.read c.open_sequence_of.ensures.takes_depth

pub returns-clause-deeper : goal.returns-clause-deeper
returns-clause-deeper g c = less_depth g.D.Decoder.reader c.args.decoder.now c.open_sequence_of.new.self c.open_sequence_of.result c.open_sequence_of.ensures.takes_depth.one_less

pub returns-clause-not_read : goal.returns-clause-not_read
returns-clause-not_read g c =
    sequence_of_not_opened g.D.Decoder.reader g.T.AsnType.meaning (λ (w : Vec g.row.T.Denot). pointwise g.T.PartialEq.eq w.items) c.args.tag (constraint_set c.args.constraints.now) c.args.decoder.now c.open_sequence_of.new.self c.open_sequence_of.result c.open_sequence_of.ensures.read
