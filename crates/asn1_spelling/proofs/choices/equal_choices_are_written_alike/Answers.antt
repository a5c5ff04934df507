use Rattle.asn1_spelling.proofs.ChoicesAlike.{choice_alike}
use Rattle.asn1_spelling.proofs.choices.equal_choices_are_written_alike.Goals as goal

pub returns : goal.returns
returns g c =
    choice_alike g.T.Choice.alternatives g.T.Choice.pick g.T.AsnType.meaning g.T.PartialEq.eq g.es g.met.T.ChoiceType.agrees c.requires.1.1 c.requires.1.0
