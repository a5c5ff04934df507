use Rattle.asn1_spelling.proofs.ChoicesAlike.{choice_distinct}
use Rattle.asn1_spelling.proofs.choices.sets_in_choices_are_distinct.Goals as goal

pub returns : goal.returns
returns g c =
    choice_distinct g.T.Choice.alternatives g.T.Choice.pick g.T.AsnType.meaning g.met.T.ChoiceType.agrees c.requires.each
