use Rattle.asn1_components.specs.Alternatives.{all_of}
use Rattle.asn1_components.specs.ChosenTags.{tag_identifies}
use Rattle.asn1_components.proofs.choices.the_chosen_tag_identifies_the_alternative.Goals as goal

-- a well tagged CHOICE has alternatives with distinct tags, which can be chosen
pub returns : goal.returns
returns g c = λ t v well.
    let can = (g.met.T.ChoiceType.agrees.distinct_tags t).0 well in
    tag_identifies (all_of g.T.Choice.alternatives) can.0 can.1 (g.T.Choice.pick v)
