use Rattle.std.proofs.Common.{ap, ◌∙◌}
use Rattle.std.specs.List.{slice_get}
use Rattle.asn1_components.specs.Enumerations.{values}
use Rattle.asn1_components.proofs.ItemSearches.{value_of_row}
use Rattle.asn1_components.proofs.enumerated.Enumerated.from_extended_enumeration_index.Goals as goal

pub returns : goal.returns
returns g c =
    c.value_at.ensures
    ∙ (value_of_row c.additions.result.now c.args.index ∙ ap (λ items. slice_get (values items) c.args.index) c.additions.ensures)
