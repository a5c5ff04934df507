use Rattle.std.proofs.Common.{ap, map, ◌∙◌}
use Rattle.asn1_components.specs.Labels.{label_of}
use Rattle.asn1_components.proofs.LabelSearches.{number_at_index}
use Rattle.asn1_components.proofs.enumerated_table.AnyEnumeratedTable.root_number.Goals as goal

pub returns : goal.returns
returns g c = c.number_at.ensures ∙ number_at_index c.items.result.now _ (ap (map label_of) c.items.ensures) c.args.index
