use Rattle.std.proofs.Common.{ap, map, sym, ◌∙◌}
use Rattle.asn1_components.specs.LabelLaws.{added_labels_are}
use Rattle.asn1_components.specs.Labels.{label_of}
use Rattle.asn1_components.proofs.LabelSearches.{number_at_index}
use Rattle.asn1_components.proofs.enumerated_table.AnyEnumeratedTable.added_number.Goals as goal

pub returns : goal.returns
returns g c =
    c.number_at.ensures
    ∙ number_at_index c.additions.result.now _ (ap (map label_of) c.additions.ensures ∙ sym (added_labels_are g.E.EnumeratedItems.enumeration)) c.args.index
