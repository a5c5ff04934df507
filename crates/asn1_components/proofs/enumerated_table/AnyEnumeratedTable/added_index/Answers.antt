use Rattle.std.proofs.Common.{◌≡◌, ap, map, subst, sym, w64, ◌∙◌}
use Rattle.std.specs.List.{position}
use Rattle.std.specs.Ordering.{int_eq}
use Rattle.std.proofs.lemmas.Int.{to_z-of_z}
use Rattle.asn1_components.specs.LabelLaws.{added_labels_are}
use Rattle.asn1_components.specs.Labels.{label_of}
use Rattle.asn1_components.proofs.LabelSearches.{index_of_number}
use Rattle.asn1_components.proofs.enumerated_table.AnyEnumeratedTable.added_index.Goals as goal

pub returns : goal.returns
returns g c =
    let given = to_z-of_z w64 c.args.number c.ranges.number in
    subst (λ n. c.index_of.result ≡ position (λ l. int_eq l.1 n) c.additions.result.now) given c.index_of.ensures
    ∙ index_of_number c.additions.result.now _ (ap (map label_of) c.additions.ensures ∙ sym (added_labels_are g.E.EnumeratedItems.enumeration)) c.args.number
