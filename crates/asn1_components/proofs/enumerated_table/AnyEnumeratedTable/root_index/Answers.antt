use Rattle.std.proofs.Common.{◌≡◌, ap, map, subst, w64, ◌∙◌}
use Rattle.std.specs.List.{position}
use Rattle.std.specs.Ordering.{int_eq}
use Rattle.std.proofs.lemmas.Int.{to_z-of_z}
use Rattle.asn1_components.specs.Labels.{label_of}
use Rattle.asn1_components.proofs.LabelSearches.{index_of_number}
use Rattle.asn1_components.proofs.enumerated_table.AnyEnumeratedTable.root_index.Goals as goal

pub returns : goal.returns
returns g c =
    let given = to_z-of_z w64 c.args.number c.ranges.number in
    subst (λ n. c.index_of.result ≡ position (λ l. int_eq l.1 n) c.items.result.now) given c.index_of.ensures
    ∙ index_of_number c.items.result.now _ (ap (map label_of) c.items.ensures) c.args.number
