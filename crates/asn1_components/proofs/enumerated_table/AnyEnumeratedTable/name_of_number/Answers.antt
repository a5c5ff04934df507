use Rattle.std.proofs.Common.{◌≡◌, ◌++◌, subst, w64, ◌∙◌}
use Rattle.std.specs.List.{find}
use Rattle.std.specs.Option.{option_map}
use Rattle.std.specs.Ordering.{int_eq}
use Rattle.std.proofs.lemmas.Int.{to_z-of_z}
use Rattle.asn1_components.proofs.LabelSearches.{part_found}
use Rattle.asn1_components.proofs.enumerated_table.AnyEnumeratedTable.name_of_number.Goals as goal

pub returns : goal.returns
returns g c =
    let given = to_z-of_z w64 c.args.number c.ranges.number in
    let rows = c.items.result.now ++ c.additions.result.now in
    subst (λ n. option_map (λ name. name.now) c.name_of.result ≡ option_map (λ l. l.2.now) (find (λ l. int_eq l.1 n) rows)) given c.name_of.ensures
    ∙ part_found g.E.EnumeratedItems.enumeration (λ l. int_eq l.number c.args.number) c.items.result.now c.additions.result.now c.items.ensures c.additions.ensures (λ l. l.name)
