use Rattle.std.proofs.Common.{◌∙◌}
use Rattle.std.specs.Str.{bytes_eq}
use Rattle.asn1_components.proofs.LabelSearches.{part_found}
use Rattle.asn1_components.proofs.enumerated_table.AnyEnumeratedTable.number_of_name.Goals as goal

pub returns : goal.returns
returns g c =
    c.number_of.ensures
    ∙ part_found g.E.EnumeratedItems.enumeration (λ l. bytes_eq l.name c.args.name.now) c.items.result.now c.additions.result.now c.items.ensures c.additions.ensures (λ l. l.number)
