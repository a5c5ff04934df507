use Rattle.std.proofs.Common.{sym, ap, ◌∙◌}
use Rattle.std.specs.Option.{option_map}
use Rattle.std.proofs.lemmas.Option.{none-some}
use Rattle.asn1_components.specs.ItemTables.{item_view}
use Rattle.asn1_components.proofs.EnumerationFacts.{its_item}
use Rattle.asn1_components.proofs.ItemSearches.{row_found}
use Rattle.asn1_components.proofs.enumerated.own_item.Goals as goal

-- each value has its item
pub unreachable-requires : goal.unreachable-requires
unreachable-requires g c =
    let v = c.args.value.now in
    let e = g.T.EnumeratedItems.enumeration in
    let eq = g.T.PartialEq.eq in
    let its = its_item eq g.met.T.Eq.laws e g.met.T.Enumerated.complete g.met.T.Enumerated.lawful.distinct v in
    none-some its.0
    (ap (option_map item_view) (c.in-None.ensures {u = tt})
    ∙ (row_found e (λ i. eq i.value v) c.items.result.now c.additions.result.now c.items.ensures c.additions.ensures ∙ its.1))

pub returns : goal.returns
returns g c =
    let e = g.T.EnumeratedItems.enumeration in
    let eq = g.T.PartialEq.eq in
    sym (row_found e (λ i. eq i.value c.args.value.now) c.items.result.now c.additions.result.now c.items.ensures c.additions.ensures)
    ∙ sym (ap (option_map item_view) (c.in-Some.ensures {u = tt}))
