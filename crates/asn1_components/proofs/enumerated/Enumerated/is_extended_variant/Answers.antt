use Rattle.std.proofs.Common.{◌↔◌, IsTrue, Contains, sym, subst}
use Rattle.asn1_components.specs.Enumerations.{added, values}
use Rattle.asn1_components.proofs.EnumerationFacts.{is_found}
use Rattle.asn1_components.proofs.ItemSearches.{index_found}
use Rattle.asn1_components.proofs.enumerated.Enumerated.is_extended_variant.Goals as goal

pub returns : goal.returns
returns g c =
    let eq = g.Self.PartialEq.eq in
    let e = g.Self.EnumeratedItems.enumeration in
    let laws = g.met.Self.Enumerated in
    let v = c.args.self.now in
    let found = index_found (λ i. eq i.value v) c.additions.result.now (added e) c.index_in.result c.index_in.ensures c.additions.ensures in
    subst (λ b. IsTrue b ↔ Contains (values (added e)) v) (sym c.is_some.ensures)
    (is_found eq g.met.Self.Eq.laws e laws.complete laws.lawful.distinct (added e) v c.index_in.result found)
