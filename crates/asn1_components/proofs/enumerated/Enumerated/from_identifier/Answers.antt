use Rattle.std.proofs.Common.{◌≡◌, IfSome, [], sym, ◌∙◌, subst}
use Rattle.std.specs.Str.{bytes_eq}
use Rattle.std.proofs.lemmas.Slice.Eq.{bytes_eq-Decides}
use Rattle.asn1_components.specs.Enumerations.{name_of}
use Rattle.asn1_components.proofs.EnumerationFacts.{back, only}
use Rattle.asn1_components.proofs.ItemSearches.{value_found}
use Rattle.asn1_components.proofs.enumerated.Enumerated.from_identifier.Goals as goal

pub returns-clause-back : goal.returns-clause-back
returns-clause-back g c = λ v same.
    let e = g.Self.EnumeratedItems.enumeration in
    let laws = g.met.Self.Enumerated in
    c.with_name.ensures
    ∙ (value_found e (λ i. bytes_eq i.name c.args.identifier.now) c.items.result.now c.additions.result.now c.items.ensures c.additions.ensures
    ∙ back g.Self.PartialEq.eq g.met.Self.Eq.laws e laws.complete laws.lawful.distinct (λ i. i.name) bytes_eq bytes_eq-Decides
    (λ i j d lt within. (laws.lawful.distinct i j d lt within).name) [] c.args.identifier.now v same)

pub returns-clause-only : goal.returns-clause-only
returns-clause-only g c =
    let e = g.Self.EnumeratedItems.enumeration in
    let laws = g.met.Self.Enumerated in
    let found =
    c.with_name.ensures
    ∙ value_found e (λ i. bytes_eq i.name c.args.identifier.now) c.items.result.now c.additions.result.now c.items.ensures c.additions.ensures in
    subst (λ o. IfSome o (λ v. name_of g.Self.PartialEq.eq e v ≡ c.args.identifier.now)) (sym found)
    (only g.Self.PartialEq.eq g.met.Self.Eq.laws e laws.complete laws.lawful.distinct (λ i. i.name) bytes_eq bytes_eq-Decides
    (λ i j d lt within. (laws.lawful.distinct i j d lt within).name) [] c.args.identifier.now)
