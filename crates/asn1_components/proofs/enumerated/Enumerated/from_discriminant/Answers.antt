use Rattle.std.proofs.Common.{◌≡◌, ◌++◌, IfSome, pos, sym, ◌∙◌, subst, w64}
use Rattle.std.specs.List.{find}
use Rattle.std.specs.Option.{option_map}
use Rattle.std.proofs.lemmas.Int.{to_z-of_z}
use Rattle.std.specs.Ordering.{int_eq}
use Rattle.std.proofs.lemmas.Bool.Decides.{Decides-int_eq}
use Rattle.asn1_components.specs.Enumerations.{number_of}
use Rattle.asn1_components.proofs.EnumerationFacts.{back, only}
use Rattle.asn1_components.proofs.ItemSearches.{value_found}
use Rattle.asn1_components.proofs.enumerated.Enumerated.from_discriminant.Goals as goal

pub returns-clause-back : goal.returns-clause-back
returns-clause-back g c = λ v same.
    let e = g.Self.EnumeratedItems.enumeration in
    let laws = g.met.Self.Enumerated in
    let rows = c.items.result.now ++ c.additions.result.now in
    let given = to_z-of_z w64 c.args.discriminant c.ranges.discriminant in
    let answer = subst (λ n. c.with_number.result ≡ option_map (λ l. l.0) (find (λ l. int_eq l.1 n) rows)) given c.with_number.ensures in
    answer
    ∙ (value_found e (λ i. int_eq i.number c.args.discriminant) c.items.result.now c.additions.result.now c.items.ensures c.additions.ensures
    ∙ back g.Self.PartialEq.eq g.met.Self.Eq.laws e laws.complete laws.lawful.distinct (λ i. i.number) int_eq Decides-int_eq
    (λ i j d lt within. (laws.lawful.distinct i j d lt within).number) (pos 0) c.args.discriminant v same)

pub returns-clause-only : goal.returns-clause-only
returns-clause-only g c =
    let e = g.Self.EnumeratedItems.enumeration in
    let laws = g.met.Self.Enumerated in
    let rows = c.items.result.now ++ c.additions.result.now in
    let given = to_z-of_z w64 c.args.discriminant c.ranges.discriminant in
    let answer = subst (λ n. c.with_number.result ≡ option_map (λ l. l.0) (find (λ l. int_eq l.1 n) rows)) given c.with_number.ensures in
    let found =
    answer
    ∙ value_found e (λ i. int_eq i.number c.args.discriminant) c.items.result.now c.additions.result.now c.items.ensures c.additions.ensures in
    subst (λ o. IfSome o (λ v. number_of g.Self.PartialEq.eq e v ≡ c.args.discriminant)) (sym found)
    (only g.Self.PartialEq.eq g.met.Self.Eq.laws e laws.complete laws.lawful.distinct (λ i. i.number) int_eq Decides-int_eq
    (λ i j d lt within. (laws.lawful.distinct i j d lt within).number) (pos 0) c.args.discriminant)
