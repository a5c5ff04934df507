use Rattle.std.proofs.Common.{inl, inr, None, Some, sym}
use Rattle.asn1_components.specs.Enumerations.{added}
use Rattle.asn1_components.proofs.EnumerationFacts.{value_at, value_missing, somewhere, not_in_both}
use Rattle.asn1_components.proofs.ItemSearches.{index_found}
use Rattle.asn1_components.proofs.enumerated.Enumerated.enumeration_index.Goals as goal

pub unreachable-requires : goal.unreachable-requires
unreachable-requires g c =
    let eq = g.Self.PartialEq.eq in
    let equal = g.met.Self.Eq.laws in
    let e = g.Self.EnumeratedItems.enumeration in
    let laws = g.met.Self.Enumerated in
    let v = c.args.self.now in
    let not_root = sym (index_found (λ i. eq i.value v) c.items.result.now e.root None (c.in-None.ensures {u = tt}) c.items.ensures) in
    let not_added = sym (index_found (λ i. eq i.value v) c.additions.result.now (added e) None (c.in-None-index_in.ensures {u = tt}) c.additions.ensures) in
    elim (somewhere eq equal e laws.complete laws.lawful.distinct v) [
      | inl among ↦ value_missing eq equal e laws.complete laws.lawful.distinct e.root v not_root among
      | inr among ↦ value_missing eq equal e laws.complete laws.lawful.distinct (added e) v not_added among
    ]

pub returns-in-Some-clause-root : goal.returns-in-Some-clause-root
returns-in-Some-clause-root g c = λ among.
    let eq = g.Self.PartialEq.eq in
    let equal = g.met.Self.Eq.laws in
    let e = g.Self.EnumeratedItems.enumeration in
    let laws = g.met.Self.Enumerated in
    let v = c.args.self.now in
    value_at eq equal e laws.complete laws.lawful.distinct e.root v c.in-Some.index
    (sym (index_found (λ i. eq i.value v) c.items.result.now e.root (Some c.in-Some.index) (c.in-Some.ensures {u = tt}) c.items.ensures))

pub returns-in-Some-clause-extended : goal.returns-in-Some-clause-extended
returns-in-Some-clause-extended g c = λ among.
    let eq = g.Self.PartialEq.eq in
    let equal = g.met.Self.Eq.laws in
    let e = g.Self.EnumeratedItems.enumeration in
    let laws = g.met.Self.Enumerated in
    let v = c.args.self.now in
    let at = value_at eq equal e laws.complete laws.lawful.distinct e.root v c.in-Some.index
    (sym (index_found (λ i. eq i.value v) c.items.result.now e.root (Some c.in-Some.index) (c.in-Some.ensures {u = tt}) c.items.ensures)) in
    absurd (not_in_both eq equal e laws.complete laws.lawful.distinct v c.in-Some.index at among)

pub returns-in-Some-index_in-clause-root : goal.returns-in-Some-index_in-clause-root
returns-in-Some-index_in-clause-root g c = λ among.
    let eq = g.Self.PartialEq.eq in
    let equal = g.met.Self.Eq.laws in
    let e = g.Self.EnumeratedItems.enumeration in
    let laws = g.met.Self.Enumerated in
    let v = c.args.self.now in
    let not_root = sym (index_found (λ i. eq i.value v) c.items.result.now e.root None (c.in-None.ensures {u = tt}) c.items.ensures) in
    absurd (value_missing eq equal e laws.complete laws.lawful.distinct e.root v not_root among)

pub returns-in-Some-index_in-clause-extended : goal.returns-in-Some-index_in-clause-extended
returns-in-Some-index_in-clause-extended g c = λ among.
    let eq = g.Self.PartialEq.eq in
    let equal = g.met.Self.Eq.laws in
    let e = g.Self.EnumeratedItems.enumeration in
    let laws = g.met.Self.Enumerated in
    let v = c.args.self.now in
    value_at eq equal e laws.complete laws.lawful.distinct (added e) v c.in-Some-index_in.index
    (sym (index_found (λ i. eq i.value v) c.additions.result.now (added e) (Some c.in-Some-index_in.index) (c.in-Some-index_in.ensures {u = tt}) c.additions.ensures))
