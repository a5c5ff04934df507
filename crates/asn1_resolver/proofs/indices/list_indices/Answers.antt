use Rattle.std.proofs.Common.{◌≤◌, ◌++◌, length, sym, ap, ◌∙◌, arith}
use Rattle.std.specs.List.{flat_map}
use Rattle.std.proofs.lemmas.List.{take_all}
use Rattle.asn1_resolved.proofs.TypesInside.{in_schema}
use Rattle.asn1_resolver.specs.Indices.{indices_in, index_of_reference}
use Rattle.asn1_resolver.proofs.indices.list_indices.Goals as goal

pub returns : goal.returns
returns c =
    let values = c.args.schema.now.values.items in
    let index = c.loop-value.value-index in
    let over : length c.deref-value-items.result.now ≤ index = omega arith in
    let all : length values ≤ index = omega (arith, over, ap length c.deref-value-items.ensures.value) in
    c.loop-value.invariant
    ∙ (ap (λ xs. flat_map (λ defined. indices_in defined.definition.kind) c.args.schema.now.types.items
    ++ flat_map (λ defined. indices_in defined.definition.kind) xs) (take_all index values all)
    ∙ sym (in_schema index_of_reference c.args.schema.now))
