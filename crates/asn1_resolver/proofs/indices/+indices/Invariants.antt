use Rattle.std.proofs.Common.{◌≡◌, ◌++◌, take}
use Rattle.std.specs.List.{flat_map}
use Rattle.asn1_resolved.specs.TypesInside.{types_in_addition}
use Rattle.asn1_resolver.specs.Indices.{indices_in, index_of_reference}
use Rattle.asn1_resolver.proofs.indices.+indices.Given as goal

abbrev pub invariant-list_chosen-loop-alternative : goal.invariant-list_chosen-loop-alternative
invariant-list_chosen-loop-alternative l =
    l.indices.items ≡ l.fn.indices.items ++ flat_map (λ alternative. indices_in alternative.definition.kind) (take l.alternative-index l.alternatives)

abbrev pub invariant-list_components-loop-addition : goal.invariant-list_components-loop-addition
invariant-list_components-loop-addition l = l.indices.items
    ≡ l.initial.indices.items ++ flat_map (λ addition. flat_map index_of_reference (types_in_addition addition)) (take l.addition-index l.addition-items)

abbrev pub invariant-list_inner-loop-component : goal.invariant-list_inner-loop-component
invariant-list_inner-loop-component l =
    l.indices.items ≡ l.fn.indices.items ++ flat_map (λ component. indices_in component.definition.kind) (take l.component-index l.components)
