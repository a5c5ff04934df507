use Rattle.std.proofs.Common.{◌≡◌, take}
use Rattle.asn1_module_check.specs.FirstTags.{first_tags, of_each}
use Rattle.asn1_module_check.proofs.tables.group_tags.Given as goal

abbrev pub invariant-loop-component : goal.invariant-loop-component
invariant-loop-component l =
    let all = of_each (λ component. first_tags l.schema component.definition.kind) (take l.component-index l.components) in
    (l.tree.tags.items ≡ all.tags) × (l.tree.has_empty_choice ≡ all.is_any)
