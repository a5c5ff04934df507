use Rattle.std.proofs.Common.{◌≡◌, ◌*◌, ◌+◌, take}
use Rattle.asn1_module_check.specs.FirstTags.{both, capped, first_within, of_each, seen}
use Rattle.asn1_module_check.proofs.first_tags.+first_tags.Given as goal

abbrev pub decreases-add_first_tags : goal.decreases-add_first_tags
decreases-add_first_tags l = 2 * l.depth

abbrev pub decreases-add_alternatives : goal.decreases-add_alternatives
decreases-add_alternatives l = 2 * l.depth + 1

abbrev pub invariant-add_alternatives-loop-alternative : goal.invariant-add_alternatives-loop-alternative
invariant-add_alternatives-loop-alternative l = capped (seen l.tree)
    ≡ capped (both (seen l.fn.tree) (of_each (λ alternative. first_within l.schema l.depth alternative.definition.kind) (take l.alternative-index l.alternatives)))
