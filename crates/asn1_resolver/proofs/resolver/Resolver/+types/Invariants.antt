use Rattle.std.proofs.Common.{◌*◌, ◌+◌}
use Rattle.asn1_resolver.proofs.resolver.Resolver.+types.Given as goal

abbrev pub decreases-resolve_type : goal.decreases-resolve_type
decreases-resolve_type l = 16 * l.depth + 0

abbrev pub decreases-resolve_boxed : goal.decreases-resolve_boxed
decreases-resolve_boxed l = 16 * l.depth + 1

abbrev pub decreases-resolve_component_type : goal.decreases-resolve_component_type
decreases-resolve_component_type l = 16 * l.depth + 1

abbrev pub decreases-resolve_listed : goal.decreases-resolve_listed
decreases-resolve_listed l = 16 * l.depth + 2

abbrev pub decreases-resolve_components : goal.decreases-resolve_components
decreases-resolve_components l = 16 * l.depth + 3

abbrev pub decreases-resolve_alternatives : goal.decreases-resolve_alternatives
decreases-resolve_alternatives l = 16 * l.depth + 3

abbrev pub decreases-resolve_kind : goal.decreases-resolve_kind
decreases-resolve_kind l = 16 * l.depth + 4

abbrev pub decreases-resolve_selection : goal.decreases-resolve_selection
decreases-resolve_selection l = 16 * l.depth + 3
