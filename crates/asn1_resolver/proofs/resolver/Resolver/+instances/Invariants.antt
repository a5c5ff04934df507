use Rattle.std.proofs.Common.{◌*◌, ◌+◌}
use Rattle.asn1_resolver.proofs.resolver.Resolver.+instances.Given as goal

abbrev pub decreases-meant : goal.decreases-meant
decreases-meant l = 8 * l.depth + 0

abbrev pub decreases-completed_type : goal.decreases-completed_type
decreases-completed_type l = 8 * l.depth + 1

abbrev pub decreases-push_type_key : goal.decreases-push_type_key
decreases-push_type_key l = 8 * l.depth + 2

abbrev pub decreases-push_key : goal.decreases-push_key
decreases-push_key l = 8 * l.depth + 3

abbrev pub decreases-key_of : goal.decreases-key_of
decreases-key_of l = 8 * l.depth + 4

abbrev pub decreases-meant_instance : goal.decreases-meant_instance
decreases-meant_instance l = 8 * l.depth + 5
