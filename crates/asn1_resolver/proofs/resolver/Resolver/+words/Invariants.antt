use Rattle.std.proofs.Common.{◌*◌, ◌+◌}
use Rattle.asn1_resolver.proofs.resolver.Resolver.+words.Given as goal

abbrev pub decreases-push_type_words : goal.decreases-push_type_words
decreases-push_type_words l = 4 * l.depth + 0

abbrev pub decreases-push_words : goal.decreases-push_words
decreases-push_words l = 4 * l.depth + 1

abbrev pub decreases-push_argument_words : goal.decreases-push_argument_words
decreases-push_argument_words l = 4 * l.depth + 2
