use Rattle.std.proofs.Common.{◌*◌, ◌+◌}
use Rattle.asn1_resolver.proofs.resolver.Resolver.+values.Given as goal

abbrev pub decreases-inner_value : goal.decreases-inner_value
decreases-inner_value l = 16 * l.depth + 0

abbrev pub decreases-add_arc : goal.decreases-add_arc
decreases-add_arc l = 16 * l.depth + 3

abbrev pub decreases-components_value : goal.decreases-components_value
decreases-components_value l = 16 * l.depth + 3

abbrev pub decreases-elements_value : goal.decreases-elements_value
decreases-elements_value l = 16 * l.depth + 3

abbrev pub decreases-alternative_value : goal.decreases-alternative_value
decreases-alternative_value l = 16 * l.depth + 3

abbrev pub decreases-open_value : goal.decreases-open_value
decreases-open_value l = 16 * l.depth + 6

abbrev pub decreases-word_value : goal.decreases-word_value
decreases-word_value l = 16 * l.depth + 5

abbrev pub decreases-identifier_value : goal.decreases-identifier_value
decreases-identifier_value l = 16 * l.depth + 4

abbrev pub decreases-list_value : goal.decreases-list_value
decreases-list_value l = 16 * l.depth + 5

abbrev pub decreases-literal : goal.decreases-literal
decreases-literal l = 16 * l.depth + 7

abbrev pub decreases-characters_value : goal.decreases-characters_value
decreases-characters_value l = 16 * l.depth + 3
