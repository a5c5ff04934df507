use Rattle.std.proofs.Common.{◌*◌, ◌+◌}
use Rattle.asn1_grammar.proofs.values.+values.Given as goal

abbrev pub decreases-parse_value : goal.decreases-parse_value
decreases-parse_value l = 16 * l.depth + 0

abbrev pub decreases-listed_value : goal.decreases-listed_value
decreases-listed_value l = 16 * l.depth + 1

abbrev pub decreases-alternative : goal.decreases-alternative
decreases-alternative l = 16 * l.depth + 1

abbrev pub decreases-list_item : goal.decreases-list_item
decreases-list_item l = 16 * l.depth + 2

abbrev pub decreases-list : goal.decreases-list
decreases-list l = 16 * l.depth + 3
