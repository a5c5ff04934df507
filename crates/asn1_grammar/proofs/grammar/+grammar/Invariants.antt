use Rattle.asn1_grammar.proofs.grammar.+grammar.Given as goal

abbrev pub decreases-parse_type : goal.decreases-parse_type
decreases-parse_type l = l.depth

abbrev pub decreases-parse_constraint : goal.decreases-parse_constraint
decreases-parse_constraint l = l.depth
