use Rattle.asn1_resolver.proofs.resolver.Resolver.+include_from.Given as goal

abbrev pub decreases-include_from : goal.decreases-include_from
decreases-include_from l = l.depth
