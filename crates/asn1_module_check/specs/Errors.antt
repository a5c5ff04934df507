-- Problems that are errors.
use Rattle.std.specs.Prelude.{◌≡◌}
use Rattle.asn1_resolved.specs.declared.problem.Problem.{Problem}
use Rattle.asn1_resolved.specs.declared.problem.Severity.TheVariants.{Error}

-- Modules with the problem cannot be used.
abbrev pub IsError : Problem → Type 0
IsError problem = problem.severity ≡ Error
