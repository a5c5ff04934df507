use Rattle.asn1_grammar.specs.Settings.{AreDistinct}
use Rattle.asn1_grammar.proofs.objects.by_syntax.Given as goal

abbrev pub invariant-loop : goal.invariant-loop
invariant-loop l = AreDistinct l.initial.settings.items → AreDistinct l.settings.items
