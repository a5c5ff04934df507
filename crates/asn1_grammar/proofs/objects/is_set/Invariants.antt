use Rattle.std.proofs.Common.{◌≢◌, ℕ, ◌<◌, get_or}
use Rattle.asn1_grammar.specs.declared.objects.Setting.{Setting}
use Rattle.asn1_grammar.proofs.objects.is_set.Given as goal

abbrev pub invariant-loop-setting : goal.invariant-loop-setting
invariant-loop-setting l = (k : ℕ) (none : Setting) → k < l.setting-index → (get_or l.settings k none).field ≢ l.field
