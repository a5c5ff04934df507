use Rattle.std.proofs.Common.{Vec, subst, sym}
use Rattle.std.specs.declared.alloc.Global.{Global}
use Rattle.asn1_grammar.specs.Settings.{AreDistinct}
use Rattle.asn1_grammar.specs.declared.objects.Setting.{Setting}
use Rattle.asn1_grammar.proofs.objects.by_syntax.Goals as goal
use Rattle.asn1_grammar.proofs.objects.by_syntax.Goals.{in-Close, in-Open+then-not-enters, in-Open+else-not-enters, in-Word+else-not-sees_text, in-Field+in_ok-set_field-in-Field}

pub returns-in_err-set_field-in-Field : goal.returns-in_err-set_field-in-Field
returns-in_err-set_field-in-Field c = record { distinct = λ before. c.set_field.ensures.distinct (c.loop.invariant before) }

pub loop-preserved : goal.loop-preserved
loop-preserved c = λ before.
    let D = λ (settings : Vec Setting Global). AreDistinct settings.items in
    let kept : AreDistinct c.loop.settings.items = c.loop.invariant before in
    elim c.match-step.branch [
      | in-Close w ↦ subst D (sym w.settings-is) kept
      | in-Open+then-not-enters w ↦ subst D (sym w.settings-is) kept
      | in-Open+else-not-enters w ↦ subst D (sym w.settings-is) kept
      | in-Word+else-not-sees_text w ↦ subst D (sym w.settings-is) kept
      | in-Field+in_ok-set_field-in-Field w ↦ subst D (sym w.settings-is) (w.set_field.ensures.distinct kept)
    ]
