use Rattle.std.proofs.Common.{Err, Ok, Result, subst}
use Rattle.std.specs.Prelude.{IfErr, IfOk, OnOk}
use Rattle.asn1_certificate_input.proofs.NextAnswers.{next_refused, next_shown}
use Rattle.asn1_certificate_input.specs.Refused.{IsRefusalOf}
use Rattle.asn1_certificate_input.specs.Shown.{IsShownOf}
use Rattle.asn1_certificate_input.proofs.output.Output.add_answer.Goals as goal

-- three facts of a success, and four
three : {T E P Q R All : Type 0} (r : Result T E) → (P → Q → R → All) → OnOk r P → OnOk r Q → OnOk r R → OnOk r All
three (Ok x) join p q r = join p q r
three (Err e) join p q r = tt

four : {T E P Q R S All : Type 0} (r : Result T E) → (P → Q → R → S → All) → OnOk r P → OnOk r Q → OnOk r R → OnOk r S → OnOk r All
four (Ok x) join p q r s = join p q r s
four (Err e) join p q r s = tt

pub returns-in-Ok : goal.returns-in-Ok
returns-in-Ok c = λ count found next numbered answers shows _.
    three c.add.result
    (next_shown c.args.options count found next c.args.number numbered _ c.in-Ok.shown.bytes.items _ _ _ c.in-Ok.shown.warnings _ _ answers
    (subst (λ answer. IfOk answer (λ shown. IsShownOf c.args.options next shown.bytes.items shown.warnings)) c.in-Ok.is shows))
    c.add.ensures.added c.add.ensures.warned c.add.ensures.same

pub returns-in-Err : goal.returns-in-Err
returns-in-Err c = λ count found next numbered answers _ refuses.
    four c.refuse.result
    (next_refused c.args.options count found next c.args.number numbered _ _ _ _ c.in-Err.error _ _ answers
    (subst (λ answer. IfErr answer (IsRefusalOf c.args.options next)) c.in-Err.is refuses))
    c.refuse.ensures.same c.refuse.ensures.added c.refuse.ensures.refused c.refuse.ensures.not_memory
