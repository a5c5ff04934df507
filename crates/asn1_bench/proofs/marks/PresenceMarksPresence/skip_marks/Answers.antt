use Rattle.std.proofs.Common.{◌++◌, ap, sym, subst, ◌∙◌}
use Rattle.std.specs.List.{flat_map}
use Rattle.asn1_laws.specs.Reading.{marks_passed}
use Rattle.asn1_items.specs.Items.{HaveBytes, packed_marks, read_with}
use Rattle.asn1_items.specs.Slices.{left_inside}
use Rattle.asn1_model.specs.Records.{held}
use Rattle.asn1_bench.proofs.MarksSkipped.{marks_in_front, skipped}
use Rattle.asn1_bench.proofs.marks.PresenceMarksPresence.skip_marks.Goals as goal

pub returns-clause-passed : goal.returns-clause-passed
returns-clause-passed c = λ rs have. subst (HaveBytes (read_with packed_marks) (held (marks_passed rs))) (sym c.skip_marks.ensures.inside) (skipped rs _ have)

pub returns-clause-only : goal.returns-clause-only
returns-clause-only c =
    let front = marks_in_front (left_inside c.args.slices.now) in
    record { passed = front.passed; left = front.are ∙ ap (λ l. flat_map (λ m. packed_marks m) front.passed ++ l) (sym c.skip_marks.ensures.inside) }
