use Rattle.std.proofs.Common.{◌≡◌, ◌∙◌, ◌++◌, None, ap, append-nil, refl, sym, subst, arith, length, eqb, eq-eqb}
use Rattle.std.proofs.lemmas.Bool.{and_from}
use Rattle.std.specs.Cmp.Lexicographic.{pointwise}
use Rattle.std.specs.Prelude.{◌==◌}
use Rattle.std.specs.Vec.Iter.{into_iter_items}
use Rattle.asn1_samples.specs.BadgeParts.{IsReadAsBadgePart, badge_index, badge_slots, label_type}
use Rattle.asn1_samples.specs.contracts.shape.ShapeAsnType.TheImpl.{ghosts as figures}
use Rattle.asn1_samples.proofs.ComingParts.{comes_into, one_came}
use Rattle.asn1_samples.specs.declared.badge.BadgePart.TheVariants.{Id, Label, Figure}
use Rattle.asn1_components.specs.Components.{all_components}
use Rattle.asn1_samples.specs.contracts.badge.BadgeFieldTable.TheImpl.{ghosts as badge}
use Rattle.asn1_model.specs.Readings.{AreElementsRead}
use Rattle.asn1_model.specs.Records.{in_root}
use Rattle.asn1_model.specs.TaggedTypes.{untagged}
use Rattle.asn1_model.specs.contracts.impls.built_in_integers.U32AsnType.TheImpl.{ghosts as numbers}
use Rattle.asn1_slots.specs.Slots.{HaveCome}
use Rattle.asn1_slots.specs.SlotsComing.{none_have_come, read_in_any_order, slots_of_own}
use Rattle.asn1_laws.proofs.SetRecords.{nothing}
use Rattle.asn1_laws.proofs.ReadingOnce.{none_yet, one_on, kept, passed, not_again, once, at_most_once, at_end, is_absent, is_component, optional_slot}
use Rattle.asn1_samples.proofs.badge.BadgeDecodeSet.from_fields.Goals as goal

pub loop-part-init : goal.loop-part-init
loop-part-init c = record {
  all = sym c.into_iter-part-iterator.ensures.into_iter_gives.0;
  id = none_yet badge_index 0 Id;
  label = none_yet badge_index 1 Label;
  shape = none_yet badge_index 2 Figure;
  come = λ rs none. subst (HaveCome badge_slots (None, None, None)) (sym none) (none_have_come badge_slots refl (None, None, None) (refl, (refl, (refl, tt))));
}

pub loop-part-preserved-in-Continue-1 : goal.loop-part-preserved-in-Continue-1
loop-part-preserved-in-Continue-1 c = record {
  all = one_on c.args.parts.items c.loop-part.yielded (into_iter_items c.loop-part.part-iterator) (into_iter_items c.next.new.self) c.in-Some.part c.loop-part.invariant.all c.in-Some.ensures.steps.0;
  id = kept badge_index 0 Id c.keep_once.new.slot c.in-Id.value c.in-Some.part c.loop-part.invariant.id c.in_ok-keep_once-in-Id.ensures.kept.0 c.in_ok-keep_once-in-Id.ensures.kept.1 c.in-Id.is (ap (λ p. badge_index p == 0) c.in-Id.is);
  label = passed badge_index 1 Label c.in-Some.part c.loop-part.invariant.label (ap (λ p. badge_index p == 1) c.in-Id.is);
  shape = passed badge_index 2 Figure c.in-Some.part c.loop-part.invariant.shape (ap (λ p. badge_index p == 2) c.in-Id.is);
  come = one_came IsReadAsBadgePart badge_slots refl c.loop-part.yielded c.in-Some.part 0 (c.loop-part.id, c.loop-part.label, c.loop-part.shape) (c.keep_once.new.slot, c.loop-part.label, c.loop-part.shape) (refl, (refl, tt))
      (λ own is. comes_into (untagged numbers.meaning) c.loop-part.id c.keep_once.new.slot c.in-Id.value own c.in_ok-keep_once-in-Id.ensures.kept (subst (λ p. IsReadAsBadgePart p own) c.in-Id.is is)) c.loop-part.invariant.come;
}

pub returns-in_err-keep_once-in-Id-clause-made : goal.returns-in_err-keep_once-in-Id-clause-made
returns-in_err-keep_once-in-Id-clause-made c = λ v are. absurd
    (not_again badge_index 0 Id c.in-Some.part c.args.parts.items (into_iter_items c.next.new.self) c.loop-part.invariant.id c.in_err-keep_once-in-Id.ensures.twice.0 (ap (λ p. badge_index p == 0) c.in-Id.is)
    (one_on c.args.parts.items c.loop-part.yielded (into_iter_items c.loop-part.part-iterator) (into_iter_items c.next.new.self) c.in-Some.part c.loop-part.invariant.all c.in-Some.ensures.steps.0) (are.none_twice 0))

pub loop-part-preserved-in-Continue-branch-2 : goal.loop-part-preserved-in-Continue-branch-2
loop-part-preserved-in-Continue-branch-2 c = record {
  all = one_on c.args.parts.items c.loop-part.yielded (into_iter_items c.loop-part.part-iterator) (into_iter_items c.next.new.self) c.in-Some.part c.loop-part.invariant.all c.in-Some.ensures.steps.0;
  id = passed badge_index 0 Id c.in-Some.part c.loop-part.invariant.id (ap (λ p. badge_index p == 0) c.in-Label.is);
  label = kept badge_index 1 Label c.keep_once-in-Label.new.slot c.in-Label.value c.in-Some.part c.loop-part.invariant.label c.in_ok-keep_once-in-Label.ensures.kept.0 c.in_ok-keep_once-in-Label.ensures.kept.1 c.in-Label.is (ap (λ p. badge_index p == 1) c.in-Label.is);
  shape = passed badge_index 2 Figure c.in-Some.part c.loop-part.invariant.shape (ap (λ p. badge_index p == 2) c.in-Label.is);
  come = one_came IsReadAsBadgePart badge_slots refl c.loop-part.yielded c.in-Some.part 1 (c.loop-part.id, c.loop-part.label, c.loop-part.shape) (c.loop-part.id, c.keep_once-in-Label.new.slot, c.loop-part.shape) (refl, (refl, tt))
      (λ own is. comes_into label_type c.loop-part.label c.keep_once-in-Label.new.slot c.in-Label.value own c.in_ok-keep_once-in-Label.ensures.kept (subst (λ p. IsReadAsBadgePart p own) c.in-Label.is is)) c.loop-part.invariant.come;
}

pub returns-in_err-keep_once-in-Label-clause-made : goal.returns-in_err-keep_once-in-Label-clause-made
returns-in_err-keep_once-in-Label-clause-made c = λ v are. absurd
    (not_again badge_index 1 Label c.in-Some.part c.args.parts.items (into_iter_items c.next.new.self) c.loop-part.invariant.label c.in_err-keep_once-in-Label.ensures.twice.0 (ap (λ p. badge_index p == 1) c.in-Label.is)
    (one_on c.args.parts.items c.loop-part.yielded (into_iter_items c.loop-part.part-iterator) (into_iter_items c.next.new.self) c.in-Some.part c.loop-part.invariant.all c.in-Some.ensures.steps.0) (are.none_twice 1))

pub loop-part-preserved : goal.loop-part-preserved
loop-part-preserved c = record {
  all = one_on c.args.parts.items c.loop-part.yielded (into_iter_items c.loop-part.part-iterator) (into_iter_items c.next.new.self) c.in-Some.part c.loop-part.invariant.all c.in-Some.ensures.steps.0;
  id = passed badge_index 0 Id c.in-Some.part c.loop-part.invariant.id (ap (λ p. badge_index p == 0) c.in-Figure.is);
  label = passed badge_index 1 Label c.in-Some.part c.loop-part.invariant.label (ap (λ p. badge_index p == 1) c.in-Figure.is);
  shape = kept badge_index 2 Figure c.keep_once-in-Figure.new.slot c.in-Figure.value c.in-Some.part c.loop-part.invariant.shape c.in_ok-keep_once-in-Figure.ensures.kept.0 c.in_ok-keep_once-in-Figure.ensures.kept.1 c.in-Figure.is (ap (λ p. badge_index p == 2) c.in-Figure.is);
  come = one_came IsReadAsBadgePart badge_slots refl c.loop-part.yielded c.in-Some.part 2 (c.loop-part.id, c.loop-part.label, c.loop-part.shape) (c.loop-part.id, c.loop-part.label, c.keep_once-in-Figure.new.slot) (refl, (refl, tt))
      (λ own is. comes_into (untagged figures.meaning) c.loop-part.shape c.keep_once-in-Figure.new.slot c.in-Figure.value own c.in_ok-keep_once-in-Figure.ensures.kept (subst (λ p. IsReadAsBadgePart p own) c.in-Figure.is is)) c.loop-part.invariant.come;
}

pub returns-in_err-keep_once-in-Figure-clause-made : goal.returns-in_err-keep_once-in-Figure-clause-made
returns-in_err-keep_once-in-Figure-clause-made c = λ v are. absurd
    (not_again badge_index 2 Figure c.in-Some.part c.args.parts.items (into_iter_items c.next.new.self) c.loop-part.invariant.shape c.in_err-keep_once-in-Figure.ensures.twice.0 (ap (λ p. badge_index p == 2) c.in-Figure.is)
    (one_on c.args.parts.items c.loop-part.yielded (into_iter_items c.loop-part.part-iterator) (into_iter_items c.next.new.self) c.in-Some.part c.loop-part.invariant.all c.in-Some.ensures.steps.0) (are.none_twice 2))

pub returns-in_default-clause-made : goal.returns-in_default-clause-made
returns-in_default-clause-made c = λ v are.
    let id = at_end badge_index 0 Id c.args.parts.items (into_iter_items c.loop-part.part-iterator) c.loop-part.invariant.id c.loop-part.invariant.all (omega (arith, c.in-None.ensures.steps.0, c.loop-part.part-iterator.rest.ok.0)) in
    absurd (is_absent badge_index 0 Id _ v _ _ are (rw c.in_default.is at id) refl)

pub returns-in_default-shape-clause-made : goal.returns-in_default-shape-clause-made
returns-in_default-shape-clause-made c = λ v are.
    let shape = at_end badge_index 2 Figure c.args.parts.items (into_iter_items c.loop-part.part-iterator) c.loop-part.invariant.shape c.loop-part.invariant.all (omega (arith, c.in-None.ensures.steps.0, c.loop-part.part-iterator.rest.ok.0)) in
    absurd (is_absent badge_index 2 Figure _ v _ _ are (rw c.in_default-shape.is at shape) refl)

pub returns-clause-made : goal.returns-clause-made
returns-clause-made c = λ v are.
    let none = (let n : length (into_iter_items c.loop-part.part-iterator) ≡ 0 = omega (arith, c.in-None.ensures.steps.0, c.loop-part.part-iterator.rest.ok.0) in n) in
    let id = at_end badge_index 0 Id c.args.parts.items (into_iter_items c.loop-part.part-iterator) c.loop-part.invariant.id c.loop-part.invariant.all none in
    let label = at_end badge_index 1 Label c.args.parts.items (into_iter_items c.loop-part.part-iterator) c.loop-part.invariant.label c.loop-part.invariant.all none in
    let shape = at_end badge_index 2 Figure c.args.parts.items (into_iter_items c.loop-part.part-iterator) c.loop-part.invariant.shape c.loop-part.invariant.all none in
    and_from _ _ (eq-eqb c.in-Some-id.id v.id (is_component badge_index 0 Id _ v _ _ are c.in-Some-id.id (rw c.in-Some-id.is at id)))
    (and_from _ _ (optional_slot badge_index 1 Label _ v _ _ are in_root c.loop-part.label v.label label_type (pointwise eqb) label refl (λ x. refl) (λ x is. is))
    (is_component badge_index 2 Figure _ v _ _ are c.in-Some-shape.shape (rw c.in-Some-shape.is at shape)))

pub returns-clause-only : goal.returns-clause-only
returns-clause-only c = λ rs are.
    let none = (let n : length (into_iter_items c.loop-part.part-iterator) ≡ 0 = omega (arith, c.in-None.ensures.steps.0, c.loop-part.part-iterator.rest.ok.0) in n) in
    let all = c.loop-part.invariant.all ∙ ap (λ l. c.loop-part.yielded ++ l) (nothing (into_iter_items c.loop-part.part-iterator) none) ∙ append-nil c.loop-part.yielded in
    read_in_any_order (all_components badge.components) badge_slots (slots_of_own badge_slots) refl (c.loop-part.id, c.loop-part.label, c.loop-part.shape) _ rs
    (c.in-Some-id.is, (refl, (c.in-Some-shape.is, tt))) (c.loop-part.invariant.come rs (subst (λ parts. AreElementsRead IsReadAsBadgePart parts rs) all are))

pub returns-clause-fitting : goal.returns-clause-fitting
returns-clause-fitting c =
    let none = (let n : length (into_iter_items c.loop-part.part-iterator) ≡ 0 = omega (arith, c.in-None.ensures.steps.0, c.loop-part.part-iterator.rest.ok.0) in n) in
    let id = at_end badge_index 0 Id c.args.parts.items (into_iter_items c.loop-part.part-iterator) c.loop-part.invariant.id c.loop-part.invariant.all none in
    let label = at_end badge_index 1 Label c.args.parts.items (into_iter_items c.loop-part.part-iterator) c.loop-part.invariant.label c.loop-part.invariant.all none in
    let shape = at_end badge_index 2 Figure c.args.parts.items (into_iter_items c.loop-part.part-iterator) c.loop-part.invariant.shape c.loop-part.invariant.all none in
    (once badge_index 0 Id (rw c.in-Some-id.is at id), (at_most_once badge_index 1 Label c.loop-part.label label, (once badge_index 2 Figure (rw c.in-Some-shape.is at shape), tt)))
