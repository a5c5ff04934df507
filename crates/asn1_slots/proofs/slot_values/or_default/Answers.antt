use Rattle.std.proofs.Common.{◌≡◌, Bool, true, Option, None, Some, refl, sym, ◌∙◌, subst}
use Rattle.std.specs.Cmp.{IsEquivalence}
use Rattle.std.specs.Option.{unwrap_or}
use Rattle.asn1_slots.specs.Slots.{IsOfDefault, holds_or_default}
use Rattle.asn1_slots.proofs.slot_values.or_default.Goals as goal

is_right : {W : Type 0} (eq : W → W → Bool) (law : IsEquivalence eq) (slot : Option W) (default_value v : W) →
    holds_or_default eq default_value slot v ≡ true → eq (unwrap_or slot default_value) v ≡ true
is_right eq law None default_value v holds = law.symm default_value v ∙ holds
is_right eq law (Some x) default_value v holds = holds

is_of : {W : Type 0} (eq : W → W → Bool) (law : IsEquivalence eq) (slot : Option W) (default_value : W) →
    IsOfDefault (λ v. eq v default_value) slot (unwrap_or slot default_value)
is_of eq law None default_value = law.refl default_value
is_of eq law (Some x) default_value = refl

pub returns-clause-equal : goal.returns-clause-equal
returns-clause-equal g c = λ v holds. subst (λ x. g.T.PartialEq.eq x v ≡ true) (sym c.unwrap_or.ensures) (is_right g.T.PartialEq.eq g.met.T.Eq.laws c.args.slot c.args.default_value v holds)

pub returns-clause-only : goal.returns-clause-only
returns-clause-only g c =
    subst (IsOfDefault (λ v. g.T.PartialEq.eq v c.args.default_value) c.args.slot) (sym c.unwrap_or.ensures) (is_of g.T.PartialEq.eq g.met.T.Eq.laws c.args.slot c.args.default_value)
