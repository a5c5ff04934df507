-- The lists of the types in the circle of `Expr`, by what it means inside them.
use Rattle.std.specs.Prelude.{[], ◌∷◌, codes, false}
use Rattle.asn1_circles.specs.Words.{Alternatives, ComponentType, Components, Meaning, OneOf, addition, all_of, alternative, choice_of, constructed_type, context, explicitly_tagged, extensible, extensible_sequence, inl, inr, list_meaning, optional, required, set_meaning, tagged, with_default}
use Rattle.expressions.specs.contracts.expr_parts.CallNamePartMeant.TheImpl.{ghosts as call_name_part}
use Rattle.expressions.specs.contracts.expr_parts.CallIsPurePartMeant.TheImpl.{ghosts as call_is_pure_part}
use Rattle.expressions.specs.contracts.expr_parts.ExprOfNumberPartMeant.TheImpl.{ghosts as expr_of_number_part}
use Rattle.expressions.specs.declared.call.CallOf.{CallOf}
use Rattle.expressions.specs.declared.expr_of.ExprOf.{ExprOf}
use Rattle.expressions.specs.declared.expr_of.ExprOf.TheVariants.{Number as expr_of-Number, Sum as expr_of-Sum, Call as expr_of-Call, Not as expr_of-Not}

abbrev pub call_has_args : {T : Type 0} → Meaning T → ComponentType (CallOf T)
call_has_args {T} m = required (codes "args") (λ v. v.args) (tagged (context 1) (list_meaning m))

abbrev pub call_has_then : {T : Type 0} → Meaning T → ComponentType (CallOf T)
call_has_then {T} m = optional (codes "then") (λ v. v.then) (explicitly_tagged (context 2) m)

abbrev pub call_has_rest : {T : Type 0} → Meaning T → ComponentType (CallOf T)
call_has_rest {T} m = addition (codes "rest") (λ v. v.rest) (tagged (context 4) (set_meaning (list_meaning m)))

abbrev pub call_components : {T : Type 0} → Meaning T → Components (CallOf T)
call_components {T} m = extensible_sequence (
    required (codes "name") (λ v. v.name) (tagged (context 0) call_name_part.meaning) ∷
    call_has_args m ∷
    call_has_then m ∷
    with_default (codes "is-pure") (λ v. v.is_pure) false (tagged (context 3) call_is_pure_part.meaning) call_is_pure_part.equal ∷ []) (
    call_has_rest m ∷ [])

abbrev pub call_meaning : {T : Type 0} → Meaning T → Meaning (CallOf T)
call_meaning m = constructed_type (codes "Call") (call_components m)

abbrev pub expr_of_alternatives : {T : Type 0} → Meaning T → Alternatives
expr_of_alternatives {T} m = extensible (
    alternative (codes "number") (tagged (context 0) expr_of_number_part.meaning) ∷
    alternative (codes "sum") (tagged (context 1) (list_meaning m)) ∷
    alternative (codes "call") (tagged (context 2) (call_meaning m)) ∷
    alternative (codes "not") (explicitly_tagged (context 3) m) ∷ []) ([])

abbrev pub expr_of_pick : {T : Type 0} (m : Meaning T) → ExprOf T → OneOf (all_of (expr_of_alternatives m))
expr_of_pick m (expr_of-Number v) = inl v
expr_of_pick m (expr_of-Sum v) = inr (inl v)
expr_of_pick m (expr_of-Call v) = inr (inr (inl v))
expr_of_pick m (expr_of-Not v) = inr (inr (inr (inl v)))

abbrev pub expr_of_meaning : {T : Type 0} → Meaning T → Meaning (ExprOf T)
expr_of_meaning m = choice_of (codes "Expr") (expr_of_alternatives m) (expr_of_pick m)
