-- Values of the types in the circle of `Expr` are valid if those inside them are.
use Rattle.std.specs.Prelude.{ℕ, Bool, List, get_or}
use Rattle.asn1_circles.specs.Words.{Meaning, list_meaning, set_meaning}
use Rattle.expressions.specs.Validity.{EachIsValid, if_some_all}
use Rattle.expressions.specs.ExprLists.{call_meaning, expr_of_meaning}
use Rattle.expressions.specs.declared.call.CallOf.{CallOf}
use Rattle.expressions.specs.declared.expr_of.ExprOf.{ExprOf}
use Rattle.expressions.specs.declared.expr_of.ExprOf.TheVariants.{Number as expr_of-Number, Sum as expr_of-Sum, Call as expr_of-Call, Not as expr_of-Not}

pub call_is_valid : {T : Type 0} (m : Meaning T) → EachIsValid m → (accepts : List ℕ → Bool) (v : CallOf T) → (call_meaning m).IsValid accepts v
call_is_valid m each accepts v = (tt, ((λ k0 d0 few0. each accepts (get_or v.args.items k0 d0)), (if_some_all v.then (m.IsValid accepts) (λ x. each accepts x), ((λ _. tt), (if_some_all v.rest ((set_meaning (list_meaning m)).IsValid accepts) (λ x. λ k0 d0 few0. λ k1 d1 few1. each accepts (get_or (get_or x k0 d0).items k1 d1)), tt)))))

pub expr_of_is_valid : {T : Type 0} (m : Meaning T) → EachIsValid m → (accepts : List ℕ → Bool) (v : ExprOf T) → (expr_of_meaning m).IsValid accepts v
expr_of_is_valid m each accepts (expr_of-Number v) = tt
expr_of_is_valid m each accepts (expr_of-Sum v) = λ k0 d0 few0. each accepts (get_or v.items k0 d0)
expr_of_is_valid m each accepts (expr_of-Call v) = call_is_valid m each accepts v
expr_of_is_valid m each accepts (expr_of-Not v) = each accepts v
