use Rattle.expressions.specs.ExprMeaning.{each_is_valid, meaning}
use Rattle.expressions.specs.ExprValidity.{call_is_valid}
use Rattle.expressions.proofs.expr.each_call_is_valid.Goals as goal

pub returns : goal.returns
returns c = call_is_valid meaning each_is_valid
