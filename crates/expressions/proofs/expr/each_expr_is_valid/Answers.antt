use Rattle.expressions.specs.ExprMeaning.{each_is_valid}
use Rattle.expressions.proofs.expr.each_expr_is_valid.Goals as goal

pub returns : goal.returns
returns c = each_is_valid
