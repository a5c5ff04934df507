use Rattle.expressions.proofs.expr_of.ExprOfEncodeChoice.encode_alternative.Goals as goal

pub returns-in-Call : goal.returns-in-Call
returns-in-Call g c = rw c.in-Call.is c.encode_with_tag-in-Call.ensures
