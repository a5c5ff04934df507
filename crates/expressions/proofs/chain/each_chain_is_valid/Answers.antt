use Rattle.expressions.specs.ChainMeaning.{each_is_valid}
use Rattle.expressions.proofs.chain.each_chain_is_valid.Goals as goal

pub returns : goal.returns
returns c = each_is_valid
