-- Values of the types in the circle of `Chain` are valid if those inside them are.
use Rattle.std.specs.Prelude.{ℕ, Bool, List}
use Rattle.asn1_circles.specs.Words.{Meaning}
use Rattle.expressions.specs.Validity.{EachIsValid}
use Rattle.expressions.specs.ChainLists.{chain_of_meaning}
use Rattle.expressions.specs.declared.chain_of.ChainOf.{ChainOf}
use Rattle.expressions.specs.declared.chain_of.ChainOf.TheVariants.{End as chain_of-End, Link as chain_of-Link}

pub chain_of_is_valid : {T : Type 0} (m : Meaning T) → EachIsValid m → (accepts : List ℕ → Bool) (v : ChainOf T) → (chain_of_meaning m).IsValid accepts v
chain_of_is_valid m each accepts (chain_of-End v) = tt
chain_of_is_valid m each accepts (chain_of-Link v) = each accepts v
