-- The lists of the types in the circle of `Chain`, by what it means inside them.
use Rattle.std.specs.Prelude.{[], ◌∷◌, codes}
use Rattle.asn1_circles.specs.Words.{Alternatives, Meaning, OneOf, all_of, alternative, choice_of, closed, context, explicitly_tagged, inl, inr, tagged}
use Rattle.expressions.specs.contracts.chain_parts.ChainOfEndPartMeant.TheImpl.{ghosts as chain_of_end_part}
use Rattle.expressions.specs.declared.chain_of.ChainOf.{ChainOf}
use Rattle.expressions.specs.declared.chain_of.ChainOf.TheVariants.{End as chain_of-End, Link as chain_of-Link}

abbrev pub chain_of_alternatives : {T : Type 0} → Meaning T → Alternatives
chain_of_alternatives {T} m = closed (
    alternative (codes "end") (tagged (context 0) chain_of_end_part.meaning) ∷
    alternative (codes "link") (explicitly_tagged (context 1) m) ∷ [])

abbrev pub chain_of_pick : {T : Type 0} (m : Meaning T) → ChainOf T → OneOf (all_of (chain_of_alternatives m))
chain_of_pick m (chain_of-End v) = inl v
chain_of_pick m (chain_of-Link v) = inr (inl v)

abbrev pub chain_of_meaning : {T : Type 0} → Meaning T → Meaning (ChainOf T)
chain_of_meaning m = choice_of (codes "Chain") (chain_of_alternatives m) (chain_of_pick m)
