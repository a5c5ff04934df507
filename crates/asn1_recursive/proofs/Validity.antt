-- Each value is valid.
use Rattle.std.proofs.Common.{List, ℕ, Bool}
use Rattle.asn1_recursive.specs.NestedAlternatives.{nested_means}
use Rattle.asn1_recursive.specs.declared.nested.Nested.{Nested, Null, Flag, Inner'}

-- by the value inside
pub each_nested_valid : (v : Nested) (accepts : List ℕ → Bool) → (nested_means v).IsValid accepts
each_nested_valid (Null nothing) accepts = tt
each_nested_valid (Flag b) accepts = tt
each_nested_valid (Inner' p inner) accepts = each_nested_valid inner accepts
