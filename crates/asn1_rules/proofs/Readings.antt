-- Values that were read of an input, by records that it carries.
use Rattle.std.proofs.Common.{List, Ok, Err}
use Rattle.std.specs.Prelude.{IfOk, Result}
use Rattle.asn1_model.specs.Meaning.{Meaning}
use Rattle.asn1_model.specs.Records.{Record}
use Rattle.asn1_rules.specs.Rules.{IsReadOf}

module _ {V : Type 0} (One Other : List Record → Type 0) (m : Meaning V) (carried_too : (rs : List Record) → One rs → Other rs) where
  -- a value was read of what carries these records too
  pub is_read_too : (w : V) → IsReadOf One m w → IsReadOf Other m w
  is_read_too w is = record { records = is.records; are = is.are; carried = carried_too is.records is.carried }

  -- the same of an answer
  pub answer_is_read_too : {E : Type 0} (result : Result V E) → IfOk result (IsReadOf One m) → IfOk result (IsReadOf Other m)
  answer_is_read_too (Ok w) is = is_read_too w is
  answer_is_read_too (Err e) is = tt
