-- A value that is read of a whole input.
use Rattle.std.proofs.Common.{◌≡◌, ◌⊎◌, ℕ, List, [], ◌++◌, inl, inr, sym, subst, append-nil}
use Rattle.asn1_laws.specs.Reading.{IsOwnError, MayFail, Outside, Reader}
use Rattle.asn1_laws.specs.declared.decode_error.DecodeError.{DecodeError}
use Rattle.asn1_laws.specs.ReadingExactly.{HasReadValue}
use Rattle.asn1_model.specs.Meaning.{Meaning}
use Rattle.asn1_model.specs.Records.{Record}
use Rattle.asn1_rules.specs.Rules.{IsReadOf}

-- records that are alone remain before nothing
pub before_nothing : {D : Type 0} (R : Reader D) (d : D) (rs : List Record) → R.remains d (rs, []) → R.remains d (rs ++ [], [])
before_nothing R d rs at = subst (λ l. R.remains d (l, [])) (sym (append-nil rs)) at

-- why records are not read that the type refuses
pub own_or_failed : {D : Type 0} (R : Reader D) {old new : D} {rest : List Record} {outer : Outside} {depth_left height : ℕ} {own e : DecodeError} →
    MayFail depth_left height e ⊎ IsOwnError R old new rest outer own e → MayFail depth_left height e ⊎ (e ≡ own)
own_or_failed R (inl fails) = inl fails
own_or_failed R (inr error) = inr error.error

-- a value after which nothing remains was read of all that remained before
pub read_of_all : {D V : Type 0} (R : Reader D) (old new : D) (m : Meaning V) (w : V) → HasReadValue R old new m m.tag m.constraints w → R.remains new ([], []) →
    IsReadOf (λ rs. R.remains old (rs, [])) m w
read_of_all R old new m w was at = record {
  records = was.records;
  are = was.are [] [] at;
  carried = subst (λ l. R.remains old (l, [])) (append-nil was.records) (was.read [] [] at);
}
