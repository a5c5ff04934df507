-- Types that hold themselves, each value of which is valid.
use Rattle.std.specs.Prelude.{ℕ, zero, suc, Bool, List, Option, None, Some, IfSome}
use Rattle.asn1_circles.specs.Words.{KnotOf, Meaning, Record, valid_level, valid_to, written_value}
pub use Rattle.asn1_schema.specs.components.Alternatives.{ValueMeaning}
pub use Rattle.asn1_schema.specs.model.Premises.{EachIsValid}
use Rattle.asn1_schema.specs.model.WellFormed.{AreWellFormed}

-- the records inside a value, which are well formed
pub record ValidRecords : Type 0 where
  pub records : List Record
  pub well_formed : (accepts : List ℕ → Bool) → AreWellFormed accepts records

-- a value inside another, by these
abbrev pub written_valid : ((V : Type 0) → (V → ValueMeaning) → Meaning V) → Meaning ValidRecords
written_valid itself = itself ValidRecords (λ rs. written_value rs.records)

-- the records of what a value is made of, which are well formed since it is valid
abbrev pub valid_records : (content : ValueMeaning) → ((accepts : List ℕ → Bool) → content.IsValid accepts) → ValidRecords
valid_records content valid = record { records = content.records; well_formed = λ accepts. content.well_formed accepts (valid accepts) }

-- Each value is valid down to each depth, where a value inside another is valid if it is by itself, the records inside each are well
-- formed, and what a value is made of is valid if all inside it are.
pub all_valid : {K : Type 0} {U : Type 0 → Type 0} (k : KnotOf K U) →
    ((means : K → ValueMeaning) (accepts : List ℕ → Bool) (v : K) → (means v).IsValid accepts → (k.itself K means).IsValid accepts v) →
    ((accepts : List ℕ → Bool) (v : K) → AreWellFormed accepts (k.inside v)) →
    ((m : Meaning K) → EachIsValid m → (accepts : List ℕ → Bool) (u : U K) → (k.content K m u).IsValid accepts) →
    (n : ℕ) (accepts : List ℕ → Bool) (v : K) → (valid_to k n).is accepts v
all_valid k itself well made zero accepts v = well accepts v
all_valid k itself well made (suc n) accepts v =
    (well accepts v, made (valid_level k n) (λ a w. itself _ a w (all_valid k itself well made n a w)) accepts (k.of v))

-- a property of each value holds of one that may be absent
pub if_some_all : {X : Type 0} (o : Option X) (P : X → Type 0) → ((x : X) → P x) → IfSome o P
if_some_all None P all = tt
if_some_all (Some x) P all = all x
