-- The elements of a SET OF, in whatever order they come.
use Rattle.std.proofs.Common.{◌≡◌, ℕ, ◌≤◌, List, [], ◌∷◌, arith, length, sym, ◌∙◌, ap, subst}
use Rattle.std.specs.List.{flat_map, All}
use Rattle.std.specs.Prelude.{IsPermutation}
use Rattle.std.proofs.lemmas.List.Sorted.{All-permutation, IsPermutation-sym, length_permutation}
use Rattle.asn1_laws.specs.Reading.{Reader, records_in, Outside}
use Rattle.asn1_laws.proofs.ReadingElements.{as_many}
use Rattle.asn1_model.specs.Meaning.{Meaning, IsWellTagged, own_records}
use Rattle.asn1_model.specs.Records.{Record, highest}
use Rattle.asn1_model.proofs.SameRecords.{highest-permutation}
use Rattle.asn1_laws.proofs.Rearrangements.{made_of, each_alone}

module _ {D V : Type 0} (R : Reader D) (m : Meaning V) where
  -- The elements remain to be read, in an order of their own.
  pub record BeforeElements (d : D) (vs : List V) (bound : ℕ) (outer : Outside) : Type 0 where
    pub order : List V
    pub rearranged : IsPermutation order vs
    pub of_type : All m.IsOfType order
    pub valid : All (m.IsValid R.accepts) order
    pub few : length order ≤ bound
    pub same_height : highest (flat_map (own_records m) order) ≡ highest (flat_map (own_records m) vs)
    pub at : R.remains d (flat_map (own_records m) order, outer)

  pub before_elements : (can : IsWellTagged m) (d : D) (vs : List V) (records : List Record) (bound : ℕ) (outer : Outside) →
      All m.IsOfType vs → All (m.IsValid R.accepts) vs → records_in (flat_map (own_records m) vs) ≤ bound → IsPermutation records (flat_map (own_records m) vs) →
      R.remains d (records, outer) → BeforeElements d vs bound outer
  before_elements can d vs records bound outer of_type valid few moved at =
      let one : V → Record = λ v. (m.one_record v m.tag m.constraints m.name can.0 can.1).item in
      let alone : (v : V) → own_records m v ≡ one v ∷ [] = λ v. (m.one_record v m.tag m.constraints m.name can.0 can.1).alone in
      let made = made_of one records vs (subst (IsPermutation records) (each_alone (own_records m) one alone vs) moved) in
      let is : records ≡ flat_map (own_records m) made.order = made.is ∙ sym (each_alone (own_records m) one alone made.order) in
      let back = IsPermutation-sym made.order vs made.rearranged in
      record {
        order = made.order;
        rearranged = made.rearranged;
        of_type = All-permutation m.IsOfType vs made.order back of_type;
        valid = All-permutation (m.IsValid R.accepts) vs made.order back valid;
        few = omega (arith, few, as_many m can vs, length_permutation vs made.order back);
        same_height = ap highest (sym is) ∙ highest-permutation records (flat_map (own_records m) vs) moved;
        at = subst (λ l. R.remains d (l, outer)) is at;
      }
