-- How a CHOICE is read by the index of its alternative.
use Rattle.std.proofs.Common.{◌≡◌, ◌<◌, ◌+◌, arith, length, ℕ, zero, suc, Bool, true, List, [], ◌∷◌, Result, Ok, Err, inl, inr, ◌∙◌, subst}
use Rattle.std.specs.Prelude.{⊤, IfOk}
use Rattle.asn1_components.specs.Alternatives.{Alternative, CanBeChosen, Each, HaveDistinctTags, OneOf, chosen, chosen_meaning, trees_of}
use Rattle.asn1_components.specs.ChosenTags.{LacksTag}
use Rattle.asn1_laws.specs.Reading.{Outside, Reader, ReadsBack}
use Rattle.asn1_laws.specs.ReadingExactly.{HasReadAlternative, WasRead}
use Rattle.asn1_laws.specs.declared.decode_error.DecodeError.{DecodeError}
use Rattle.asn1_model.proofs.TagSets.{has_leaf, leaf_has}
use Rattle.asn1_model.specs.Records.{Record}
use Rattle.asn1_model.specs.Tags.{Has, tree_tags}
use Rattle.asn1_tags.proofs.TagListTests.{apart-from_distinct, distinct-after}
use Rattle.asn1_tags.specs.Trees.{leaves, leaves_of}
use Rattle.asn1_tags.specs.declared.tags.Tag.{Tag}
use Rattle.asn1_slots.proofs.TreesWithTags.{is_leaf}
use Rattle.asn1_slots.specs.Cases.{Case, FailsAt, HasReadAt, IsMade, ReadsCaseAt, alternatives_of, choice_of_cases}
use Rattle.asn1_slots.specs.TagIndices.{BeginsAt}

-- the index of the chosen alternative
abbrev pub index_of_chosen : (alts : List Alternative) → OneOf alts → ℕ
index_of_chosen [] x = absurd x
index_of_chosen (a ∷ alts) (inl w) = zero
index_of_chosen (a ∷ alts) (inr x) = suc (index_of_chosen alts x)

-- which has each tag that it can begin with
pub its_index : (alts : List Alternative) (x : OneOf alts) (t : Tag) → Each CanBeChosen alts → Has (tree_tags (chosen alts x).type.tree) t →
    BeginsAt (trees_of alts) (index_of_chosen alts x) t
its_index [] x t can has = absurd x
its_index (a ∷ alts) (inl w) t can has = leaf_has a.type.tree t can.0.1 has
its_index (a ∷ alts) (inr x) t can has = its_index alts x t can.1 has

-- an index of a tag is within the cases
pub is_within : {V : Type 0} (hs : List (Case V)) (index : ℕ) (t : Tag) → BeginsAt (trees_of (alternatives_of hs)) index t → index < length hs
is_within [] index t at = absurd at
is_within (h ∷ hs) zero t at = omega arith
is_within (h ∷ hs) (suc index) t at = let less = is_within hs index t at in omega (arith, less)

-- this alternative is chosen
abbrev pub IsAt : (alts : List Alternative) → OneOf alts → ℕ → Type 0
IsAt [] x index = absurd x
IsAt (a ∷ alts) (inl w) zero = ⊤
IsAt (a ∷ alts) (inl w) (suc index) = ⊥
IsAt (a ∷ alts) (inr x) zero = ⊥
IsAt (a ∷ alts) (inr x) (suc index) = IsAt alts x index

-- where the tags are distinct, the index of a tag is that of its alternative
pub only_index : (alts : List Alternative) (x : OneOf alts) (index : ℕ) (t : Tag) → HaveDistinctTags alts → Each CanBeChosen alts →
    Has (tree_tags (chosen alts x).type.tree) t → BeginsAt (trees_of alts) index t → IsAt alts x index
only_index [] x index t distinct can has at = absurd x
only_index (a ∷ alts) (inl w) zero t distinct can has at = tt
only_index (a ∷ alts) (inl w) (suc index) t distinct can has at =
    apart-from_distinct (leaves a.type.tree) (leaves_of (trees_of alts)) distinct t (leaf_has a.type.tree t can.0.1 has) (is_leaf (trees_of alts) index t at)
only_index (a ∷ alts) (inr x) zero t distinct can has at =
    apart-from_distinct (leaves a.type.tree) (leaves_of (trees_of alts)) distinct t at (is_leaf (trees_of alts) (index_of_chosen alts x) t (its_index alts x t can.1 has))
only_index (a ∷ alts) (inr x) (suc index) t distinct can has at =
    only_index alts x index t (distinct-after (leaves a.type.tree) (leaves_of (trees_of alts)) distinct) can.1 has at

-- a tag that no alternative can begin with is at no index
pub lacks : (alts : List Alternative) (index : ℕ) (t : Tag) → Each (LacksTag t) alts → BeginsAt (trees_of alts) index t → ⊥
lacks [] index t none at = at
lacks (a ∷ alts) zero t none at = none.0 (has_leaf a.type.tree t at)
lacks (a ∷ alts) (suc index) t none at = lacks alts index t none.1 at

-- Records that were read as the value of an alternative are read as the value that is made of it.
alternative_was_read : {D V : Type 0} (R : Reader D) (old new : D) (hs : List (Case V)) (index : ℕ) (x : OneOf (alternatives_of hs)) → HasReadAt R hs index old new x →
    WasRead R old new (chosen_meaning (alternatives_of hs) x).AreReadAs
alternative_was_read R old new [] index x read = absurd x
alternative_was_read R old new (h ∷ hs) zero (inl w) read = read.exactly
alternative_was_read R old new (h ∷ hs) zero (inr x) read = absurd read
alternative_was_read R old new (h ∷ hs) (suc index) (inl w) read = absurd read
alternative_was_read R old new (h ∷ hs) (suc index) (inr x) read = alternative_was_read R old new hs index x read

pub case_was_read : {D V : Type 0} (R : Reader D) (old new : D) (hs : List (Case V)) (case_of : V → OneOf (alternatives_of hs)) (index : ℕ) (result : Result V DecodeError) →
    ReadsCaseAt R hs case_of index old new result → IfOk result (HasReadAlternative R old new (choice_of_cases hs) case_of)
case_was_read R old new hs case_of index (Ok v) read = alternative_was_read R old new hs index (case_of v) read
case_was_read R old new hs case_of index (Err e) read = tt

module _ {D V : Type 0} (R : Reader D) (eq : V → V → Bool) (old new : D) (v : V) (rest : List Record) (outer : Outside) where
  -- the chosen alternative was read, and a value was made of what came
  has_read : (u : V) (hs : List (Case V)) (x y : OneOf (alternatives_of hs)) (index : ℕ) → IsMade eq hs x v → IsMade eq hs y u →
      IsAt (alternatives_of hs) x index → Each CanBeChosen (alternatives_of hs) → (chosen_meaning (alternatives_of hs) x).IsOfType →
      (chosen_meaning (alternatives_of hs) x).IsValid R.accepts → HasReadAt R hs index old new y →
      ReadsBack R old new (chosen_meaning (alternatives_of hs) x).records rest outer (λ w. eq w v ≡ true) (Ok u)
  has_read u [] x y index made made_u at can of_type valid read = absurd x
  has_read u (h ∷ hs) (inl w) y (suc index) made made_u at can of_type valid read = absurd at
  has_read u (h ∷ hs) (inr x) y zero made made_u at can of_type valid read = absurd at
  has_read u (h ∷ hs) (inl w) (inr y) zero made made_u at can of_type valid read = absurd read
  has_read u (h ∷ hs) (inr x) (inl d) (suc index) made made_u at can of_type valid read = absurd read
  has_read u (h ∷ hs) (inl w) (inl d) zero made made_u at can of_type valid read = λ remains.
      let r = read.reads w rest outer can.0.0 of_type valid remains in
      record {
        answer = subst (λ x. eq x v ≡ true) made_u.0 (made.1 d ∙ r.answer);
        at = r.at;
        within_depth_left = r.within_depth_left;
      }
  has_read u (h ∷ hs) (inr x) (inr y) (suc index) made made_u at can of_type valid read =
      has_read u hs x y index made made_u at can.1 of_type valid read

  -- it was not
  has_failed : (e : DecodeError) (hs : List (Case V)) (x : OneOf (alternatives_of hs)) (index : ℕ) → IsAt (alternatives_of hs) x index →
      Each CanBeChosen (alternatives_of hs) → (chosen_meaning (alternatives_of hs) x).IsOfType →
      (chosen_meaning (alternatives_of hs) x).IsValid R.accepts → FailsAt R hs index old new e →
      ReadsBack R old new (chosen_meaning (alternatives_of hs) x).records rest outer (λ w. eq w v ≡ true) (Err e)
  has_failed e [] x index at can of_type valid fails = absurd x
  has_failed e (h ∷ hs) (inl w) (suc index) at can of_type valid fails = absurd at
  has_failed e (h ∷ hs) (inr x) zero at can of_type valid fails = absurd at
  has_failed e (h ∷ hs) (inl w) zero at can of_type valid fails = λ remains.
      fails.reads w rest outer can.0.0 of_type valid remains
  has_failed e (h ∷ hs) (inr x) (suc index) at can of_type valid fails = has_failed e hs x index at can.1 of_type valid fails

  -- what reads the alternative at the index of its tag reads the value
  pub reads_chosen : (hs : List (Case V)) (case_of : V → OneOf (alternatives_of hs)) (index : ℕ) (result : Result V DecodeError) →
      ((u : V) → IsMade eq hs (case_of u) u) → (t : Tag) → HaveDistinctTags (alternatives_of hs) → Each CanBeChosen (alternatives_of hs) →
      Has (tree_tags (chosen (alternatives_of hs) (case_of v)).type.tree) t → BeginsAt (trees_of (alternatives_of hs)) index t →
      (chosen_meaning (alternatives_of hs) (case_of v)).IsOfType → (chosen_meaning (alternatives_of hs) (case_of v)).IsValid R.accepts →
      ReadsCaseAt R hs case_of index old new result →
      ReadsBack R old new (chosen_meaning (alternatives_of hs) (case_of v)).records rest outer (λ w. eq w v ≡ true) result
  reads_chosen hs case_of index (Ok u) made t distinct can has at of_type valid reads =
      has_read u hs (case_of v) (case_of u) index (made v) (made u) (only_index (alternatives_of hs) (case_of v) index t distinct can has at) can of_type valid reads
  reads_chosen hs case_of index (Err e) made t distinct can has at of_type valid reads =
      has_failed e hs (case_of v) index (only_index (alternatives_of hs) (case_of v) index t distinct can has at) can of_type valid (reads (is_within hs index t at))
