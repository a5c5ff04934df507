-- A component of a SET by its parts, each of which is one record, or absent: the component itself, or those of a group.
use Rattle.std.specs.Prelude.{◌≡◌, ◌≢◌, ◌==◌, ◌≤◌, ◌<◌, ◌+◌, ℕ, zero, suc, ⊤, Bool, true, IsTrue, List, [], ◌∷◌, ◌++◌, length, Option, None, Result, refl}
use Rattle.std.proofs.Common.{◌∙◌, ap, arith, cond, subst, sym}
use Rattle.asn1_components.specs.ComponentLists.{EachIsWellTagged, all_records, trees_of}
use Rattle.asn1_components.specs.ComponentTypes.{ComponentType}
use Rattle.asn1_components.specs.Following.{AllApart}
use Rattle.asn1_laws.proofs.ReadingSteps.{in_other_words}
use Rattle.asn1_laws.proofs.UnmarkedRecords.{unmarked-append, unmarked-last}
use Rattle.asn1_laws.specs.Reading.{Outside, Reader, ReadsBack, records_in}
use Rattle.asn1_laws.specs.SetParts.{CanBeginWith, EachIsOneRecord, written_of}
use Rattle.asn1_laws.specs.declared.decode_error.DecodeError.{DecodeError}
use Rattle.asn1_model.specs.Records.{Record, open_type, presence_mark, scalar, scope, unmarked}
use Rattle.asn1_model.specs.Tags.{Has, tree_tags}
use Rattle.asn1_tags.specs.Tags.{distinct}
use Rattle.asn1_tags.specs.Trees.{leaves, more, none}
use Rattle.asn1_tags.specs.declared.tags.Tag.{Tag}

-- how often each part has come, after that of this index came once more
abbrev pub one_more : (ℕ → ℕ) → ℕ → ℕ → ℕ
one_more times index k = times k + cond (index == k) 1 0

-- each is the only part of itself
abbrev pub AreOwnParts : {V : Type 0} → List (ComponentType V) → Type 0
AreOwnParts [] = ⊤
AreOwnParts (c ∷ cs) = (c.parts ≡ more c.tree none) × AreOwnParts cs

module _ {V Content : Type 0} where
  -- A component that can be read in a SET, by the parts of it that come, each with its tag.
  pub record ReadInSet (c : ComponentType V) (parts : List (ComponentType V)) (holds : Option Content → V → Bool)
      (ReadsOnce : (D A : Type 0) → Reader D → Tag → D → D → Option Content → Option Content → Result A DecodeError → Type 0)
      (InStep : (ℕ → ℕ) → Option Content → V → Type 0) : Type 1 where
    -- the parts have the component's trees, and none can begin with another tag
    pub trees : c.parts ≡ trees_of parts
    pub own : AreOwnParts parts
    pub within : (j : ℕ) (t : Tag) → CanBeginWith parts j t → Has (tree_tags c.tree) t
    -- each is one record, or absent, and they are what is written
    pub well_tagged : c.IsWellTagged → EachIsWellTagged parts
    pub one_each : c.IsWellTagged → (v : V) → EachIsOneRecord parts v
    -- no two of them can begin with one tag
    pub apart : IsTrue (distinct (leaves c.tree)) → AllApart parts
    pub written : (v : V) → unmarked (c.records v) ≡ unmarked (all_records parts v)
    -- The slot is empty at first, and in step with the parts that have come.
    pub begins : (v : V) → InStep (λ _. 0) None v
    pub same : (m n : ℕ → ℕ) (slot : Option Content) (v : V) → ((j : ℕ) → j < length parts → m j ≡ n j) → InStep m slot v → InStep n slot v
    -- A call reads one that is there and has not come.
    pub reads : {D A : Type 0} (R : Reader D) (t : Tag) (j : ℕ) (times : ℕ → ℕ) (old new : D) (before after : Option Content)
        (result : Result A DecodeError) → ReadsOnce D A R t old new before after result → CanBeginWith parts j t → IsTrue (distinct (leaves c.tree)) →
        (v : V) (rest : List Record) (outer : Outside) → c.IsWellTagged → c.IsOfType v → c.IsValid R.accepts v →
        InStep times before v → times j ≡ 0 → written_of parts v j ≢ [] →
        ReadsBack R old new (written_of parts v j) rest outer (λ _. InStep (one_more times j) after v) result
    -- where all have come that are there, it has what the value has
    pub holds_at_end : (accepts : List ℕ → Bool) (times : ℕ → ℕ) (slot : Option Content) (v : V) → c.IsWellTagged → c.IsValid accepts v →
        InStep times slot v → ((j : ℕ) → written_of parts v j ≢ [] → times j ≢ 0) → holds slot v ≡ true

-- the slot of one that is its own part: empty until it has come, and then it has what the value has
abbrev pub alone_in_step : {V Content : Type 0} → (Option Content → V → Bool) → (ℕ → ℕ) → Option Content → V → Type 0
alone_in_step holds times slot v = (times 0 ≡ 0 → slot ≡ None) × (times 0 ≢ 0 → holds slot v ≡ true)

module _ {V Content : Type 0} (c : ComponentType V) (holds : Option Content → V → Bool)
    (Once : (D A : Type 0) → Reader D → D → D → Option Content → Option Content → Result A DecodeError → Type 0) where
  -- what is there is read into an empty slot, without its presence mark
  abbrev pub ReadsAlone : Type 1
  ReadsAlone =
      (D A : Type 0) (R : Reader D) (old new : D) (after : Option Content) (result : Result A DecodeError) → Once D A R old new None after result →
      (v : V) (rest : List Record) (outer : Outside) → c.IsWellTagged → c.IsOfType v → c.IsValid R.accepts v → unmarked (c.records v) ≢ [] →
      ReadsBack R old new (unmarked (c.records v)) rest outer (λ _. holds after v ≡ true) result

  within_alone : (j : ℕ) (t : Tag) → CanBeginWith (c ∷ []) j t → Has (tree_tags c.tree) t
  within_alone zero t begins = begins
  within_alone (suc j) t begins = absurd begins

  same_alone : (m n : ℕ → ℕ) (slot : Option Content) (v : V) → m 0 ≡ n 0 → alone_in_step holds m slot v → alone_in_step holds n slot v
  same_alone m n slot v same step = ((λ nothing. step.0 (same ∙ nothing)), (λ some. step.1 (λ nothing. some (sym same ∙ nothing))))

  has_come : (times : ℕ → ℕ) (after : Option Content) (v : V) → holds after v ≡ true → alone_in_step holds (one_more times 0) after v
  has_come times after v held =
      let itself : (0 == 0) ≡ true = refl in
      ((λ nothing. absurd (omega (arith, nothing, ap {B = ℕ} (λ b. cond b 1 0) itself))), (λ _. held))

  reads_alone : ReadsAlone → {D A : Type 0} (R : Reader D) (t : Tag) (j : ℕ) (times : ℕ → ℕ) (old new : D) (before after : Option Content)
      (result : Result A DecodeError) → Once D A R old new before after result → CanBeginWith (c ∷ []) j t →
      (v : V) (rest : List Record) (outer : Outside) → c.IsWellTagged → c.IsOfType v → c.IsValid R.accepts v →
      alone_in_step holds times before v → times j ≡ 0 → written_of (c ∷ []) v j ≢ [] →
      ReadsBack R old new (written_of (c ∷ []) v j) rest outer (λ _. alone_in_step holds (one_more times j) after v) result
  reads_alone reads {D} {A} R t (suc j) times old new before after result once begins v rest outer can of_type valid step nothing some = absurd begins
  reads_alone reads {D} {A} R t zero times old new before after result once begins v rest outer can of_type valid step nothing some =
      in_other_words R old new _ _ _ result (λ _ held. has_come times after v held)
      (reads D A R old new after result (subst (λ o. Once D A R old new o after result) (step.0 nothing) once) v rest outer can of_type valid some)

  ends_alone : (n : ℕ) (rs : List Record) (slot : Option Content) (v : V) → c.IsWellTagged → rs ≡ unmarked (c.records v) →
      (n ≡ 0 → slot ≡ None) × (n ≢ 0 → holds slot v ≡ true) → (rs ≢ [] → n ≢ 0) →
      (unmarked (c.records v) ≡ [] → holds None v ≡ true) → holds slot v ≡ true
  ends_alone (suc n) rs slot v can is step complete absent = step.1 (λ nothing. cc)
  ends_alone zero [] slot v can is step complete absent = ap (λ o. holds o v) (step.0 refl) ∙ absent (sym is)
  ends_alone zero (r ∷ rs) slot v can is step complete absent = absurd (complete (λ nothing. cc) refl)

  -- a component that is its own part
  pub alone : c.parts ≡ more c.tree none → (c.IsWellTagged → (v : V) → records_in (c.records v) ≤ 1) → ReadsAlone →
      ((v : V) → c.IsWellTagged → unmarked (c.records v) ≡ [] → holds None v ≡ true) →
      ReadInSet c (c ∷ []) holds (λ D A R t old new before after result. Once D A R old new before after result) (alone_in_step holds)
  alone trees is_one reads is_absent = record {
    trees = trees;
    own = (trees, tt);
    within = within_alone;
    well_tagged = λ can. (can, tt);
    one_each = λ can v. (is_one can v, tt);
    apart = λ distinct. (tt, tt);
    written = λ v. unmarked-last (c.records v);
    begins = λ v. ((λ _. refl), (λ some. absurd (some refl)));
    same = λ m n slot v same step. same_alone m n slot v (same 0 (omega arith)) step;
    reads = λ R t j times old new before after result once begins distinct v rest outer can of_type valid step nothing some.
        reads_alone reads R t j times old new before after result once begins v rest outer can of_type valid step nothing some;
    holds_at_end = λ accepts times slot v can valid step complete.
        ends_alone (times 0) (unmarked (c.records v)) slot v can refl step (complete 0) (is_absent v can);
  }
