-- The components of a SET, as they are read: one by one, in whatever order.
use Rattle.std.specs.Prelude.{◌≡◌, ◌≢◌, ℕ, zero, suc, ◌≤◌, ◌==◌, ⊤, Bool, true, List, [], ◌∷◌, All, Result, MatchResult, if◌then◌else◌}
use Rattle.std.specs.List.{count_by}
use Rattle.asn1_components.specs.ComponentLists.{AreDistinctInSet, EachIsWellTagged, EachIsOfType, EachIsValid}
use Rattle.asn1_components.specs.ComponentTypes.{ComponentType}
use Rattle.asn1_fields.specs.declared.presence.FieldPresence.{FieldPresence}
use Rattle.asn1_fields.specs.declared.presence.FieldPresence.TheVariants.{Required, Optional, Default}
use Rattle.asn1_laws.specs.Reading.{Outside, Reader, ReadsBack, records_in}
use Rattle.asn1_laws.specs.declared.decode_error.DecodeError.{DecodeError}
use Rattle.asn1_laws.specs.declared.decode_error.DecodeError.TheVariants.{Memory}
use Rattle.asn1_model.specs.Records.{Record, unmarked}
use Rattle.asn1_model.specs.Tags.{Has, tree_tags}
use Rattle.asn1_tags.specs.declared.tags.Tag.{Tag}

-- the components can be those of a SET
abbrev pub CanBeInSet : {V : Type 0} → List (ComponentType V) → Type 0
CanBeInSet cs = EachIsWellTagged cs × AreDistinctInSet cs

-- what is written of a value's component of this index, without presence marks: nothing where it is
-- absent, and where there is no such component
abbrev pub written_of : {V : Type 0} → List (ComponentType V) → V → ℕ → List Record
written_of [] v k = []
written_of (c ∷ cs) v zero = unmarked (c.records v)
written_of (c ∷ cs) v (suc k) = written_of cs v k

-- Each component of the value is one record, or it is absent: so for all but a group, which is as
-- many as its components.
abbrev pub EachIsOneRecord : {V : Type 0} → List (ComponentType V) → V → Type 0
EachIsOneRecord [] v = ⊤
EachIsOneRecord (c ∷ cs) v = (records_in (c.records v) ≤ 1) × EachIsOneRecord cs v

-- the component of this index can begin with the tag
abbrev pub CanBeginWith : {V : Type 0} → List (ComponentType V) → ℕ → Tag → Type 0
CanBeginWith [] k t = ⊥
CanBeginWith (c ∷ cs) zero t = Has (tree_tags c.tree) t
CanBeginWith (c ∷ cs) (suc k) t = CanBeginWith cs k t

-- how many of the parts are the component of this index
abbrev pub parts_at : {P : Type 0} → (P → ℕ) → ℕ → List P → ℕ
parts_at index_of k parts = count_by (λ p. index_of p == k) parts

-- how often a component of this presence is among the parts that make a value: once, or at most
-- once where it may be absent
abbrev pub TimesFit : FieldPresence → ℕ → Type 0
TimesFit Required n = n ≡ 1
TimesFit Optional n = n ≤ 1
TimesFit Default n = n ≤ 1

-- each of these components, of which the first has this index, is among the parts as often as it
-- has to be
abbrev pub EachFits : {V P : Type 0} → List (ComponentType V) → (P → ℕ) → ℕ → List P → Type 0
EachFits [] index_of k parts = ⊤
EachFits (c ∷ cs) index_of k parts = TimesFit c.presence (parts_at index_of k parts) × EachFits cs index_of (suc k) parts

-- The parts are those of a value: each is one of its components, none is among them twice, and each
-- that is there is among them.
pub record ArePartsOf {V P : Type 0} (cs : List (ComponentType V)) (v : V) (index_of : P → ℕ) (IsPart : P → Type 0) (parts : List P) : Type 0 where
  pub each : All IsPart parts
  pub none_twice : (k : ℕ) → parts_at index_of k parts ≤ 1
  pub complete : (k : ℕ) → written_of cs v k ≢ [] → parts_at index_of k parts ≢ 0

module _ {V P : Type 0} (cs : List (ComponentType V)) (index_of : P → ℕ) (IsPartOf : V → P → Type 0) where
  -- A call that reads the component of this index of a valid value, where it is there, without its
  -- presence mark: the part is that component.
  abbrev pub ReadsPart : {D : Type 0} → Reader D → ℕ → D → D → Result P DecodeError → Type 0
  ReadsPart R index old new result =
      (v : V) (rest : List Record) (outer : Outside) → EachIsWellTagged cs → EachIsOfType cs v → EachIsValid cs R.accepts v → written_of cs v index ≢ [] →
      ReadsBack R old new (written_of cs v index) rest outer (λ part. (index_of part ≡ index) × IsPartOf v part) result

  -- A call that makes a value of parts: of those of a value it makes one that is equal, and fails
  -- only if memory runs out.
  abbrev pub MakesValue : (V → V → Bool) → List P → Result V DecodeError → Type 0
  MakesValue eq parts result =
      (v : V) → ArePartsOf cs v index_of (IsPartOf v) parts → MatchResult result (λ w. eq w v ≡ true) (λ e. e ≡ Memory)
