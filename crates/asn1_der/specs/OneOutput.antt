-- The records with one output in DER, whatever the order inside sets, and the types whose values have one spelling.
use Rattle.std.specs.Prelude.{◌≡◌, ⊤, ℕ, List}
use Rattle.std.specs.Int.Digits.{AllBelowBase}
use Rattle.asn1_der.specs.Format.{Carries, der_format}
use Rattle.asn1_der_items.specs.DistinctTags.{HaveDistinctSets}
use Rattle.asn1_model.specs.Meaning.{Meaning, own_records}
use Rattle.asn1_model.specs.Records.{Head, Record, Records, scalar, scope, open_type, presence_mark, none, more, held, sequence, set, sequence_of, set_of, explicit_tag, alternative}

-- what holds records is no SET (X.680, 27); it may be a SET OF
abbrev pub IsNoSet : Head → Type 0
IsNoSet (sequence t table n) = ⊤
IsNoSet (set t table n) = ⊥
IsNoSet (sequence_of t c n) = ⊤
IsNoSet (set_of t c n) = ⊤
IsNoSet (explicit_tag t n) = ⊤
IsNoSet (alternative t c table n) = ⊤

-- no SET is in them, at any depth
abbrev mutual
  pub HasNoSet : Record → Type 0
  HasNoSet (scalar t c n x) = ⊤
  HasNoSet (scope h rs) = IsNoSet h × HaveNoSet rs
  HasNoSet (open_type n own) = ⊤
  HasNoSet (presence_mark m) = ⊤

  pub HaveNoSet : Records → Type 0
  HaveNoSet none = ⊤
  HaveNoSet (more r rs) = HasNoSet r × HaveNoSet rs

-- octets of which the one carries these records and the other those are the same
abbrev pub HaveOneOutput : List Record → List Record → Type 0
HaveOneOutput rs ss =
    (own other : List ℕ) → AllBelowBase 256 own → AllBelowBase 256 other → Carries own rs → Carries other ss → own ≡ other

module _ {V : Type 0} (m : Meaning V) where
  -- In each SET in a value the components have distinct tags (X.680, 27.3).
  abbrev pub HasDistinctSetsIn : V → Type 0
  HasDistinctSetsIn v = HaveDistinctSets (held (own_records m v))

  -- This holds of each valid value of the type.
  abbrev pub HaveDistinctSetsInEach : Type 0
  HaveDistinctSetsInEach = (v : V) → m.IsOfType v → m.IsValid der_format.accepts v → HasDistinctSetsIn v
