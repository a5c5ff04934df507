-- What is read as a value down to some depth, part by part: for a type that holds itself in a list.
use Rattle.std.specs.Prelude.{◌≡◌, ◌↔◌, ℕ, zero, suc, ⊤, Bool, true, false, List, [], ◌∷◌, ◌++◌, Option, None, Some}
use Rattle.asn1_components.specs.Alternatives.{MeansTheSame, ValueMeaning}
use Rattle.asn1_model.specs.ConstraintSets.{ConstraintSet}
use Rattle.asn1_model.specs.Readings.{AreElementsRead, IsReadAsAlternative, IsReadAsChoice, IsReadAsOption, IsReadIfUntagged, IsReadInside, Reading}
use Rattle.asn1_model.specs.Records.{Head, Name, Record, Side, explicit_tag}
use Rattle.asn1_model.specs.RecordTables.{Row, Table}
use Rattle.asn1_model.specs.Tags.{CHOICE}
use Rattle.asn1_tags.specs.Tags.{tag_eq}
use Rattle.asn1_tags.specs.declared.tags.Tag.{Tag}

-- What holds at a depth holds at each greater one; and this holds if and only if that does at some depth.
pub record HoldsAtSome (A : ℕ → Type 0) (A' : Type 0) : Type 0 where
  pub grows : (n : ℕ) → A n → A (suc n)
  pub within : (n : ℕ) → A n → A'
  pub reached : A' → (n : ℕ) × A n

-- what is the same holds at each depth, and the other way round
pub some_if_same : {A A' : Type 0} → A ↔ A' → HoldsAtSome (λ _. A) A'
some_if_same same = record { grows = λ n h. h; within = λ n. same.0; reached = λ h. (0, same.1 h) }

pub same_if_some : {A A' : Type 0} → HoldsAtSome (λ _. A) A' → A ↔ A'
same_if_some at = (at.within 0, λ h. (at.reached h).1)

same : {A : Type 0} → HoldsAtSome (λ _. A) A
same = some_if_same (λ h. h, λ h. h)

-- What holds at one depth and what holds at another, both hold at some.
at_both : (A B : ℕ → Type 0) → ((n : ℕ) → A n → A (suc n)) → ((n : ℕ) → B n → B (suc n)) → (n m : ℕ) → A n → B m → (k : ℕ) × (A k × B k)
at_both A B one other zero zero a b = (0, (a, b))
at_both A B one other zero (suc m) a b =
    let (k, (up, at)) = at_both A (λ i. B (suc i)) one (λ i. other (suc i)) zero m a b in (suc k, (one k up, at))
at_both A B one other (suc n) zero a b =
    let (k, (at, up)) = at_both (λ i. A (suc i)) B (λ i. one (suc i)) other n zero a b in (suc k, (at, other k up))
at_both A B one other (suc n) (suc m) a b =
    let (k, both) = at_both (λ i. A (suc i)) (λ i. B (suc i)) (λ i. one (suc i)) (λ i. other (suc i)) n m a b in (suc k, both)

-- Records are read as something down to a depth, and as this if and only if they are down to some.
pub record ReadAtSome (A : ℕ → List Record → Type 0) (A' : List Record → Type 0) : Type 0 where
  pub at : (rs : List Record) → HoldsAtSome (λ n. A n rs) (A' rs)

-- What is read as one value is read as another that means the same, by a third.
pub read_alike : {one other another : ValueMeaning} → MeansTheSame one other → MeansTheSame other another → ReadAtSome (λ _. one.AreReadAs) another.AreReadAs
read_alike first later = record { at = λ rs. some_if_same (λ h. (later.read rs).0 ((first.read rs).0 h), λ h. (first.read rs).1 ((later.read rs).1 h)) }

pub same_read : {A : List Record → Type 0} → ReadAtSome (λ _. A) A
same_read = record { at = λ rs. same }

-- the first records as one thing, and the others as another
pub in_turn_at_some : {A B : ℕ → List Record → Type 0} {A' B' : List Record → Type 0} → ReadAtSome A A' → ReadAtSome B B' →
    ReadAtSome (λ n rs. (first : List Record) × (later : List Record) × A n first × B n later × (rs ≡ first ++ later))
    (λ rs. (first : List Record) × (later : List Record) × A' first × B' later × (rs ≡ first ++ later))
in_turn_at_some {A = A} {B = B} one other = record {
  at = λ rs. record {
    grows = λ n (first, later, a, b, is). (first, later, (one.at first).grows n a, (other.at later).grows n b, is);
    within = λ n (first, later, a, b, is). (first, later, (one.at first).within n a, (other.at later).within n b, is);
    reached = λ (first, later, a, b, is).
        let (n, at) = (one.at first).reached a in
        let (m, of) = (other.at later).reached b in
        let (k, both) = at_both (λ i. A i first) (λ i. B i later) (one.at first).grows (other.at later).grows n m at of in
        (k, (first, later, both.0, both.1, is));
  };
}

-- what a record of this head holds, under any name
pub inside_at_some : {A : ℕ → List Record → Type 0} {A' : List Record → Type 0} (head : Name → Head) → ReadAtSome A A' →
    ReadAtSome (λ n. IsReadInside (λ (_ : ⊤). A n) head tt) (IsReadInside (λ (_ : ⊤). A') head tt)
inside_at_some head inside = record {
  at = λ rs. record {
    grows = λ n (name, items, are, is). (name, items, (inside.at items).grows n are, is);
    within = λ n (name, items, are, is). (name, items, (inside.at items).within n are, is);
    reached = λ (name, items, are, is). let (n, at) = (inside.at items).reached are in (n, (name, items, at, is));
  };
}

-- what a CHOICE holds, of a value here, and of one that means the same
module _ {V W : Type 0} (A : ℕ → Reading V) (A' : Reading W) (v : V) (w : W) (inside : ReadAtSome (λ n. A n v) (A' w)) where
  alternative_at_some : (table : Table Row) (c : ConstraintSet) → ReadAtSome (λ n. IsReadAsAlternative (A n) table c v) (IsReadAsAlternative A' table c w)
  alternative_at_some table c = record {
    at = λ rs. record {
      grows = λ n (name, chosen, items, are, begins, is). (name, chosen, items, (inside.at items).grows n are, begins, is);
      within = λ n (name, chosen, items, are, begins, is). (name, chosen, items, (inside.at items).within n are, begins, is);
      reached = λ (name, chosen, items, are, begins, is).
          let (n, at) = (inside.at items).reached are in (n, (name, chosen, items, at, begins, is));
    };
  }

  if_untagged_at_some : (untagged : Bool) (table : Table Row) (own : ConstraintSet) (t : Tag) (c : ConstraintSet) →
      ReadAtSome (λ n. IsReadIfUntagged (A n) untagged table own t c v) (IsReadIfUntagged A' untagged table own t c w)
  if_untagged_at_some true table own t c = alternative_at_some table c
  if_untagged_at_some false table own t c = inside_at_some (explicit_tag t) (alternative_at_some table own)

  pub choice_at_some : (table : Table Row) (own : ConstraintSet) (t : Tag) (c : ConstraintSet) →
      ReadAtSome (λ n. IsReadAsChoice (A n) table own t c v) (IsReadAsChoice A' table own t c w)
  choice_at_some table own t c = if_untagged_at_some (tag_eq t CHOICE) table own t c

-- a component that may be absent
pub option_at_some : {V : Type 0} {A : ℕ → Reading V} {A' : Reading V} (side : Side) (t : Tag) (o : Option V) →
    ((v : V) → ReadAtSome (λ n. A n v) (A' v)) → ReadAtSome (λ n. IsReadAsOption (A n) side t o) (IsReadAsOption A' side t o)
option_at_some side t None each = same_read
option_at_some side t (Some v) each = record {
  at = λ rs. record {
    grows = λ n (own, are, is). (own, ((each v).at own).grows n are, is);
    within = λ n (own, are, is). (own, ((each v).at own).within n are, is);
    reached = λ (own, are, is). let (n, at) = ((each v).at own).reached are in (n, (own, at, is));
  };
}

-- the elements of a list
pub elements_at_some : {V : Type 0} {A : ℕ → Reading V} {A' : Reading V} (vs : List V) →
    ((v : V) → ReadAtSome (λ n. A n v) (A' v)) → ReadAtSome (λ n. AreElementsRead (A n) vs) (AreElementsRead A' vs)
elements_at_some [] each = same_read
elements_at_some (v ∷ vs) each = in_turn_at_some (each v) (elements_at_some vs each)
