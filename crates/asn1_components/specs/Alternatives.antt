-- The alternatives of a CHOICE, each stated once; the trees, the names and the meaning of each value follow from them.
use Rattle.std.specs.Prelude.{◌≡◌, ◌↔◌, ◌⊎◌, ℕ, pos, ◌-ℤ◌, ⊤, Bool, false, List, [], ◌∷◌, ◌++◌, length, map, Option, None, Some, IsTrue, refl, unwrap_or}
use Rattle.std.specs.Option.{option_map}
use Rattle.std.proofs.Common.{inl, inr}
use Rattle.asn1_ranges.specs.declared.bounded.Bounded.TheVariants.{Range}
use Rattle.asn1_tags.specs.Tags.{distinct}
use Rattle.asn1_tags.specs.Trees.{Trees, none, more, is_open, leaves_of}
use Rattle.asn1_model.specs.ConstraintSets.{ConstraintSet, unconstrained}
use Rattle.asn1_model.specs.WellFormed.{AreWellFormed}
use Rattle.asn1_model.specs.Records.{Record}
use Rattle.asn1_model.specs.RecordTables.{Row, Table}
use Rattle.asn1_model.specs.TaggedTypes.{TaggedType}

-- An alternative is a named type (X.680, 29.1): a name, and a type under a tag.
pub record Alternative : Type 1 where
  pub Value : Type 0
  pub name : List ℕ
  pub type : TaggedType Value

-- the alternative of this name and type
abbrev pub alternative : {W : Type 0} → List ℕ → TaggedType W → Alternative
alternative {W = W} name type = record { Value = W; name = name; type = type }

-- The alternatives of a CHOICE (X.680, 29.1): those of the root alone, or those and the ones after the extension marker.
pub data Alternatives : Type 1 where
  closed : List Alternative → Alternatives
  extensible : List Alternative → List Alternative → Alternatives

-- those of the root
abbrev pub root_of : Alternatives → List Alternative
root_of (closed root) = root
root_of (extensible root added) = root

-- all of them, those of the root first
abbrev pub all_of : Alternatives → List Alternative
all_of (closed root) = root
all_of (extensible root added) = root ++ added

-- the names
abbrev pub names_of : List Alternative → List (List ℕ)
names_of alts = map (λ a. a.name) alts

-- the tags with which each of them can begin
abbrev pub trees_of : List Alternative → Trees
trees_of [] = none
trees_of (a ∷ alts) = more a.type.tree (trees_of alts)

-- the same of those after the extension marker, if there is one
abbrev pub added_trees_of : Alternatives → Option Trees
added_trees_of (closed root) = None
added_trees_of (extensible root added) = Some (trees_of added)

-- their table, as records have it
abbrev pub row_of : Alternative → Row
row_of a = record { name = a.name; tree = a.type.tree; may_be_absent = false }

abbrev pub table_of : Alternatives → Table Row
table_of (closed root) = record { root = map row_of root; additions = None }
table_of (extensible root added) = record { root = map row_of root; additions = Some (map row_of added) }

-- all rows of a table, those of the root first
abbrev pub all_rows : Table Row → List Row
all_rows table = table.root ++ unwrap_or table.additions []

-- the tags with which what is in each of some rows can begin
abbrev pub trees_in : List Row → Trees
trees_in [] = none
trees_in (l ∷ ls) = more l.tree (trees_in ls)

-- The constraint of the index of an alternative: from 0 to one less than there are alternatives in the root, and extensible
-- if and only if there is an extension marker.
abbrev pub variance_of : Alternatives → ConstraintSet
variance_of alts = record unconstrained {
  value = Some (record {
    root = record { bound = Range (Some (pos 0)) (Some (pos (length (root_of alts)) -ℤ pos 1)) };
    additions = option_map (λ _. []) (added_trees_of alts);
  });
}

-- each of them has the property
abbrev pub Each : (Alternative → Type 0) → List Alternative → Type 0
Each Property [] = ⊤
Each Property (a ∷ alts) = Property a × Each Property alts

-- the type of the alternative is well tagged; an open type is no alternative
abbrev pub CanBeChosen : Alternative → Type 0
CanBeChosen a = a.type.IsWellTagged × (is_open a.type.tree ≡ false)

-- No tag is twice among the alternatives (X.680, 29.3), those after the extension marker too.
abbrev pub HaveDistinctTags : List Alternative → Type 0
HaveDistinctTags alts = IsTrue (distinct (leaves_of (trees_of alts)))

-- The meaning of one value of a type: its records, what is read as it, whether it meets its type's invariant, and whether it is valid, when
-- its records are well formed.
pub record ValueMeaning : Type 1 where
  pub records : List Record
  pub AreReadAs : List Record → Type 0
  pub read_own : AreReadAs records
  pub IsOfType : Type 0
  pub IsValid : (List ℕ → Bool) → Type 0
  pub well_formed : (accepts : List ℕ → Bool) → IsValid accepts → AreWellFormed accepts records

abbrev pub value_meaning : {W : Type 0} → TaggedType W → W → ValueMeaning
value_meaning type w = record {
  records = type.records w;
  AreReadAs = type.IsReadAs w;
  read_own = type.reads_own w;
  IsOfType = type.IsOfType w;
  IsValid = λ accepts. type.IsValid accepts w;
  well_formed = λ accepts. type.well_formed accepts w;
}

-- the meaning without any records, for tables that do not depend on values
abbrev pub no_meaning : ValueMeaning
no_meaning = record { records = []; AreReadAs = λ rs. rs ≡ []; read_own = refl; IsOfType = ⊤; IsValid = λ _. ⊤; well_formed = λ _ _. tt }

-- Two meanings with the same records, what is read as them, invariant and validity.
pub record MeansTheSame (one other : ValueMeaning) : Type 0 where
  pub records : one.records ≡ other.records
  pub read : (rs : List Record) → one.AreReadAs rs ↔ other.AreReadAs rs
  pub of_type : one.IsOfType ↔ other.IsOfType
  pub valid : (accepts : List ℕ → Bool) → one.IsValid accepts ↔ other.IsValid accepts

pub means_itself : {meaning : ValueMeaning} → MeansTheSame meaning meaning
means_itself = record { records = refl; read = λ _. (λ h. h, λ h. h); of_type = (λ h. h, λ h. h); valid = λ _. (λ h. h, λ h. h) }

-- a value of one of these types
abbrev pub OneOf : List Alternative → Type 0
OneOf [] = ⊥
OneOf (a ∷ alts) = a.Value ⊎ OneOf alts

-- the meaning of a value by its chosen alternative
abbrev pub chosen_meaning : (alts : List Alternative) → OneOf alts → ValueMeaning
chosen_meaning [] x = absurd x
chosen_meaning (a ∷ alts) (inl w) = value_meaning a.type w
chosen_meaning (a ∷ alts) (inr x) = chosen_meaning alts x

-- the chosen alternative
abbrev pub chosen : (alts : List Alternative) → OneOf alts → Alternative
chosen [] x = absurd x
chosen (a ∷ alts) (inl w) = a
chosen (a ∷ alts) (inr x) = chosen alts x

-- the alternatives that are not chosen
abbrev pub others : (alts : List Alternative) → OneOf alts → List Alternative
others [] x = absurd x
others (a ∷ alts) (inl w) = alts
others (a ∷ alts) (inr x) = a ∷ others alts x
