-- CHOICE types whose equal values are written alike, and whose SETs have distinct tags.
use Rattle.std.proofs.Common.{◌≡◌, Bool, true, false, List, [], ◌∷◌, ap, inl, inr, subst, sym}
use Rattle.std.specs.Prelude.{if◌then◌else◌}
use Rattle.asn1_components.specs.Alternatives.{Alternative, Alternatives, CanBeChosen, Each, OneOf, all_of, chosen_meaning, table_of}
use Rattle.asn1_components.specs.ChoiceTypes.{AgreesWithChoice}
use Rattle.asn1_components.specs.ChosenTags.{chosen_tag}
use Rattle.asn1_model.proofs.SameUpToOrder.{same-first_tags, same_holding}
use Rattle.asn1_model.specs.Composites.{alternative_records, choice_records, explicit_tag_records}
use Rattle.asn1_model.specs.ConstraintSets.{ConstraintSet}
use Rattle.asn1_model.specs.DistinctSets.{AreDistinct, SetsAreDistinct}
use Rattle.asn1_model.specs.Meaning.{Meaning}
use Rattle.asn1_model.specs.Orders.{SameRecords}
use Rattle.asn1_model.specs.RecordTables.{Row, Table}
use Rattle.asn1_model.specs.Records.{Name, Record, alternative, explicit_tag, name_or}
use Rattle.asn1_model.specs.Tags.{CHOICE, first_of}
use Rattle.asn1_model.specs.WrittenAlike.{AreWrittenAlike}
use Rattle.asn1_tags.specs.Tags.{tag_eq}
use Rattle.asn1_tags.specs.declared.tags.Tag.{Tag}
use Rattle.asn1_spelling.specs.Choices.{AreEqualIn, Comparisons, EachIsAlikeInside, EachIsDistinctInside}

-- the records of the chosen alternative
chosen_alike : (alts : List Alternative) (es : Comparisons alts) → EachIsAlikeInside alts es → Each CanBeChosen alts → (x y : OneOf alts) → AreEqualIn alts es x y →
    SameRecords (chosen_meaning alts x).records (chosen_meaning alts y).records
chosen_alike [] es each can x y equal = absurd x
chosen_alike (a ∷ alts) es each can (inl x) (inl y) equal = each.0 can.0.0 x y equal
chosen_alike (a ∷ alts) es each can (inl x) (inr y) equal = absurd equal
chosen_alike (a ∷ alts) es each can (inr x) (inl y) equal = absurd equal
chosen_alike (a ∷ alts) es each can (inr x) (inr y) equal = chosen_alike alts es.1 each.1 can.1 x y equal

chosen_distinct : (alts : List Alternative) → EachIsDistinctInside alts → Each CanBeChosen alts → (x : OneOf alts) → AreDistinct (chosen_meaning alts x).records
chosen_distinct [] each can x = absurd x
chosen_distinct (a ∷ alts) each can (inl x) = each.0 can.0.0 x
chosen_distinct (a ∷ alts) each can (inr x) = chosen_distinct alts each.1 can.1 x

-- under the marker tag, and under another
abbrev by_marker : Bool → Tag → Table Row → List Record → ConstraintSet → Name → Tag → ConstraintSet → Name → List Record
by_marker b chosen table rs own_constraints own_name t c n =
    if b
    then alternative_records chosen c table (name_or n own_name) rs
    else explicit_tag_records t (name_or n own_name) (alternative_records chosen own_constraints table own_name rs)

marked_alike : (b : Bool) (chosen : Tag) (table : Table Row) (rs ss : List Record) (own : ConstraintSet) (name : Name) (t : Tag) (c : ConstraintSet) (n : Name) → SameRecords rs ss →
    SameRecords (by_marker b chosen table rs own name t c n) (by_marker b chosen table ss own name t c n)
marked_alike true chosen table rs ss own name t c n same = same_holding (alternative chosen c table (name_or n name)) rs ss same
marked_alike false chosen table rs ss own name t c n same =
    same_holding (explicit_tag t (name_or n name)) (alternative_records chosen own table name rs) (alternative_records chosen own table name ss)
    (same_holding (alternative chosen own table name) rs ss same)

marked_distinct : (b : Bool) (chosen : Tag) (table : Table Row) (rs : List Record) (own : ConstraintSet) (name : Name) (t : Tag) (c : ConstraintSet) (n : Name) → AreDistinct rs →
    AreDistinct (by_marker b chosen table rs own name t c n)
marked_distinct true chosen table rs own name t c n distinct = ((tt, distinct), tt)
marked_distinct false chosen table rs own name t c n distinct = ((tt, ((tt, distinct), tt)), tt)

-- A CHOICE whose equality is that of its alternatives.
pub choice_alike : {V : Type 0} (alts : Alternatives) (pick : V → OneOf (all_of alts)) (m : Meaning V) (eq : V → V → Bool) (es : Comparisons (all_of alts)) →
    AgreesWithChoice alts pick m → EachIsAlikeInside (all_of alts) es → ((v w : V) → eq v w ≡ true → AreEqualIn (all_of alts) es (pick v) (pick w)) → AreWrittenAlike m eq
choice_alike alts pick m eq es law each compared t c n can v w same =
    let rs = (chosen_meaning (all_of alts) (pick v)).records in
    let ss = (chosen_meaning (all_of alts) (pick w)).records in
    let one = chosen_alike (all_of alts) es each ((law.distinct_tags t).0 can).1 (pick v) (pick w) (compared v w same) in
    let first : chosen_tag (all_of alts) (pick v) ≡ chosen_tag (all_of alts) (pick w) = ap first_of (same-first_tags rs ss one) in
    subst (λ l. SameRecords l (m.records w t c n)) (sym (law.records v t c n))
    (subst (SameRecords (choice_records (chosen_tag (all_of alts) (pick v)) (table_of alts) rs m.constraints m.name t c n)) (sym (law.records w t c n))
    (subst (λ chosen. SameRecords (choice_records (chosen_tag (all_of alts) (pick v)) (table_of alts) rs m.constraints m.name t c n) (choice_records chosen (table_of alts) ss m.constraints m.name t c n)) first
    (marked_alike (tag_eq t CHOICE) (chosen_tag (all_of alts) (pick v)) (table_of alts) rs ss m.constraints m.name t c n one)))

pub choice_distinct : {V : Type 0} (alts : Alternatives) (pick : V → OneOf (all_of alts)) (m : Meaning V) → AgreesWithChoice alts pick m → EachIsDistinctInside (all_of alts) → SetsAreDistinct m
choice_distinct alts pick m law each t c n can v =
    subst AreDistinct (sym (law.records v t c n))
    (marked_distinct (tag_eq t CHOICE) (chosen_tag (all_of alts) (pick v)) (table_of alts) (chosen_meaning (all_of alts) (pick v)).records m.constraints m.name t c n
    (chosen_distinct (all_of alts) each ((law.distinct_tags t).0 can).1 (pick v)))
