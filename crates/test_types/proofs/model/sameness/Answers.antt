use Rattle.std.specs.Prelude.{◌≡◌, Bool, false, [], ◌∷◌, None, IsPermutation, refl}
use Rattle.std.proofs.Common.{sym, ◌∙◌}
use Rattle.std.proofs.lemmas.Bool.{false≢true}
use Rattle.std.proofs.lemmas.List.Sorted.{IsPermutation-middle}
use Rattle.asn1_model.specs.ConstraintSets.{unconstrained}
use Rattle.asn1_model.specs.Orders.{is_unordered, SameRecord, SameAll, equal, one_by_one, in_any_order, at_end, next}
use Rattle.asn1_model.specs.Records.{Record, Records, scalar, scope, open_type, presence_mark, none, more, is_presence_mark, sequence, set, set_of}
use Rattle.asn1_model.specs.RecordTables.{no_table}
use Rattle.asn1_model.specs.Tags.{universal}
use Rattle.asn1_model.proofs.SameRecords.{same-mark}
use Rattle.test_types.proofs.model.sameness.Goals as goal

turned : {A : Type 0} (x y : A) → IsPermutation (x ∷ y ∷ []) (y ∷ x ∷ [])
turned x y = IsPermutation-middle (x ∷ []) y []

-- src/model.rt
pub returns-clause-set : goal.returns-clause-set
returns-clause-set c = λ r s. in_any_order (set (universal 17) no_table None) refl (next (equal r) (next (equal s) at_end)) (turned r s)

-- src/model.rt
pub returns-clause-inside : goal.returns-clause-inside
returns-clause-inside c = λ r s.
    one_by_one
    (sequence (universal 16) no_table None)
    (next (in_any_order (set_of (universal 17) unconstrained None) refl (next (equal r) (next (equal s) at_end)) (turned r s)) at_end)

-- whether the first of the records is a mark
abbrev begins_with_mark : Records → Bool
begins_with_mark none = false
begins_with_mark (more r rs) = is_presence_mark r

-- whether what is in the record begins with a mark
abbrev holds_mark_first : Record → Bool
holds_mark_first (scalar t c n x) = false
holds_mark_first (scope h rs) = begins_with_mark rs
holds_mark_first (open_type n bytes) = false
holds_mark_first (presence_mark m) = false

-- whether the order means nothing in the record
abbrev has_no_order : Record → Bool
has_no_order (scalar t c n x) = false
has_no_order (scope h rs) = is_unordered h
has_no_order (open_type n bytes) = false
has_no_order (presence_mark m) = false

first_alike : {rs ss : Records} → SameAll rs ss → begins_with_mark rs ≡ begins_with_mark ss
first_alike at_end = refl
first_alike (next same all) = same-mark same

-- where the order means something, the first records are alike
ordered_alike : {r s : Record} → SameRecord r s → has_no_order r ≡ false → holds_mark_first r ≡ holds_mark_first s
ordered_alike (equal r) e = refl
ordered_alike (one_by_one h all) e = first_alike all
ordered_alike (in_any_order h unordered all moved) e = absurd (false≢true (sym e ∙ unordered))

-- src/model.rt
pub returns-clause-sequence : goal.returns-clause-sequence
returns-clause-sequence c = λ same. false≢true (ordered_alike same refl)
