-- Components of a SET that were read into slots, and nothing else.
use Rattle.std.proofs.Common.{◌≡◌, ℕ, ◌<◌, true, List, [], ◌∷◌, ◌++◌, length, Ok, append-nil, ap, subst, sym, ◌∙◌}
use Rattle.asn1_components.specs.ComponentTypes.{ComponentType}
use Rattle.asn1_laws.proofs.ReadingExactly.{nothing_read, read_both}
use Rattle.asn1_laws.proofs.ReadingWhole.{both_were_read, these_were_read}
use Rattle.asn1_laws.proofs.UnmarkedRecords.{unmarked-append, unmarked-marks}
use Rattle.asn1_laws.specs.Reading.{Reader}
use Rattle.asn1_laws.specs.ReadingExactly.{HasReadMarks, WasRead}
use Rattle.asn1_model.specs.Records.{Record, unmarked}
use Rattle.asn1_slots.specs.Slots.{AreEmpty, ComesAt, HaveCome, OthersAreKept, ReadsOnceAt, Slot, can_be_in_set}
use Rattle.asn1_slots.specs.SlotsComing.{added_at, comes_at, none_have_come}
use Rattle.asn1_tags.specs.declared.tags.Tag.{Tag}
use Rattle.std.specs.Prelude.{IsPermutation}

module _ {S V : Type 0} (hs : List (Slot S V)) (can : can_be_in_set hs ≡ true) {D : Type 0} (R : Reader D) where
  pub none_came : (d : D) (s : S) → AreEmpty hs s → WasRead R d d (HaveCome hs s)
  none_came d s empty = these_were_read R d d [] (HaveCome hs s) (none_have_come hs can s empty) (nothing_read R d)

  pub one_more_came : {A : Type 0} (old mid new : D) (t : Tag) (x : A) (index : ℕ) (before after : S) → index < length hs → OthersAreKept hs index before after →
      WasRead R old mid (HaveCome hs before) → ReadsOnceAt R hs index t mid new before after (Ok x) → WasRead R old new (HaveCome hs after)
  one_more_came old mid new t x index before after low kept first reads =
      both_were_read R old mid new (HaveCome hs before) (ComesAt hs index before after) (HaveCome hs after)
      (λ rs ss have comes. added_at hs can index before after rs ss kept comes have) first (comes_at R t mid new x hs index before after low can reads)

-- marks among what has come mean nothing
have_come_unmarked : {S V : Type 0} (hs : List (Slot S V)) (s : S) (rs ss : List Record) → unmarked ss ≡ unmarked rs → HaveCome hs s rs → HaveCome hs s ss
have_come_unmarked [] s rs ss same have = same ∙ have
have_come_unmarked (h ∷ hs) s rs ss same (own, others, has, are, moved) =
    (own, others, has, are, subst (λ l. IsPermutation l (unmarked own ++ unmarked others)) (sym same) moved)

pub marks_came : {S V D : Type 0} (hs : List (Slot S V)) (R : Reader D) (old mid new : D) (s : S) → WasRead R old mid (HaveCome hs s) → HasReadMarks R mid new → WasRead R old new (HaveCome hs s)
marks_came hs R old mid new s first marks = record {
  records = first.records ++ marks.records;
  are = λ rest outer at. have_come_unmarked hs s first.records (first.records ++ marks.records)
      (unmarked-append first.records marks.records ∙ ap (λ l. unmarked first.records ++ l) (unmarked-marks marks.records marks.are) ∙ append-nil (unmarked first.records))
      (first.are (marks.records ++ rest) outer (marks.read rest outer at));
  read = read_both R old mid new first.records marks.records first.read marks.read;
}
