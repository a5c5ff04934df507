-- How a codec over items tells whether something is there.
use Rattle.std.specs.Prelude.{◌≡◌, ℕ, Bool, true, false, List, [], ◌∷◌, ◌++◌, MatchResult, Result, Some}
use Rattle.std.specs.List.{flat_map}
use Rattle.asn1_items.specs.Headers.{Header, header_at}
use Rattle.asn1_items.specs.Items.{HaveBytes, MarkBytes, packed_marks, read_with}
use Rattle.asn1_items.specs.Slices.{left_inside, left_outside, open_lists}
use Rattle.asn1_items.specs.declared.error.ItemError.{ItemError}
use Rattle.asn1_items.specs.declared.slices.Slices.{Slices}
use Rattle.asn1_model.specs.Records.{PresenceMark, Record, absent, group_absent, group_end, group_start, held, present, presence_mark}
use Rattle.asn1_model.specs.Tags.{Tags, BeginsWithin, ShareNone, first_tags}

-- The lists outside the innermost one are as they were.
pub record KeepsOutside (old new : Slices) : Type 0 where
  pub outside : left_outside new ≡ left_outside old
  pub same_lists : open_lists new ≡ open_lists old

-- A presence mark was passed: what is left are the bytes of these records.
pub record HasPassedMark (marks : MarkBytes) (rest : List Record) (new : Slices) (Answer : Type 0) : Type 0 where
  pub answer : Answer
  pub left : HaveBytes (read_with marks) (held rest) (left_inside new)

-- a call that goes past this presence mark, after which these records remain
abbrev pub PassesMark : {V : Type 0} → MarkBytes → PresenceMark → List Record → (V → Type 0) → Slices → Slices → Result V ItemError → Type 0
PassesMark marks m rest Is old new result =
    HaveBytes (read_with marks) (held (presence_mark m ∷ rest)) (left_inside old) → MatchResult result (λ w. HasPassedMark marks rest new (Is w)) (λ _. ⊥)

-- A call that finds whether something is there, which has these tags, and goes past the presence mark that says so. What is
-- there begins with one of its tags; what follows something absent begins with none.
pub record FindsPresence (marks : MarkBytes) (there_mark away_mark : PresenceMark) (own : Tags) (old new : Slices) (result : Result Bool ItemError) : Type 0 where
  pub there : (rest : List Record) → BeginsWithin own rest → PassesMark marks there_mark rest (λ b. b ≡ true) old new result
  pub away : (rest : List Record) → ShareNone own (first_tags rest) → PassesMark marks away_mark rest (λ b. b ≡ false) old new result

-- A presence mark was taken, and nothing else: what was left is its bytes, and what is left.
abbrev pub HasTakenMark : MarkBytes → PresenceMark → Slices → Slices → Type 0
HasTakenMark marks m old new = left_inside old ≡ marks m ++ left_inside new

-- The same of one of two: the first if the answer is yes, and else the second.
abbrev pub HasTakenEither : MarkBytes → PresenceMark → PresenceMark → Slices → Slices → Bool → Type 0
HasTakenEither marks there away old new true = HasTakenMark marks there old new
HasTakenEither marks there away old new false = HasTakenMark marks away old new

-- The same of some presence marks, of which there may be none.
pub record HasTakenMarks (marks : MarkBytes) (old new : Slices) : Type 0 where
  pub passed : List PresenceMark
  pub left : left_inside old ≡ flat_map (λ m. marks m) passed ++ left_inside new

-- No presence mark has bytes with which an item begins.
abbrev pub BeginNoItem : MarkBytes → Type 0
BeginNoItem marks = (m : PresenceMark) (rest : List ℕ) (h : Header) → header_at (marks m ++ rest) ≡ Some h → marks m ≡ []

-- those of the packed form have none
pub packed_begin_no_item : BeginNoItem packed_marks
packed_begin_no_item (present side t) rest h at = cc
packed_begin_no_item (absent side t) rest h at = cc
packed_begin_no_item (group_start table) rest h at = cc
packed_begin_no_item (group_absent table) rest h at = cc
packed_begin_no_item group_end rest h at = cc
