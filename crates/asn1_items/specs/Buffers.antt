-- The records that a buffer has written, with presence marks of these bytes.
use Rattle.std.specs.Prelude.{◌≡◌, ◌⊎◌, ⊤, ℕ, ◌+◌, ◌<◌, ◌≤◌, ◌^◌, Bool, false, true, not, List, [], ◌∷◌, ◌++◌, length, IfOk, MatchResult, Result, Some}
use Rattle.asn1_laws.specs.Writing.{Written, followed_by, outermost, in_scope, in_group}
use Rattle.asn1_items.specs.Headers.{tag_bytes}
use Rattle.asn1_items.specs.Kinds.{item_byte, kind_of}
use Rattle.asn1_items.specs.Items.{HaveBytes, IsTooLong, MarkBytes, written_with}
use Rattle.asn1_items.specs.Numbers.{four_bytes}
use Rattle.asn1_items.specs.declared.buffer.Buffer.{Buffer}
use Rattle.asn1_items.specs.declared.error.BufferError.{BufferError}
use Rattle.asn1_items.specs.declared.error.BufferError.TheVariants.{Memory, TooLong}
use Rattle.asn1_items.specs.declared.group.Group.{Group}
use Rattle.asn1_model.specs.Composites.{group_records}
use Rattle.asn1_model.specs.Records.{Record, Head, group_absent, group_end, group_start, held, holding, presence_marks_alone}
use Rattle.asn1_model.specs.RecordTables.{Row, Table}
use Rattle.asn1_model.specs.Tags.{head_tag}

-- If the innermost list is that of a group, the flag says whether there is a record in it that is no presence mark.
abbrev pub TellsOfGroup : Written → Bool → Type 0
TellsOfGroup (outermost rs) has_records = ⊤
TellsOfGroup (in_scope h rs w) has_records = ⊤
TellsOfGroup (in_group table rs w) has_records = has_records ≡ not (presence_marks_alone rs)

-- A number leads out of a scope: it is the distance from the index at which the inside of the scope around it begins to the index of
-- its own. Or it is 0, and the outer index is the first of those that are far.
abbrev pub LeadsOut : ℕ → ℕ → List ℕ → ℕ → List ℕ → Type 0
LeadsOut link start far outer outer_far = ((0 < link) × (start ≡ outer + link) × (far ≡ outer_far)) ⊎ ((link ≡ 0) × (far ≡ outer ∷ outer_far))

module _ (marks : MarkBytes) where
  -- An open scope: the bytes outside; its header, with a number that leads out instead of the length, which is not known yet;
  -- and the bytes inside.
  pub record IsOpenScope (IsOutside : ℕ → List ℕ → List ℕ → Type 0) (h : Head) (rs : List Record) (start : ℕ) (far : List ℕ) (bytes : List ℕ) : Type 0 where
    pub before : List ℕ
    pub link : ℕ
    pub inside : List ℕ
    pub outer : ℕ
    pub outer_far : List ℕ
    pub outside : IsOutside outer outer_far before
    pub are : bytes ≡ (before ++ item_byte (kind_of h) ∷ tag_bytes (head_tag h)) ++ (four_bytes link ++ inside)
    pub link_fits : link < 2 ^ 32
    pub leads_out : LeadsOut link start far outer outer_far
    pub starts : start ≡ length before + 10
    pub tag_fits : (head_tag h).value < 2 ^ 32
    pub have_bytes : HaveBytes (written_with marks) (held rs) inside

  -- A group that is open: what is outside, the mark, and what is inside.
  pub record IsOpenGroup (IsOutside : List ℕ → Type 0) (table : Table Row) (rs : List Record) (start : ℕ) (bytes : List ℕ) : Type 0 where
    pub before : List ℕ
    pub inside : List ℕ
    pub outside : IsOutside before
    pub are : bytes ≡ before ++ (marks (group_start table) ++ inside)
    pub starts : start ≡ length before
    pub have_bytes : HaveBytes (written_with marks) (held rs) inside

  -- The records that have been written. The number is the index at which the inside of the innermost open scope begins, and 0 if none
  -- is open. The lists have the indices that are far, and the open groups, both innermost first.
  abbrev pub IsWrittenAsItems : Written → ℕ → List ℕ → List Group → List ℕ → Type 0
  IsWrittenAsItems (outermost rs) start far [] bytes = (start ≡ 0) × HaveBytes (written_with marks) (held rs) bytes
  IsWrittenAsItems (outermost rs) start far (g ∷ gs) bytes = ⊥
  IsWrittenAsItems (in_scope h rs w) start far gs bytes = IsOpenScope (λ outer outer_far before. IsWrittenAsItems w outer outer_far gs before) h rs start far bytes
  IsWrittenAsItems (in_group table rs w) start far [] bytes = ⊥
  IsWrittenAsItems (in_group table rs w) start far (g ∷ gs) bytes = TellsOfGroup w g.outer_has_records × IsOpenGroup (λ before. IsWrittenAsItems w start far gs before) table rs g.start bytes

-- what is open, innermost first
abbrev pub inward : {A : Type 0} → List A → List A → List A
inward inner [] = inner
inward inner (x ∷ xs) = inward (x ∷ inner) xs

-- The innermost list is that of a group, where the inside of the innermost scope begins at this index: the innermost group begins
-- there or after it.
abbrev pub GroupIsInnermost : List Group → ℕ → Type 0
GroupIsInnermost [] start = ⊥
GroupIsInnermost (g ∷ gs) start = start ≤ g.start

-- whether the innermost list is that of a scope
abbrev pub is_in_scope : Written → Bool
is_in_scope (outermost rs) = false
is_in_scope (in_scope h rs w) = true
is_in_scope (in_group table rs w) = false

-- whether the innermost list is that of a group
abbrev pub is_in_group : Written → Bool
is_in_group (outermost rs) = false
is_in_group (in_scope h rs w) = false
is_in_group (in_group table rs w) = true

-- The buffer has written these records, in the lists that are open.
abbrev pub HasWritten : MarkBytes → Written → Buffer → Type 0
HasWritten marks w b = IsWrittenAsItems marks w b.scope_start (inward [] b.far_starts.items) (inward [] b.groups.items) b.bytes.items × TellsOfGroup w b.has_records

module _ (marks : MarkBytes) where
  -- a call that appends records to the innermost list
  abbrev pub AppendsRecords : {A : Type 0} → Buffer → List Record → Buffer → Result A BufferError → Type 0
  AppendsRecords old rs new result = (w : Written) → HasWritten marks w old → IfOk result (λ _. HasWritten marks (followed_by w rs) new)

  -- A call that closes the innermost scope, which fails only where 2^32 bytes or more are inside, and says so.
  abbrev pub EndsScope : {A : Type 0} → Buffer → Buffer → Result A BufferError → Type 0
  EndsScope old new result = (h : Head) (rs : List Record) (w : Written) → HasWritten marks (in_scope h rs w) old →
      MatchResult result (λ _. HasWritten marks (followed_by w (holding h rs ∷ [])) new) (λ e. (e ≡ TooLong) × IsTooLong (written_with marks) (holding h rs))

  -- A call that closes the innermost group, and is given the bytes of the presence mark of its end, and of that of an absent group.
  -- It fails only where memory runs out.
  abbrev pub EndsGroup : {A : Type 0} → List ℕ → List ℕ → Buffer → Buffer → Result A BufferError → Type 0
  EndsGroup end absent old new result = (table : Table Row) (rs : List Record) (w : Written) → marks group_end ≡ end → marks (group_absent table) ≡ absent → HasWritten marks (in_group table rs w) old →
      MatchResult result (λ _. HasWritten marks (followed_by w (group_records table (Some rs))) new) (λ e. e ≡ Memory)

-- A call that writes the length of the bytes from an index on over the four bytes before it, and answers the number that they held. It
-- fails where the length is 2^32 or more, and says so.
abbrev pub FillsLength : List ℕ → ℕ → List ℕ → Result ℕ BufferError → Type 0
FillsLength old start new result = (before inside : List ℕ) (number : ℕ) → number < 2 ^ 32 → old ≡ before ++ (four_bytes number ++ inside) → start ≡ length before + 4 →
    MatchResult result (λ held. (length inside < 2 ^ 32) × (new ≡ before ++ (four_bytes (length inside) ++ inside)) × (held ≡ number)) (λ e. (e ≡ TooLong) × (2 ^ 32 ≤ length inside))
