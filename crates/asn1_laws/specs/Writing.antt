-- The records that an encoder has written, and the effect of each call of it.
use Rattle.std.specs.Prelude.{◌≡◌, ◌≢◌, ◌↔◌, ℕ, suc, ◌≤◌, ◌<◌, ⊤, Bool, true, false, List, [], ◌∷◌, ◌++◌, Err, MatchResult, Result, Some}
use Rattle.asn1_model.specs.Composites.{group_records}
use Rattle.asn1_model.specs.Orders.{SameRecords}
use Rattle.asn1_model.specs.Records.{Record, Head, group_absent, holding, highest, presence_mark, presence_marks_alone}
use Rattle.asn1_model.specs.RecordTables.{Row, Table}
use Rattle.asn1_laws.specs.declared.encode_error.EncodeError.{EncodeError}
use Rattle.asn1_laws.specs.declared.encode_error.EncodeError.TheVariants.{Memory, Depth, Failed, Custom}

-- The written records: those of the outermost list, and of each scope and group that is
-- open, innermost first. A group has a table of its own.
pub data Written : Type 0 where
  outermost : List Record → Written
  in_scope : Head → List Record → Written → Written
  in_group : Table Row → List Record → Written → Written

-- with more records in the innermost list
abbrev pub followed_by : Written → List Record → Written
followed_by (outermost done) rs = outermost (done ++ rs)
followed_by (in_scope h done outer) rs = in_scope h (done ++ rs) outer
followed_by (in_group table done outer) rs = in_group table (done ++ rs) outer

-- The same records have been written, list by list, up to the order inside sets.
pub data SameWritten : Written → Written → Type 0 where
  same_outermost : {rs ss : List Record} → SameRecords rs ss → SameWritten (outermost rs) (outermost ss)
  same_scope : (h : Head) {rs ss : List Record} {w x : Written} → SameRecords rs ss → SameWritten w x → SameWritten (in_scope h rs w) (in_scope h ss x)
  same_group : (table : Table Row) {rs ss : List Record} {w x : Written} → SameRecords rs ss →
      SameWritten w x → SameWritten (in_group table rs w) (in_group table ss x)

-- The error says that the codec rejects the records, by a message of its own.
abbrev pub IsRejection : EncodeError → Type 0
IsRejection Memory = ⊥
IsRejection Depth = ⊥
IsRejection Failed = ⊥
IsRejection (Custom message) = ⊤

-- The relations that an encoder defines: the records that it has written, whether it has failed, how
-- many nested scopes may still be opened (the depth left), and which records it rejects.
pub record Writer (E : Type 0) : Type 1 where
  pub wrote : E → Written → Type 0
  pub failed : E → Bool
  pub depth_left : E → ℕ
  pub rejects : List Record → Type 0

module _ {E : Type 0} (W : Writer E) where
  -- The laws of these relations. Records are rejected where a part of them is, or what one of them
  -- holds. Presence marks alone are rejected only by a codec that rejects an absent group: a group
  -- of them is absent. The order inside sets means nothing.
  pub record IsLawful : Type 0 where
    pub part : (before rs after : List Record) → W.rejects rs → W.rejects (before ++ (rs ++ after))
    pub inner : (h : Head) (rs : List Record) → W.rejects rs → W.rejects (holding h rs ∷ [])
    pub marks : (table : Table Row) (rs : List Record) → presence_marks_alone rs ≡ true → W.rejects rs →
        W.rejects (presence_mark (group_absent table) ∷ [])
    pub wrote_in_any_order : (e : E) (w x : Written) → SameWritten w x → W.wrote e w → W.wrote e x
    pub rejects_in_any_order : (rs ss : List Record) → SameRecords rs ss → W.rejects rs → W.rejects ss

  -- The records have been written, which are nested no deeper than the depth left, and the value
  -- that they are of meets its type's invariant. Nothing else has changed; where the encoder has
  -- failed, there were no records to be written.
  pub record Appends (old : E) (rs : List Record) (IsOfType : Type 0) (new : E) : Type 0 where
    pub written : (w : Written) → W.wrote old w → W.wrote new (followed_by w rs)
    pub failed_as_before : W.failed new ≡ W.failed old
    pub unless_failed : W.failed old ≡ true → rs ≡ []
    pub same_depth : W.depth_left new ≡ W.depth_left old
    pub within_depth_left : highest rs ≤ W.depth_left old
    pub of_type : IsOfType

  -- An error: the encoder has failed, and had failed before if and only if the error says so.
  pub record IsError (old new : E) (e : EncodeError) : Type 0 where
    pub has_failed : W.failed new ≡ true
    pub failed_before : (e ≡ Failed) ↔ (W.failed old ≡ true)

  -- The records were not written: they are nested too deep or rejected, or memory ran out, or the
  -- encoder had failed before.
  pub record Fails (old : E) (rs : List Record) (new : E) (e : EncodeError) : Type 0 where
    pub error : IsError old new e
    pub too_deep : e ≡ Depth → W.depth_left old < highest rs
    pub rejected : IsRejection e → (w : Written) → W.wrote old w → W.rejects rs

  -- a call that writes records
  abbrev pub Writes : {A : Type 0} → E → List Record → Type 0 → E → Result A EncodeError → Type 0
  Writes old rs IsOfType new result = MatchResult result (λ _. Appends old rs IsOfType new) (Fails old rs new)

  -- A scope has been opened, which takes one from the depth left.
  pub record ScopeIsOpen (old : E) (h : Head) (new : E) : Type 0 where
    pub opened : (w : Written) → W.wrote old w → W.wrote new (in_scope h [] w)
    pub no_failure_before : W.failed old ≡ false
    pub no_failure : W.failed new ≡ false
    pub one_less : W.depth_left old ≡ suc (W.depth_left new)

  -- It has not: no depth is left, or whatever the scope will hold is rejected, or memory ran out.
  -- `Depth` comes first if no depth is left, unless the encoder had failed before.
  pub record ScopeIsNotOpen (old : E) (h : Head) (new : E) (e : EncodeError) : Type 0 where
    pub error : IsError old new e
    pub too_deep : e ≡ Depth → W.depth_left old ≡ 0
    pub depth_first : W.failed old ≡ false → W.depth_left old ≡ 0 → e ≡ Depth
    pub rejected : IsRejection e → (rs : List Record) → W.rejects (holding h rs ∷ [])

  -- A call that opens a scope before anything else: where no depth is left it says so, and so
  -- before anything but that the encoder has failed.
  abbrev pub NeedsDepth : {A : Type 0} → E → Result A EncodeError → Type 0
  NeedsDepth old result = W.failed old ≡ false → W.depth_left old ≡ 0 → result ≡ Err Depth

  -- A call that opens a scope for a record of this head, and takes one from the depth left. It says
  -- what has been written then, the depth left, and whether the encoder has failed, whatever had
  -- been written before.
  abbrev pub WritesHead : {A : Type 0} → E → Head → E → Result A EncodeError → Type 0
  WritesHead old h new result = MatchResult result (λ _. ScopeIsOpen old h new) (ScopeIsNotOpen old h new)

  -- The innermost scope has been closed, and is a record. The depth left is one more again.
  pub record ScopeIsClosed (old new : E) : Type 0 where
    pub closed : (h : Head) (rs : List Record) (w : Written) → W.wrote old (in_scope h rs w) → W.wrote new (followed_by w (holding h rs ∷ []))
    pub no_failure_before : W.failed old ≡ false
    pub no_failure : W.failed new ≡ false
    pub one_more : W.depth_left new ≡ suc (W.depth_left old)

  -- It has not: the record is rejected, or memory ran out, or the encoder had failed before.
  pub record ScopeIsNotClosed (old new : E) (e : EncodeError) : Type 0 where
    pub error : IsError old new e
    pub not_too_deep : e ≢ Depth
    pub rejected : IsRejection e → (h : Head) (rs : List Record) (w : Written) → W.wrote old (in_scope h rs w) → W.rejects (holding h rs ∷ [])

  -- a call that closes the innermost scope, and gives one back to the depth left
  abbrev pub WritesEnd : {A : Type 0} → E → E → Result A EncodeError → Type 0
  WritesEnd old new result = MatchResult result (λ _. ScopeIsClosed old new) (ScopeIsNotClosed old new)

  -- A group of additions of this table has been opened, which is no scope.
  pub record GroupIsOpen (old : E) (table : Table Row) (new : E) : Type 0 where
    pub opened : (w : Written) → W.wrote old w → W.wrote new (in_group table [] w)
    pub no_failure_before : W.failed old ≡ false
    pub no_failure : W.failed new ≡ false
    pub same_depth : W.depth_left new ≡ W.depth_left old

  -- It has not: whatever the group will hold is rejected, or memory ran out, or the encoder had
  -- failed before.
  pub record GroupIsNotOpen (old : E) (table : Table Row) (new : E) (e : EncodeError) : Type 0 where
    pub error : IsError old new e
    pub not_too_deep : e ≢ Depth
    pub rejected : IsRejection e → (rs : List Record) → W.rejects (group_records table (Some rs))

  -- a call that opens a group
  abbrev pub OpensGroup : {A : Type 0} → E → Table Row → E → Result A EncodeError → Type 0
  OpensGroup old table new result = MatchResult result (λ _. GroupIsOpen old table new)
      (GroupIsNotOpen old table new)

  -- The innermost group has been closed. It is absent where its components are marks alone.
  pub record GroupIsClosed (old new : E) : Type 0 where
    pub closed : (table : Table Row) (rs : List Record) (w : Written) →
        W.wrote old (in_group table rs w) →
        W.wrote new (followed_by w (group_records table (Some rs)))
    pub no_failure_before : W.failed old ≡ false
    pub no_failure : W.failed new ≡ false
    pub same_depth : W.depth_left new ≡ W.depth_left old

  -- It has not: the group is rejected, or memory ran out, or the encoder had failed before.
  pub record GroupIsNotClosed (old new : E) (e : EncodeError) : Type 0 where
    pub error : IsError old new e
    pub not_too_deep : e ≢ Depth
    pub rejected : IsRejection e → (table : Table Row) (rs : List Record) (w : Written) →
        W.wrote old (in_group table rs w) → W.rejects (group_records table (Some rs))

  -- a call that closes the innermost group
  abbrev pub ClosesGroup : {A : Type 0} → E → E → Result A EncodeError → Type 0
  ClosesGroup old new result = MatchResult result (λ _. GroupIsClosed old new) (GroupIsNotClosed old new)

  -- The encoder has failed because memory ran out, if it had not failed before.
  pub record IsOutOfMemory (old new : E) (e : EncodeError) : Type 0 where
    pub error : IsError old new e
    pub memory : W.failed old ≡ false → e ≡ Memory
