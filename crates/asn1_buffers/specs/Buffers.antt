-- The description of a buffer, and the effect of its calls.
use Rattle.std.specs.Prelude.{◌≡◌, ◌≢◌, ℕ, List, [], ◌∷◌, MatchResult, OnOk, Result, Some}
use Rattle.asn1_buffers.specs.declared.error.WriteError.{WriteError}
use Rattle.asn1_buffers.specs.declared.error.WriteError.TheVariants.{Memory}
use Rattle.asn1_laws.specs.Writing.{Written, followed_by, in_group, in_scope}
use Rattle.asn1_model.specs.Composites.{group_records}
use Rattle.asn1_model.specs.Orders.{SameRecord}
use Rattle.asn1_model.specs.Records.{Head, Record, holding}
use Rattle.asn1_model.specs.RecordTables.{Row, Table}

-- The description of a buffer: the records that it has written, in their very order; the records that it rejects; and the bytes of
-- records.
pub record BufferForm (B : Type 0) : Type 1 where
  pub wrote : B → Written → Type 0
  pub rejects : List Record → Type 0
  pub have_bytes : List Record → List ℕ → Type 0

module _ {B : Type 0} (F : BufferForm B) where
  -- a call that appends a record to the innermost list
  abbrev pub AppendsRecord : {A : Type 0} → B → Record → B → Result A WriteError → Type 0
  AppendsRecord old r new result =
      MatchResult result (λ _. (w : Written) → F.wrote old w → F.wrote new (followed_by w (r ∷ []))) (λ e. e ≢ Memory → F.rejects (r ∷ []))

  -- a call that begins a scope
  abbrev pub BeginsScope : {A : Type 0} → B → Head → B → Result A WriteError → Type 0
  BeginsScope old h new result = MatchResult result (λ _. (w : Written) → F.wrote old w → F.wrote new (in_scope h [] w)) (λ e. e ≡ Memory)

  -- The innermost scope is a record now, which holds what was written in it, in some order where the order means nothing.
  pub record ScopeIsHeld (h : Head) (rs : List Record) (w : Written) (new : B) : Type 0 where
    pub closed : Record
    pub same : SameRecord closed (holding h rs)
    pub wrote : F.wrote new (followed_by w (closed ∷ []))

  -- a call that ends the innermost scope
  abbrev pub EndsScope : {A : Type 0} → B → B → Result A WriteError → Type 0
  EndsScope old new result = (h : Head) (rs : List Record) (w : Written) → F.wrote old (in_scope h rs w) →
      MatchResult result (λ _. ScopeIsHeld h rs w new) (λ e. e ≢ Memory → F.rejects (holding h rs ∷ []))

  -- the same of a buffer that leaves what is in a scope in the order in which it was written, inside sets too
  abbrev pub EndsScopeInOrder : {A : Type 0} → B → B → Result A WriteError → Type 0
  EndsScopeInOrder old new result = (h : Head) (rs : List Record) (w : Written) → F.wrote old (in_scope h rs w) →
      OnOk result (F.wrote new (followed_by w (holding h rs ∷ [])))

  -- a call that begins a group of additions
  abbrev pub BeginsGroup : {A : Type 0} → B → Table Row → B → Result A WriteError → Type 0
  BeginsGroup old table new result = MatchResult result (λ _. (w : Written) → F.wrote old w → F.wrote new (in_group table [] w)) (λ e. e ≡ Memory)

  -- a call that ends the innermost group, which is absent where its components are presence marks alone
  abbrev pub EndsGroup : {A : Type 0} → B → B → Result A WriteError → Type 0
  EndsGroup old new result = (table : Table Row) (rs : List Record) (w : Written) → F.wrote old (in_group table rs w) →
      MatchResult result (λ _. F.wrote new (followed_by w (group_records table (Some rs)))) (λ e. e ≡ Memory)
