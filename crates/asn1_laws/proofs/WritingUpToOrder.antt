-- A codec up to order: its law, and each of its steps by the exact one.
use Rattle.std.specs.Prelude.{◌≡◌, List, [], ◌∷◌, ◌++◌, Result, Ok, Err, Some, refl}
use Rattle.std.proofs.Common.{subst, ◌∙◌}
use Rattle.asn1_model.specs.Composites.{group_records}
use Rattle.asn1_model.specs.Orders.{SameRecords}
use Rattle.asn1_model.specs.Records.{Record, Head, group_absent, holding, presence_mark}
use Rattle.asn1_model.specs.RecordTables.{Row, Table}
use Rattle.asn1_model.proofs.SameUpToOrder.{SameRecords-refl, SameAll-sym, SameAll-trans, SameAll-append, same-marks_alone, same_holding, same_group_records}
use Rattle.asn1_laws.specs.declared.encode_error.EncodeError.{EncodeError}
use Rattle.asn1_laws.specs.WritingUpToOrder.{RejectsByParts, WroteUpToOrder, RejectsUpToOrder, up_to_order}
use Rattle.asn1_laws.specs.Writing.{Writer, Written, outermost, in_scope, in_group, followed_by, SameWritten, same_outermost, same_scope, same_group, IsLawful, Appends, IsError, Fails, Writes, ScopeIsOpen, ScopeIsNotOpen, WritesHead, ScopeIsClosed, ScopeIsNotClosed, WritesEnd, GroupIsOpen, GroupIsNotOpen, OpensGroup, GroupIsClosed, GroupIsNotClosed, ClosesGroup, IsOutOfMemory}

-- Sameness of written records is an equivalence.
pub SameWritten-refl : (w : Written) → SameWritten w w
SameWritten-refl (outermost rs) = same_outermost (SameRecords-refl rs)
SameWritten-refl (in_scope h rs w) = same_scope h (SameRecords-refl rs) (SameWritten-refl w)
SameWritten-refl (in_group table rs w) = same_group table (SameRecords-refl rs) (SameWritten-refl w)

pub SameWritten-sym : {w x : Written} → SameWritten w x → SameWritten x w
SameWritten-sym (same_outermost rs) = same_outermost (SameAll-sym rs)
SameWritten-sym (same_scope h rs w) = same_scope h (SameAll-sym rs) (SameWritten-sym w)
SameWritten-sym (same_group table rs w) = same_group table (SameAll-sym rs) (SameWritten-sym w)

pub SameWritten-trans : {w x y : Written} → SameWritten w x → SameWritten x y → SameWritten w y
SameWritten-trans (same_outermost rs) (same_outermost ss) = same_outermost (SameAll-trans rs ss)
SameWritten-trans (same_scope h rs w) (same_scope _ ss x) = same_scope h (SameAll-trans rs ss) (SameWritten-trans w x)
SameWritten-trans (same_group table rs w) (same_group _ ss x) = same_group table (SameAll-trans rs ss) (SameWritten-trans w x)

-- with more records that are the same
pub same_followed_by : {w x : Written} (rs ss : List Record) → SameWritten w x → SameRecords rs ss → SameWritten (followed_by w rs) (followed_by x ss)
same_followed_by rs ss (same_outermost {rs = ds} {ss = es} done) more = same_outermost (SameAll-append ds es rs ss done more)
same_followed_by rs ss (same_scope h {rs = ds} {ss = es} done outer) more = same_scope h (SameAll-append ds es rs ss done more) outer
same_followed_by rs ss (same_group table {rs = ds} {ss = es} done outer) more = same_group table (SameAll-append ds es rs ss done more) outer

-- The counterparts of an outermost list, of an open scope, and of a group.
pub record OutermostIsTheSame (x : Written) (rs : List Record) : Type 0 where
  pub records : List Record
  pub is : x ≡ outermost records
  pub same : SameRecords records rs

pub same_as_outermost : {x : Written} {rs : List Record} → SameWritten x (outermost rs) → OutermostIsTheSame x rs
same_as_outermost (same_outermost {rs = ss} same) = record { records = ss; is = refl; same = same }

pub record ScopeIsTheSame (x : Written) (h : Head) (rs : List Record) (w : Written) : Type 0 where
  pub records : List Record
  pub outer : Written
  pub is : x ≡ in_scope h records outer
  pub same : SameRecords records rs
  pub same_outer : SameWritten outer w

pub same_as_scope : {x : Written} {h : Head} {rs : List Record} {w : Written} → SameWritten x (in_scope h rs w) → ScopeIsTheSame x h rs w
same_as_scope (same_scope h {rs = ss} {w = y} same outer) = record { records = ss; outer = y; is = refl; same = same; same_outer = outer }

pub record GroupIsTheSame (x : Written) (table : Table Row) (rs : List Record) (w : Written) : Type 0 where
  pub records : List Record
  pub outer : Written
  pub is : x ≡ in_group table records outer
  pub same : SameRecords records rs
  pub same_outer : SameWritten outer w

pub same_as_group : {x : Written} {table : Table Row} {rs : List Record} {w : Written} → SameWritten x (in_group table rs w) → GroupIsTheSame x table rs w
same_as_group (same_group table {rs = ss} {w = y} same outer) = record { records = ss; outer = y; is = refl; same = same; same_outer = outer }

module _ {E : Type 0} (W : Writer E) where
  -- what holds exactly holds up to order
  pub wrote_exactly : (e : E) (w : Written) → W.wrote e w → WroteUpToOrder W e w
  wrote_exactly e w h = record { exactly = w; wrote = h; same = SameWritten-refl w }

  pub rejects_exactly : (rs : List Record) → W.rejects rs → RejectsUpToOrder W rs
  rejects_exactly rs h = record { exactly = rs; rejects = h; same = SameRecords-refl rs }

  -- the law
  pub lawful : RejectsByParts W → IsLawful (up_to_order W)
  lawful law = record {
    part = λ before rs after q. record {
      exactly = before ++ (q.exactly ++ after);
      rejects = law.part before q.exactly after q.rejects;
      same = SameAll-append before before (q.exactly ++ after) (rs ++ after) (SameRecords-refl before)
          (SameAll-append q.exactly rs after after q.same (SameRecords-refl after));
    };
    inner = λ h rs q. record { exactly = holding h q.exactly ∷ []; rejects = law.inner h q.exactly q.rejects; same = same_holding h q.exactly rs q.same };
    marks = λ table rs alone q. rejects_exactly (presence_mark (group_absent table) ∷ []) (law.marks table q.exactly (same-marks_alone q.exactly rs q.same ∙ alone) q.rejects);
    wrote_in_any_order = λ e w x same q. record { exactly = q.exactly; wrote = q.wrote; same = SameWritten-trans q.same same };
    rejects_in_any_order = λ rs ss same q. record { exactly = q.exactly; rejects = q.rejects; same = SameAll-trans q.same same };
  }

  -- The steps of writing, made of what was written exactly.
  followed_up_to_order : {old new : E} (rs : List Record) → ((w : Written) → W.wrote old w → W.wrote new (followed_by w rs)) →
      (w : Written) → WroteUpToOrder W old w → WroteUpToOrder W new (followed_by w rs)
  followed_up_to_order rs step w q = record {
    exactly = followed_by q.exactly rs;
    wrote = step q.exactly q.wrote;
    same = same_followed_by rs rs q.same (SameRecords-refl rs);
  }

  pub is_error : {old new : E} {e : EncodeError} → IsError W old new e → IsError (up_to_order W) old new e
  is_error p = record { has_failed = p.has_failed; failed_before = p.failed_before }

  pub appends : {old new : E} {rs : List Record} {T : Type 0} → Appends W old rs T new → Appends (up_to_order W) old rs T new
  appends {rs = rs} p = record {
    written = followed_up_to_order rs p.written;
    failed_as_before = p.failed_as_before;
    unless_failed = p.unless_failed;
    same_depth = p.same_depth;
    within_depth_left = p.within_depth_left;
    of_type = p.of_type;
  }

  pub fails : {old new : E} {rs : List Record} {e : EncodeError} → Fails W old rs new e → Fails (up_to_order W) old rs new e
  fails {rs = rs} p = record {
    error = is_error p.error;
    too_deep = p.too_deep;
    rejected = λ rejection w q. rejects_exactly rs (p.rejected rejection q.exactly q.wrote);
  }

  pub scope_is_open : {old new : E} {h : Head} → ScopeIsOpen W old h new → ScopeIsOpen (up_to_order W) old h new
  scope_is_open {h = h} p = record {
    opened = λ w q. record { exactly = in_scope h [] q.exactly; wrote = p.opened q.exactly q.wrote; same = same_scope h (SameRecords-refl []) q.same };
    no_failure_before = p.no_failure_before;
    no_failure = p.no_failure;
    one_less = p.one_less;
  }

  pub scope_is_not_open : {old new : E} {h : Head} {e : EncodeError} → ScopeIsNotOpen W old h new e → ScopeIsNotOpen (up_to_order W) old h new e
  scope_is_not_open {h = h} p = record {
    error = is_error p.error;
    too_deep = p.too_deep;
    depth_first = p.depth_first;
    rejected = λ rejection rs. rejects_exactly (holding h rs ∷ []) (p.rejected rejection rs);
  }

  pub scope_is_closed : {old new : E} → ScopeIsClosed W old new → ScopeIsClosed (up_to_order W) old new
  scope_is_closed {old} {new} p = record {
    closed = λ h rs w q. closed_up_to_order h rs w q.exactly q.wrote (same_as_scope q.same);
    no_failure_before = p.no_failure_before;
    no_failure = p.no_failure;
    one_more = p.one_more;
  }
    where
      closed_up_to_order : (h : Head) (rs : List Record) (w x : Written) → W.wrote old x → ScopeIsTheSame x h rs w → WroteUpToOrder W new (followed_by w (holding h rs ∷ []))
      closed_up_to_order h rs w x wrote s = record {
        exactly = followed_by s.outer (holding h s.records ∷ []);
        wrote = p.closed h s.records s.outer (subst (λ y. W.wrote old y) s.is wrote);
        same = same_followed_by (holding h s.records ∷ []) (holding h rs ∷ []) s.same_outer (same_holding h s.records rs s.same);
      }

  pub scope_is_not_closed : {old new : E} {e : EncodeError} → ScopeIsNotClosed W old new e → ScopeIsNotClosed (up_to_order W) old new e
  scope_is_not_closed {old} p = record {
    error = is_error p.error;
    not_too_deep = p.not_too_deep;
    rejected = λ rejection h rs w q.
        let s = same_as_scope q.same in
        record {
          exactly = holding h s.records ∷ [];
          rejects = p.rejected rejection h s.records s.outer (subst (λ y. W.wrote old y) s.is q.wrote);
          same = same_holding h s.records rs s.same;
        };
  }

  pub group_is_open : {old new : E} {table : Table Row} → GroupIsOpen W old table new → GroupIsOpen (up_to_order W) old table new
  group_is_open {table = table} p = record {
    opened = λ w q. record { exactly = in_group table [] q.exactly; wrote = p.opened q.exactly q.wrote; same = same_group table (SameRecords-refl []) q.same };
    no_failure_before = p.no_failure_before;
    no_failure = p.no_failure;
    same_depth = p.same_depth;
  }

  pub group_is_not_open : {old new : E} {table : Table Row} {e : EncodeError} → GroupIsNotOpen W old table new e → GroupIsNotOpen (up_to_order W) old table new e
  group_is_not_open {table = table} p = record {
    error = is_error p.error;
    not_too_deep = p.not_too_deep;
    rejected = λ rejection rs. rejects_exactly (group_records table (Some rs)) (p.rejected rejection rs);
  }

  pub group_is_closed : {old new : E} → GroupIsClosed W old new → GroupIsClosed (up_to_order W) old new
  group_is_closed {old} p = record {
    closed = λ table rs w q.
        let s = same_as_group q.same in
        record {
          exactly = followed_by s.outer (group_records table (Some s.records));
          wrote = p.closed table s.records s.outer (subst (λ y. W.wrote old y) s.is q.wrote);
          same = same_followed_by (group_records table (Some s.records)) (group_records table (Some rs)) s.same_outer (same_group_records table s.records rs s.same);
        };
    no_failure_before = p.no_failure_before;
    no_failure = p.no_failure;
    same_depth = p.same_depth;
  }

  pub group_is_not_closed : {old new : E} {e : EncodeError} → GroupIsNotClosed W old new e → GroupIsNotClosed (up_to_order W) old new e
  group_is_not_closed {old} p = record {
    error = is_error p.error;
    not_too_deep = p.not_too_deep;
    rejected = λ rejection table rs w q.
        let s = same_as_group q.same in
        record {
          exactly = group_records table (Some s.records);
          rejects = p.rejected rejection table s.records s.outer (subst (λ y. W.wrote old y) s.is q.wrote);
          same = same_group_records table s.records rs s.same;
        };
  }

  pub refuses : {old new : E} {e : EncodeError} → IsOutOfMemory W old new e → IsOutOfMemory (up_to_order W) old new e
  refuses p = record { error = is_error p.error; memory = p.memory }

  -- whole calls, by their results
  pub writes : (old : E) (rs : List Record) (T : Type 0) (new : E) {A : Type 0} (result : Result A EncodeError) → Writes W old rs T new result → Writes (up_to_order W) old rs T new result
  writes old rs T new (Ok x) p = appends p
  writes old rs T new (Err e) p = fails p

  pub opens : (old : E) (h : Head) (new : E) {A : Type 0} (result : Result A EncodeError) → WritesHead W old h new result → WritesHead (up_to_order W) old h new result
  opens old h new (Ok x) p = scope_is_open p
  opens old h new (Err e) p = scope_is_not_open p

  pub closes : (old new : E) {A : Type 0} (result : Result A EncodeError) → WritesEnd W old new result → WritesEnd (up_to_order W) old new result
  closes old new (Ok x) p = scope_is_closed p
  closes old new (Err e) p = scope_is_not_closed p

  pub opens_group : (old new : E) (table : Table Row) {A : Type 0} (result : Result A EncodeError) → OpensGroup W old table new result → OpensGroup (up_to_order W) old table new result
  opens_group old new table (Ok x) p = group_is_open p
  opens_group old new table (Err e) p = group_is_not_open p

  pub closes_group : (old new : E) {A : Type 0} (result : Result A EncodeError) → ClosesGroup W old new result → ClosesGroup (up_to_order W) old new result
  closes_group old new (Ok x) p = group_is_closed p
  closes_group old new (Err e) p = group_is_not_closed p

-- for `using`: a call whose body is an exact one
pub ruleset steps = (writes, opens, closes, opens_group, closes_group, refuses)

-- what a law of sameness is proved with
pub ruleset same_writing = (SameWritten-refl, SameWritten-sym, SameWritten-trans, same_followed_by)
