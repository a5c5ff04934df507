-- How steps of writing follow one another.
pub use Rattle.asn1_laws.proofs.Heights.{highest-append, highest-holding}
use Rattle.std.proofs.Common.{◌≡◌, Bool, true, false, ◌&&◌, List, [], ◌∷◌, ◌++◌, if◌then◌else◌, refl, sym, ap, ◌∙◌, subst, append_assoc, append-nil, zero-le, arith, Some, Result, Ok, Err}
use Rattle.std.specs.Result.{IsErrAnd}
use Rattle.asn1_model.specs.Composites.{group_records}
use Rattle.asn1_model.specs.Records.{Record, Head, scalar, scope, open_type, presence_mark, group_start, group_absent, group_end, holding, height, highest, is_presence_mark, presence_marks_alone}
use Rattle.asn1_model.specs.RecordTables.{Row, Table}
use Rattle.asn1_laws.specs.declared.encode_error.EncodeError.{EncodeError}
use Rattle.asn1_laws.specs.declared.encode_error.EncodeError.TheVariants.{Memory, Depth, Failed}
use Rattle.asn1_laws.specs.Writing.{Writer, Written, outermost, in_scope, in_group, followed_by, IsRejection, IsLawful, Appends, IsError, Fails, Writes, ScopeIsOpen, ScopeIsNotOpen, WritesEnd, GroupIsOpen, GroupIsNotOpen, ClosesGroup, IsOutOfMemory}

followed_twice : (w : Written) (rs ss : List Record) → followed_by (followed_by w rs) ss ≡ followed_by w (rs ++ ss)
followed_twice (outermost done) rs ss = ap outermost (append_assoc done rs ss)
followed_twice (in_scope h done outer) rs ss = ap (λ l. in_scope h l outer) (append_assoc done rs ss)
followed_twice (in_group table done outer) rs ss = ap (λ l. in_group table l outer) (append_assoc done rs ss)

followed_by_none : (w : Written) → w ≡ followed_by w []
followed_by_none (outermost done) = ap outermost (sym (append-nil done))
followed_by_none (in_scope h done outer) = ap (λ l. in_scope h l outer) (sym (append-nil done))
followed_by_none (in_group table done outer) = ap (λ l. in_group table l outer) (sym (append-nil done))

mark-height : (r : Record) → is_presence_mark r ≡ true → height r ≡ 0
mark-height (scalar t c n x) is = refl
mark-height (scope h rs) is = cc
mark-height (open_type n bytes) is = refl
mark-height (presence_mark m) is = refl

both_true : (a b : Bool) → (a && b) ≡ true → (a ≡ true) × (b ≡ true)
both_true true b h = (refl, h)
both_true false b h = cc

marks-height : (rs : List Record) → presence_marks_alone rs ≡ true → highest rs ≡ 0
marks-height [] alone = refl
marks-height (r ∷ rs) alone =
    let both = both_true (is_presence_mark r) (presence_marks_alone rs) alone in
    omega (arith, mark-height r both.0, marks-height rs both.1)

-- a group is nested as deep as its components
group-height : (table : Table Row) (b : Bool) (rs : List Record) → (b ≡ true → highest rs ≡ 0) → highest (if b then presence_mark (group_absent table) ∷ [] else presence_mark (group_start table) ∷ rs ++ presence_mark group_end ∷ []) ≡ highest rs
group-height table true rs flat = sym (flat refl)
group-height table false rs flat = omega (arith, highest-append rs (presence_mark group_end ∷ []))

highest-group : (table : Table Row) (rs : List Record) → highest (group_records table (Some rs)) ≡ highest rs
highest-group table rs = group-height table (presence_marks_alone rs) rs (marks-height rs)

-- a group is rejected where its components are
group_rejected : (table : Table Row) (rejects : List Record → Type 0) (b : Bool) (rs : List Record) → ((before rs after : List Record) → rejects rs → rejects (before ++ (rs ++ after))) →
    (b ≡ true → rejects rs → rejects (presence_mark (group_absent table) ∷ [])) → rejects rs →
    rejects (if b then presence_mark (group_absent table) ∷ [] else presence_mark (group_start table) ∷ rs ++ presence_mark group_end ∷ [])
group_rejected table rejects true rs part marks is = marks refl is
group_rejected table rejects false rs part marks is = part (presence_mark (group_start table) ∷ []) rs (presence_mark group_end ∷ []) is

-- a refusal because memory ran out is no error of depth
refusal_is_not_deep : (b : Bool) (e : EncodeError) → (b ≡ false → e ≡ Memory) → (b ≡ true → e ≡ Failed) → ¬ (e ≡ Depth)
refusal_is_not_deep false e memory failed deep = let x : Memory ≡ Depth = sym (memory refl) ∙ deep in cc
refusal_is_not_deep true e memory failed deep = let x : Failed ≡ Depth = sym (failed refl) ∙ deep in cc

refusal_is_no_rejection : (b : Bool) (e : EncodeError) → (b ≡ false → e ≡ Memory) → (b ≡ true → e ≡ Failed) → ¬ IsRejection e
refusal_is_no_rejection false e memory failed rejection = absurd (subst IsRejection (memory refl) rejection)
refusal_is_no_rejection true e memory failed rejection = absurd (subst IsRejection (failed refl) rejection)

module _ {E : Type 0} (W : Writer E) where
  -- an error after calls that left the encoder as failed as it was
  later_error : {a b c : E} {e : EncodeError} → W.failed b ≡ W.failed a → IsError W b c e → IsError W a c e
  later_error same error = record {
    has_failed = error.has_failed;
    failed_before = (λ is. sym same ∙ error.failed_before.0 is, λ failed. error.failed_before.1 (same ∙ failed));
  }

  pub appends_none : {T : Type 0} (a : E) → T → Appends W a [] T a
  appends_none a h = record {
    written = λ w wrote. subst (λ w. W.wrote a w) (followed_by_none w) wrote;
    failed_as_before = refl;
    unless_failed = λ _. refl;
    same_depth = refl;
    within_depth_left = zero-le;
    of_type = h;
  }

  -- one after another; what holds of both values gives what holds of the whole
  pub append_both : {a b c : E} {rs ss : List Record} {T U X : Type 0} → (T → U → X) → Appends W a rs T b → Appends W b ss U c → Appends W a (rs ++ ss) X c
  append_both {a} {b} {c} {rs} {ss} f p q = record {
    written = λ w wrote. subst (λ w. W.wrote c w) (followed_twice w rs ss) (q.written (followed_by w rs) (p.written w wrote));
    failed_as_before = q.failed_as_before ∙ p.failed_as_before;
    unless_failed = λ failed. ap (λ l. l ++ ss) (p.unless_failed failed) ∙ q.unless_failed (p.failed_as_before ∙ failed);
    same_depth = q.same_depth ∙ p.same_depth;
    within_depth_left = omega (arith, highest-append rs ss, p.within_depth_left, q.within_depth_left, p.same_depth);
    of_type = f p.of_type q.of_type;
  }

  -- a part that fails, and the whole
  pub fails_later : {a b c : E} {rs ss : List Record} {T : Type 0} {e : EncodeError} → IsLawful W → Appends W a rs T b → Fails W b ss c e → Fails W a (rs ++ ss) c e
  fails_later {rs = rs} {ss} law p q = record {
    error = later_error p.failed_as_before q.error;
    too_deep = λ is. let high = q.too_deep is in omega (arith, highest-append rs ss, high, p.same_depth);
    rejected = λ is w wrote. subst W.rejects (ap (λ l. rs ++ l) (append-nil ss)) (law.part rs ss [] (q.rejected is _ (p.written w wrote)));
  }

  pub fails_first : {a b : E} {rs : List Record} {e : EncodeError} → IsLawful W → (ss : List Record) → Fails W a rs b e → Fails W a (rs ++ ss) b e
  fails_first {rs = rs} law ss q = record {
    error = q.error;
    too_deep = λ is. let high = q.too_deep is in omega (arith, highest-append rs ss, high);
    rejected = λ is w wrote. law.part [] rs ss (q.rejected is w wrote);
  }

  pub fails_around : {a b c : E} {before rs : List Record} {T : Type 0} {e : EncodeError} → IsLawful W → (after : List Record) → Appends W a before T b → Fails W b rs c e → Fails W a (before ++ (rs ++ after)) c e
  fails_around law after p q = fails_later law p (fails_first law after q)

  pub writes_then : {a b : E} {rs : List Record} {T : Type 0} (c : E) (ss : List Record) (U X : Type 0) {A : Type 0} (result : Result A EncodeError) → IsLawful W →
      (T → U → X) → Appends W a rs T b → Writes W b ss U c result → Writes W a (rs ++ ss) X c result
  writes_then c ss U X (Ok x) law f p q = append_both f p q
  writes_then c ss U X (Err e) law f p q = fails_later law p q

  -- a `?` that returns an error
  pub exits : (a b : E) (rs : List Record) (T : Type 0) {e : EncodeError} {A : Type 0} (result : Result A EncodeError) → IsErrAnd result (λ y. y ≡ e) → Fails W a rs b e → Writes W a rs T b result
  exits a b rs T (Ok x) is q = absurd is
  exits a b rs T (Err y) is q = subst (Fails W a rs b) (sym is) q

  -- memory that was refused to the encoder's caller
  pub refused : {a b : E} {e : EncodeError} (rs : List Record) → IsOutOfMemory W a b e → Fails W a rs b e
  refused {a} {e = e} rs r = record {
    error = r.error;
    too_deep = λ is. absurd (refusal_is_not_deep (W.failed a) e r.memory r.error.failed_before.1 is);
    rejected = λ is w wrote. absurd (refusal_is_no_rejection (W.failed a) e r.memory r.error.failed_before.1 is);
  }

  pub open_fails : {a b : E} {h : Head} {e : EncodeError} (rs : List Record) → ScopeIsNotOpen W a h b e → Fails W a (holding h rs ∷ []) b e
  open_fails {h = h} rs q = record {
    error = q.error;
    too_deep = λ is. let deep = q.too_deep is in omega (arith, highest-holding h rs, deep);
    rejected = λ is w wrote. q.rejected is rs;
  }

  pub inside_fails : {a b c : E} {h : Head} {rs : List Record} {e : EncodeError} → IsLawful W → ScopeIsOpen W a h b → Fails W b rs c e → Fails W a (holding h rs ∷ []) c e
  inside_fails {h = h} {rs} law p q = record {
    error = later_error (p.no_failure ∙ sym p.no_failure_before) q.error;
    too_deep = λ is. let high = q.too_deep is in omega (arith, highest-holding h rs, high, p.one_less);
    rejected = λ is w wrote. law.inner h rs (q.rejected is _ (p.opened w wrote));
  }

  pub writes_scope : {a b c : E} {h : Head} {rs : List Record} {T : Type 0} (d : E) {A : Type 0} (result : Result A EncodeError) →
      ScopeIsOpen W a h b → Appends W b rs T c → WritesEnd W c d result → Writes W a (holding h rs ∷ []) T d result
  writes_scope {h = h} {rs} d (Ok x) p q r = record {
    written = λ w wrote. r.closed h rs w (q.written (in_scope h [] w) (p.opened w wrote));
    failed_as_before = r.no_failure ∙ sym p.no_failure_before;
    unless_failed = λ failed. absurd (let x : false ≡ true = sym p.no_failure_before ∙ failed in cc);
    same_depth = omega (arith, p.one_less, q.same_depth, r.one_more);
    within_depth_left = omega (arith, highest-holding h rs, p.one_less, q.within_depth_left);
    of_type = q.of_type;
  }
  writes_scope {h = h} {rs} d (Err e) p q r = record {
    error = later_error (q.failed_as_before ∙ p.no_failure ∙ sym p.no_failure_before) r.error;
    too_deep = λ is. absurd (r.not_too_deep is);
    rejected = λ is w wrote. r.rejected is h rs w (q.written (in_scope h [] w) (p.opened w wrote));
  }

  pub open_group_fails : {a b : E} {table : Table Row} {e : EncodeError} (rs : List Record) → GroupIsNotOpen W a table b e → Fails W a (group_records table (Some rs)) b e
  open_group_fails rs q = record {
    error = q.error;
    too_deep = λ is. absurd (q.not_too_deep is);
    rejected = λ is w wrote. q.rejected is rs;
  }

  pub group_fails : {a b c : E} {table : Table Row} {rs : List Record} {e : EncodeError} → IsLawful W → GroupIsOpen W a table b → Fails W b rs c e → Fails W a (group_records table (Some rs)) c e
  group_fails {table = table} {rs} law p q = record {
    error = later_error (p.no_failure ∙ sym p.no_failure_before) q.error;
    too_deep = λ is. let high = q.too_deep is in omega (arith, highest-group table rs, high, p.same_depth);
    rejected = λ is w wrote. group_rejected table W.rejects (presence_marks_alone rs) rs law.part (law.marks table rs) (q.rejected is _ (p.opened w wrote));
  }

  pub writes_group : {a b c : E} {table : Table Row} {rs : List Record} {T : Type 0} (d : E) {A : Type 0} (result : Result A EncodeError) →
      GroupIsOpen W a table b → Appends W b rs T c → ClosesGroup W c d result → Writes W a (group_records table (Some rs)) T d result
  writes_group {table = table} {rs} d (Ok x) p q r = record {
    written = λ w wrote. r.closed table rs w (q.written (in_group table [] w) (p.opened w wrote));
    failed_as_before = r.no_failure ∙ sym p.no_failure_before;
    unless_failed = λ failed. absurd (let x : false ≡ true = sym p.no_failure_before ∙ failed in cc);
    same_depth = r.same_depth ∙ q.same_depth ∙ p.same_depth;
    within_depth_left = omega (arith, highest-group table rs, p.same_depth, q.within_depth_left);
    of_type = q.of_type;
  }
  writes_group {table = table} {rs} d (Err e) p q r = record {
    error = later_error (q.failed_as_before ∙ p.no_failure ∙ sym p.no_failure_before) r.error;
    too_deep = λ is. absurd (r.not_too_deep is);
    rejected = λ is w wrote. r.rejected is table rs w (q.written (in_group table [] w) (p.opened w wrote));
  }

  -- A fact about the value may be replaced by one that follows from it.
  pub in_other_words : (a b : E) (rs : List Record) {T U : Type 0} {A : Type 0} (result : Result A EncodeError) → (T → U) → Writes W a rs T b result → Writes W a rs U b result
  in_other_words a b rs (Ok x) f q = record {
    written = q.written;
    failed_as_before = q.failed_as_before;
    unless_failed = q.unless_failed;
    same_depth = q.same_depth;
    within_depth_left = q.within_depth_left;
    of_type = f q.of_type;
  }
  in_other_words a b rs (Err e) f q = q
