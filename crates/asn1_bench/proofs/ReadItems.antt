-- Exact reading, by the items and the presence marks that were taken.
use Rattle.std.proofs.Common.{◌≡◌, ℕ, Bool, true, false, List, [], ◌∷◌, ◌++◌, Ok, Err, append_assoc, refl, sym, ap, subst, ◌∙◌, map}
use Rattle.std.specs.List.{flat_map}
use Rattle.std.specs.Prelude.{IsTrue, OnOk, Result}
use Rattle.asn1_laws.proofs.ReadingExactly.{closes_exactly, nothing_read, reads_content_exactly, reads_exactly, reads_marks_exactly, reads_open_type_exactly}
use Rattle.asn1_laws.specs.Reading.{Reader}
use Rattle.asn1_laws.specs.ReadingExactly.{HasClosed, HasOpened, HasRead, HasReadContent, HasReadMark, HasReadMarks, HasReadOpenType}
use Rattle.asn1_laws.specs.declared.decode_error.DecodeError.{DecodeError}
use Rattle.asn1_laws.specs.declared.decode_error.DecodeError.TheVariants.{Failed}
use Rattle.asn1_items.proofs.ReadExactly.{Joins, record_taken, scope_closed, scope_taken}
use Rattle.asn1_items.specs.Contents.{IsContent, LooksLike}
use Rattle.asn1_items.specs.DecodeStates.{AllHave, IsClosed, IsOpen, lists_outside}
use Rattle.asn1_items.specs.Headers.{is_one_item}
use Rattle.asn1_items.specs.Items.{HasBytes, HaveBytes, IsItem, MarkBytes, read_with}
use Rattle.asn1_items.specs.Kinds.{content_byte, content_kind, kind_of}
use Rattle.asn1_items.specs.Slices.{HasTaken, IsExpectedItem, left_inside, left_outside}
use Rattle.asn1_items.specs.declared.decode_state.Opened.{Opened}
use Rattle.asn1_items.specs.declared.header.ExpectedHeader.{ExpectedHeader}
use Rattle.asn1_items.specs.declared.header.ExpectedHeader.TheVariants.{Content, Scope, Alternative, Any}
use Rattle.asn1_items.specs.declared.kinds.ContentKind.{ContentKind}
use Rattle.asn1_items.specs.declared.kinds.ItemKind.TheVariants as item
use Rattle.asn1_items.specs.declared.slices.Item.{Item}
use Rattle.asn1_model.specs.ConstraintSets.{ConstraintSet}
use Rattle.asn1_model.specs.Records as model
use Rattle.asn1_model.specs.Records.{Head, PresenceMark, Record, held, holding, open_type, presence_mark, presence_marks_alone, scalar}
use Rattle.asn1_bench.specs.Decoder.{HasReadLike, IsExpectedUnder, in_one_order, item_form, item_reader}
use Rattle.asn1_bench.specs.Presence.{HasTakenEither, HasTakenMark, HasTakenMarks, KeepsOutside}
use Rattle.asn1_bench.specs.declared.decoder.ItemDecoder.{ItemDecoder}
use Rattle.asn1_tags.specs.declared.tags.Tag.{Tag}

-- a decoder that had failed would not have answered
pub had_not_failed : {A E : Type 0} (a : A) (e : E) (failed : Bool) → (failed ≡ true → Ok a ≡ Err e) → failed ≡ false
had_not_failed a e false failed_before = refl
had_not_failed a e true failed_before = let wrong = failed_before refl in cc

-- items one after another have the bytes of each in turn
pub joins : (marks : MarkBytes) → Joins (item_form marks)
joins marks r rs bytes p = p

-- an item that was opened is that of the head
scope_is : (marks : MarkBytes) (expected : ExpectedHeader) (t : Tag) (h : Head) (items : List Record) (inside own : List ℕ) → IsExpectedUnder expected t h → IsExpectedItem expected t inside own →
    HaveBytes (read_with marks) (held items) inside → HasBytes (read_with marks) (holding h items) own
scope_is marks (Content u k) t h items inside own wrong is have = absurd wrong
scope_is marks (Scope k u) t h items inside own of is have = record {
  inside = inside;
  is = have;
  item = subst (λ v. IsItem (kind_of h) v [] inside own) (is.0 ∙ sym of.1) (subst (λ s. IsItem (item.Scope s) t [] inside own) (sym of.0) is.1);
}
scope_is marks Alternative t h items inside own of is have = record {
  inside = inside;
  is = have;
  item = subst (λ v. IsItem (kind_of h) v [] inside own) (sym of.1) (subst (λ s. IsItem (item.Scope s) t [] inside own) (sym of.0) is);
}
scope_is marks Any t h items inside own wrong is have = absurd wrong

-- presence marks in front of records
marks_have : (marks : MarkBytes) (passed : List PresenceMark) (rest : List Record) (bytes left : List ℕ) → bytes ≡ flat_map (λ m. marks m) passed ++ left →
    HaveBytes (read_with marks) (held rest) left → HaveBytes (read_with marks) (held (map presence_mark passed ++ rest)) bytes
marks_have marks [] rest bytes left are have = subst (HaveBytes (read_with marks) (held rest)) (sym are) have
marks_have marks (m ∷ passed) rest bytes left are have = record {
  first = marks m;
  others = flat_map (λ m. marks m) passed ++ left;
  is_first = refl;
  are_others = marks_have marks passed rest (flat_map (λ m. marks m) passed ++ left) left refl have;
  are = are ∙ append_assoc (marks m) (flat_map (λ m. marks m) passed) left;
}

marks_alone : (passed : List PresenceMark) → presence_marks_alone (map presence_mark passed) ≡ true
marks_alone [] = refl
marks_alone (m ∷ passed) = marks_alone passed

module _ {P : Type 0} (marks : MarkBytes) (old new : ItemDecoder P) (no_failure : old.state.failed ≡ false) where
  -- a content was taken
  pub content_taken : (i : Item) (t : Tag) (k : ContentKind) (x : model.Content) (c : ConstraintSet) → left_outside new.state.slices ≡ left_outside old.state.slices →
      HasTaken (Content t k) old.state.slices new.state.slices i → content_kind x ≡ k → IsContent x i.body.now → HasReadContent (item_reader marks) old new t c x
  content_taken i t k x c kept taken of_kind is =
      reads_content_exactly (in_one_order marks) old new t c x
      (λ n. record_taken (item_form marks) (joins marks) (λ d. d.state) old new (scalar t c n x) i.bytes.now no_failure taken.left kept
      (record {
        inside = i.body.now;
        is = is;
        item = subst (λ b. IsItem item.Content t (content_byte b ∷ []) i.body.now i.bytes.now) (sym of_kind) (subst (λ u. IsItem item.Content u (content_byte k ∷ []) i.body.now i.bytes.now) taken.is.0 taken.is.1);
      }))

  -- a value of an open type was taken
  pub open_type_taken : (i : Item) (own : List ℕ) → left_outside new.state.slices ≡ left_outside old.state.slices → HasTaken Any old.state.slices new.state.slices i → own ≡ i.bytes.now →
      HasReadOpenType (item_reader marks) old new own
  open_type_taken i own kept taken same =
      reads_open_type_exactly (in_one_order marks) old new own
      (λ n. record_taken (item_form marks) (joins marks) (λ d. d.state) old new (open_type n own) i.bytes.now no_failure taken.left kept (sym same, subst (λ b. IsTrue (is_one_item b)) (sym same) taken.is))

  -- an item was opened
  pub item_opened : (mid : ItemDecoder P) (expected : ExpectedHeader) (i : Item) (opened : Opened) (h : Head) → left_outside mid.state.slices ≡ left_outside old.state.slices →
      HasTaken expected old.state.slices mid.state.slices i → IsOpen mid.state new.state i.tag i.body.now opened → IsExpectedUnder expected opened.tag h → HasOpened (in_one_order marks) old new h
  item_opened mid expected i opened h kept taken is_open of =
      scope_taken (item_form marks) (joins marks) (λ d. d.state) old new h i.bytes.now (left_inside mid.state.slices) no_failure taken.left (is_open.outside ∙ ap (λ l. left_inside mid.state.slices ∷ l) kept)
      (λ items have. scope_is marks expected i.tag h items i.body.now i.bytes.now (subst (λ t. IsExpectedUnder expected t h) is_open.has_tag of) taken.is (subst (HaveBytes (read_with marks) (held items)) is_open.inside_is have))

  -- a presence mark was taken
  pub mark_taken : (m : PresenceMark) → KeepsOutside old.state.slices new.state.slices → HasTakenMark marks m old.state.slices new.state.slices → HasRead (item_reader marks) old new (presence_mark m ∷ [])
  mark_taken m kept taken =
      reads_exactly (in_one_order marks) old new (presence_mark m ∷ []) (record_taken (item_form marks) (joins marks) (λ d. d.state) old new (presence_mark m) (marks m) no_failure taken kept.outside refl)

  pub either_taken : (there away : PresenceMark) (b : Bool) → KeepsOutside old.state.slices new.state.slices → HasTakenEither marks there away old.state.slices new.state.slices b →
      HasReadMark (item_reader marks) old new there away b
  either_taken there away true kept taken = mark_taken there kept taken
  either_taken there away false kept taken = mark_taken away kept taken

  -- presence marks were taken
  pub marks_taken : KeepsOutside old.state.slices new.state.slices → HasTakenMarks marks old.state.slices new.state.slices → HasReadMarks (item_reader marks) old new
  marks_taken kept taken =
      reads_marks_exactly (in_one_order marks) old new (record {
        records = map presence_mark taken.passed;
        are = marks_alone taken.passed;
        read = λ rest outer at. record {
          no_failure = no_failure;
          inside = marks_have marks taken.passed rest (left_inside old.state.slices) (left_inside new.state.slices) taken.left at.inside;
          outside = subst (AllHave (item_form marks) (lists_outside outer)) kept.outside at.outside;
        };
      })

-- a content was read that looks like that of the answer, or is that
pub as_looks : {D X : Type 0} (R : Reader D) (t : Tag) (own content : X → model.Content) → ((x : X) → LooksLike (own x) (content x)) → (old new : D) (c : ConstraintSet) (v w : X) → v ≡ w →
    HasReadLike R t own (λ w v. w ≡ v) old new w → HasReadContent R old new t c (content v)
as_looks R t own content looks old new c v w same like =
    subst (λ v. HasReadContent R old new t c (content v)) (sym (same ∙ like.is)) (like.read (content like.value) (looks like.value) c)

pub as_answered : {D X : Type 0} (R : Reader D) (t : Tag) (own : X → model.Content) (old new : D) (c : ConstraintSet) (w : X) → HasReadLike R t own (λ w v. w ≡ v) old new w →
    HasReadContent R old new t c (own w)
as_answered R t own old new c w like = as_looks R t own own (λ x. record { kind = refl; bytes = λ bytes is. is }) old new c w w refl like

-- a decoder that is as it was, if there was an answer
pub as_it_was : {P A : Type 0} (marks : MarkBytes) (d : ItemDecoder P) (r : Result A DecodeError) → OnOk r (HasRead (item_reader marks) d d [])
as_it_was marks d (Ok a) = nothing_read (item_reader marks) d
as_it_was marks d (Err e) = tt

-- the innermost scope was closed, if there was an answer
pub closed : {P A : Type 0} (marks : MarkBytes) (old new : ItemDecoder P) (r : Result A DecodeError) → (old.state.failed ≡ true → r ≡ Err Failed) → OnOk r (IsClosed old.state new.state) →
    OnOk r (HasClosed (item_reader marks) old new)
closed marks old new (Ok a) failed_before is_closed =
    closes_exactly (in_one_order marks) old new (scope_closed (item_form marks) (joins marks) (λ d. d.state) refl old new (had_not_failed a Failed old.state.failed failed_before) is_closed)
closed marks old new (Err e) failed_before is_closed = tt
