-- Exact reading, by the elements that were taken and opened.
use Rattle.std.proofs.Common.{◌≡◌, ◌∙◌, ℕ, Bool, true, false, List, [], ◌∷◌, Option, None, Some, Ok, Err, refl, ap, sym, subst}
use Rattle.std.specs.Prelude.{IfOk, IfSome, OnOk, Result}
use Rattle.asn1_der_items.proofs.OneElement.{element_alone, element_is_one, some_bytes}
use Rattle.asn1_der_items.specs.Bytes.{content_order_of}
use Rattle.asn1_der_items.specs.Contents.{HasContents}
use Rattle.asn1_der_items.specs.Elements.{Element, IsElement, element_at}
use Rattle.asn1_der_items.specs.declared.content_order.ContentOrder.{ContentOrder}
use Rattle.asn1_der_items.specs.declared.content_order.ContentOrder.TheVariants.{Chosen}
use Rattle.asn1_elements.proofs.PresenceByTag.{element_tells}
use Rattle.asn1_elements.specs.Decoder.{CarriesUpToOrder, HasOpenedExpected, IsCarriedBy, IsElementOpened, IsExpected, IsReadAs, IsReadOfElement, IsReadOfOctets, IsTaken, Remains, element_reader, in_one_order}
use Rattle.asn1_elements.specs.ElementForms.{Carries, IsElementForm, IsInsideElement, IsParsed}
use Rattle.asn1_elements.specs.declared.decoder.ElementDecoder.{ElementDecoder}
use Rattle.asn1_elements.specs.declared.parsed_element.ParsedElement.{ParsedElement}
use Rattle.asn1_items.proofs.ReadExactly.{record_taken, scope_closed, scope_taken}
use Rattle.asn1_items.specs.DecodeStates.{AllHave, IsClosed, IsOpen, ReadForm, lists_outside}
use Rattle.asn1_items.specs.Kinds.{content_kind}
use Rattle.asn1_items.specs.declared.kinds.ContentKind.{ContentKind}
use Rattle.asn1_items.specs.Slices.{left_inside, left_outside}
use Rattle.asn1_items.specs.declared.decode_state.DecodeState.{DecodeState}
use Rattle.asn1_items.specs.declared.decode_state.Opened.{Opened}
use Rattle.asn1_laws.proofs.ReadingExactly.{closes_exactly, opens_choice_exactly, opens_exactly, reads_content_exactly, reads_exactly, reads_marks_exactly, reads_open_type_exactly}
use Rattle.asn1_laws.specs.Reading.{Reader}
use Rattle.asn1_laws.specs.ReadingExactly.{HasClosed, HasOpened, HasOpenedChoice, HasOpenedNamed, HasRead, HasReadContent, HasReadMark, HasReadMarks, HasReadOpenType}
use Rattle.asn1_laws.specs.declared.decode_error.DecodeError.{DecodeError}
use Rattle.asn1_laws.specs.declared.decode_error.DecodeError.TheVariants.{Failed}
use Rattle.asn1_model.specs.ConstraintSets.{ConstraintSet}
use Rattle.asn1_model.specs.Records.{Content, Head, Name, PresenceMark, Record, alternative, open_type, presence_mark, scalar}
use Rattle.asn1_model.specs.RecordTables.{Row, Table}
use Rattle.asn1_model.specs.Tags.{Has, first_tags, head_tag}
use Rattle.asn1_tags.specs.declared.tags.Tag.{Tag}

-- an element that was taken was opened, if what is inside it is what is left
pub element_opened : (order : ContentOrder) (tag : Option Tag) (parsed : ParsedElement) (inside : List ℕ) (old mid new : DecodeState) (result : Result Opened DecodeError) → IsTaken parsed old mid → IfSome tag (λ t. parsed.tag ≡ t) →
    ((e : Element) (own : List ℕ) → IsParsed parsed e own → IsInsideElement order e own inside) → IfOk result (IsOpen mid new parsed.tag inside) → IfOk result (IsElementOpened order tag old new)
element_opened order tag parsed inside old mid new (Err e) taken under is opened = tt
element_opened order tag parsed inside old mid new (Ok w) taken under is opened =
    let e : Element = record { tag = parsed.tag; constructed = parsed.constructed; contents = parsed.contents.now; rest = [] } in
    record {
      element = e;
      own = parsed.bytes.now;
      back = left_inside mid.slices;
      octets = taken.octets;
      has_tag = opened.has_tag;
      asked = under;
      left = taken.left;
      inside = subst (IsInsideElement order e parsed.bytes.now) (sym opened.inside_is) (is e parsed.bytes.now (record { tag = refl; constructed = refl; contents = refl; bytes = refl }));
      outside = opened.outside ∙ ap (λ l. left_inside mid.slices ∷ l) taken.outside;
      no_failure = taken.no_failure;
    }

-- a value that is its own spelling
pub read_as_answered : {D V : Type 0} {R : Reader D} (tag : Tag) (old new : D) (content read : V → Content) (c : ConstraintSet) (w : V) → ((v : V) → IsReadAs (content v) (read v)) →
    IsReadOfElement R content (λ v. w ≡ v) tag old new → HasReadContent R old new tag c (read w)
read_as_answered {R = R} tag old new content read c w same r = subst (λ v. HasReadContent R old new tag c (read v)) (sym r.is_of) (r.read (read r.spelling) c (same r.spelling))

pub all_read_as_answered : {D V : Type 0} (R : Reader D) (tag : Tag) (old new : D) (content read : V → Content) (c : ConstraintSet) (result : Result V DecodeError) → ((v : V) → IsReadAs (content v) (read v)) →
    IfOk result (λ w. IsReadOfElement R content (λ v. w ≡ v) tag old new) → IfOk result (λ w. HasReadContent R old new tag c (read w))
all_read_as_answered R tag old new content read c (Ok w) same r = read_as_answered tag old new content read c w same r
all_read_as_answered R tag old new content read c (Err e) same r = tt

pub on_answer : {V : Type 0} (P : Type 0) (result : Result V DecodeError) → IfOk result (λ _. P) → OnOk result P
on_answer P (Ok w) is = is
on_answer P (Err e) is = tt

pub on_ok : {V : Type 0} (P : Type 0) (result : Result V DecodeError) → P → OnOk result P
on_ok P (Ok w) is = is
on_ok P (Err e) is = tt

pub on_both : {V : Type 0} (P Q S : Type 0) (result : Result V DecodeError) → (P → Q → S) → OnOk result P → OnOk result Q → OnOk result S
on_both P Q S (Ok w) by p q = by p q
on_both P Q S (Err e) by p q = tt

-- a record of a head that is expected was opened, under any name
pub opened_named : {D V : Type 0} (R : Reader D) (IsExpected : Head → Type 0) (old new : D) (result : Result V DecodeError) (head : Name → Head) → ((n : Name) → IsExpected (head n)) →
    OnOk result (HasOpenedExpected R IsExpected old new) → OnOk result (HasOpenedNamed R old new head)
opened_named R IsExpected old new (Ok w) head expected opened = λ n. opened (head n) (expected n)
opened_named R IsExpected old new (Err e) head expected opened = tt

-- a value is carried by the element whose contents octets it was read of
pub carried_by : {V X E : Type 0} (F : ReadForm) (spelled : X → Content) (IsReadOf : V → X → Type 0) (own_kind kind : ContentKind) (parsed : ParsedElement) (contents octets : List ℕ) (result : Result V E) →
    ((x : X) → content_kind (spelled x) ≡ own_kind) → own_kind ≡ kind → octets ≡ contents → Carries F kind parsed contents → IfOk result (λ w. IsReadOfOctets spelled (IsReadOf w) octets) →
    IfOk result (λ w. IsCarriedBy F spelled (IsReadOf w) parsed)
carried_by F spelled IsReadOf own_kind kind parsed contents octets (Err e) spelled_kind same are carries read = tt
carried_by F spelled IsReadOf own_kind kind parsed contents octets (Ok w) spelled_kind same are carries read = record {
  spelling = read.spelling;
  is_of = read.is_of;
  has = λ t c n y own same_as element.
      carries t c n y own (sym same_as.kind ∙ spelled_kind read.spelling ∙ same) element (same_as.octets _ (subst (HasContents (spelled read.spelling)) are read.has));
}

-- the other way round from a decoder that has just been made
module _ {C : Type 0} (F : ReadForm) where
  pub carries : (d : ElementDecoder C) (bytes : List ℕ) (rs : List Record) → left_inside d.state.slices ≡ bytes → Remains F d (rs, []) → CarriesUpToOrder F rs bytes
  carries d bytes rs are at = record { exactly = at.exactly.0; have = subst (F.Have at.exactly.0) are at.remains.inside; same = at.same.here }

  -- nothing was read where the same bytes are left
  pub nothing_taken : (old new : ElementDecoder C) → old.state.failed ≡ false → new.state.slices ≡ old.state.slices → HasRead (in_one_order F) old new []
  nothing_taken old new no_failure same rest outer at = record {
    no_failure = no_failure;
    inside = subst (λ s. F.Have rest (left_inside s)) same at.inside;
    outside = subst (λ s. AllHave F (lists_outside outer) (left_outside s)) same at.outside;
  }

  pub no_marks_taken : (old new : ElementDecoder C) → old.state.failed ≡ false → new.state.slices ≡ old.state.slices → HasReadMarks (element_reader F) old new
  no_marks_taken old new no_failure same = reads_marks_exactly (in_one_order F) old new (record { records = []; are = refl; read = nothing_taken old new no_failure same })

module _ {C : Type 0} {F : ReadForm} {AreInOrder : ContentOrder → List ℕ → Type 0} (form : IsElementForm F AreInOrder) (old new : ElementDecoder C) where
  -- the octets of an element that was taken are those of a record
  pub element_taken : (parsed : ParsedElement) (r : Record) → IsTaken parsed old.state new.state → F.Has r parsed.bytes.now → HasRead (in_one_order F) old new (r ∷ [])
  element_taken parsed r taken has = record_taken F form.joins (λ d. d.state) old new r parsed.bytes.now taken.no_failure taken.left taken.outside has

  pub value_taken : {X : Type 0} (spelled : X → Content) (IsOf : X → Type 0) (tag : Tag) (parsed : ParsedElement) → IsTaken parsed old.state new.state → parsed.tag ≡ tag → IsCarriedBy F spelled IsOf parsed →
      IsReadOfElement (element_reader F) spelled IsOf tag old new
  value_taken spelled IsOf tag parsed taken under carried = record {
    spelling = carried.spelling;
    is_of = carried.is_of;
    read = λ y c same. reads_content_exactly (in_one_order F) old new tag c y
        (λ n. element_taken parsed (scalar tag c n y) taken
        (carried.has tag c n y parsed.bytes.now same (subst (λ t. IsElement t parsed.constructed parsed.contents.now parsed.bytes.now) under taken.octets)));
  }

  pub any_taken : (parsed : ParsedElement) (bytes : List ℕ) → IsTaken parsed old.state new.state → bytes ≡ parsed.bytes.now → HasReadOpenType (element_reader F) old new bytes
  any_taken parsed bytes taken same =
      reads_open_type_exactly (in_one_order F) old new bytes
      (λ n. element_taken parsed (open_type n bytes) taken
      (subst (λ l. F.Has (open_type n l) parsed.bytes.now) (sym same) (form.any n parsed.bytes.now (element_is_one parsed.tag parsed.constructed parsed.contents.now parsed.bytes.now taken.octets))))

  -- a presence mark has no bytes
  mark_taken : (m : PresenceMark) → old.state.failed ≡ false → new.state.slices ≡ old.state.slices → HasRead (in_one_order F) old new (presence_mark m ∷ [])
  mark_taken m no_failure same = record_taken F form.joins (λ d. d.state) old new (presence_mark m) [] no_failure (ap left_inside (sym same)) (ap left_outside same) (form.unwritten m)

  pub one_mark_taken : (m : PresenceMark) → old.state.failed ≡ false → new.state.slices ≡ old.state.slices → HasRead (element_reader F) old new (presence_mark m ∷ [])
  one_mark_taken m no_failure same = reads_exactly (in_one_order F) old new (presence_mark m ∷ []) (mark_taken m no_failure same)

  pub answered_mark_taken : (there away : PresenceMark) (b : Bool) → old.state.failed ≡ false → new.state.slices ≡ old.state.slices → HasReadMark (element_reader F) old new there away b
  answered_mark_taken there away true no_failure same = one_mark_taken there no_failure same
  answered_mark_taken there away false no_failure same = one_mark_taken away no_failure same

  -- an element that was opened is a record of each head of its tag and order
  opened_exactly : (order : ContentOrder) (tag : Option Tag) (opened : Opened) → IsElementOpened order tag old.state new.state opened → AreInOrder order (left_inside new.state.slices) →
      (h : Head) → content_order_of h ≡ order → opened.tag ≡ head_tag h → HasOpened (in_one_order F) old new h
  opened_exactly order tag opened is in_order h same under =
      scope_taken F form.joins (λ d. d.state) old new h is.own is.back is.no_failure is.left is.outside (λ items have. form.holds h items is.own (record {
        element = is.element;
        octets = is.octets;
        tag = sym is.has_tag ∙ under;
        inside = left_inside new.state.slices;
        is = subst (λ o. IsInsideElement o is.element is.own (left_inside new.state.slices)) (sym same) is.inside;
        in_order = subst (λ o. AreInOrder o (left_inside new.state.slices)) (sym same) in_order;
        have = have;
      }))

  pub head_opened : (order : ContentOrder) (tag : Tag) (opened : Opened) → IsElementOpened order (Some tag) old.state new.state opened → AreInOrder order (left_inside new.state.slices) →
      HasOpenedExpected (element_reader F) (IsExpected order (Some tag)) old new
  head_opened order tag opened is in_order h expected =
      opens_exactly (in_one_order F) old new h (opened_exactly order (Some tag) opened is in_order h expected.has_order (is.has_tag ∙ is.asked ∙ sym expected.has_tag))

  -- what remains in the alternative of a CHOICE is the element, which begins with its tag
  begins_with_its_tag : (opened : Opened) → IsElementOpened Chosen None old.state new.state opened → (items : List Record) → F.Have items (left_inside new.state.slices) → Has (first_tags items) opened.tag
  begins_with_its_tag opened is items have =
      let alone = element_alone is.element.tag is.element.constructed is.element.contents is.own is.octets in
      let some : left_inside new.state.slices ≡ [] → ⊥ =
      λ none. some_bytes is.own (element_is_one is.element.tag is.element.constructed is.element.contents is.own is.octets) (is.inside ∙ none) in
      (element_tells form new.state.slices opened.tag items some (λ e at. is.has_tag ∙ tag_at e (sym (ap element_at is.inside ∙ at) ∙ alone.at)) have).some opened.tag refl
    where
      tag_at : (e : Element) → Some e ≡ Some (record { tag = is.element.tag; constructed = is.element.constructed; contents = is.element.contents; rest = [] }) → is.element.tag ≡ e.tag
      tag_at e same = cc

  pub choice_opened : (c : ConstraintSet) (table : Table Row) (opened : Opened) → IsElementOpened Chosen None old.state new.state opened → AreInOrder Chosen (left_inside new.state.slices) →
      HasOpenedChoice (element_reader F) old new c table
  choice_opened c table opened is in_order =
      opens_choice_exactly (in_one_order F) old new c table (
        opened.tag,
        record {
          begins = λ n items rest outer at. begins_with_its_tag opened is items at.inside;
          opened = λ n. opened_exactly Chosen None opened is in_order (alternative opened.tag c table n) refl refl;
        },
      )

  -- the innermost scope was closed
  pub closed_exactly : (result : Result (Unit {0}) DecodeError) → OnOk result (IsClosed old.state new.state) → (old.state.failed ≡ true → result ≡ Err Failed) → OnOk result (HasClosed (element_reader F) old new)
  closed_exactly (Err e) closed failed = tt
  closed_exactly (Ok w) closed failed = closes_exactly (in_one_order F) old new (scope_closed F form.joins (λ d. d.state) form.nothing old new (no_failure old.state.failed refl) closed)
    where
      no_failure : (b : Bool) → old.state.failed ≡ b → old.state.failed ≡ false
      no_failure false is = is
      no_failure true is = let wrong = failed is in cc
