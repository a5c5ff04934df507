-- The elements that a buffer of DER has written, from call to call.
use Rattle.std.proofs.Common.{◌≡◌, ℕ, Bool, true, false, List, [], ◌∷◌, ◌++◌, append_assoc, append-nil, length, refl, sym, ap, subst, ◌∙◌, inr}
use Rattle.std.proofs.lemmas.List.{reverse-append}
use Rattle.std.proofs.lemmas.List.Sorted.{All-permutation}
use Rattle.std.specs.Prelude.{All, IsTrue, Some, reverse, if◌then◌else◌}
use Rattle.asn1_buffers.specs.Unlabelled.{unlabelled}
use Rattle.asn1_laws.specs.Writing.{Written, outermost, in_scope, in_group, followed_by}
use Rattle.asn1_der_items.specs.Bytes.{CannotHold, HasDer, HasNoDer, HaveDer, HoldsInOrder, content_order_of}
use Rattle.asn1_der_items.specs.declared.content_order.ContentOrder.{ContentOrder}
use Rattle.asn1_der_items.specs.declared.content_order.ContentOrder.TheVariants.{AsDefined, ByTag, ByEncoding, Chosen}
use Rattle.asn1_der.proofs.Arranging.{CanBeRearranged}
use Rattle.asn1_der.specs.Sorting.{AreSorted}
use Rattle.asn1_der.specs.WrittenElements.{IsFront, IsHeld, IsOpenScope, IsWrittenAsElements}
use Rattle.asn1_der.specs.declared.frame.Frame.{Frame}
use Rattle.asn1_der.specs.declared.sorting.Order.{Order}
use Rattle.asn1_der.specs.declared.sorting.Order.TheVariants.{Tags, Encodings}
use Rattle.asn1_der_items.specs.Contents.{HasContents, HasOctetsOf}
use Rattle.asn1_der_items.specs.Elements.{IsElement}
use Rattle.asn1_der_items.specs.Series.{AreElements, HoldsContents, IsElementOf, AscendByEncoding, AscendByTag, is_one_element}
use Rattle.asn1_items.specs.Numbers.{Appended}
use Rattle.asn1_model.proofs.SameUpToOrder.{SameRecords-refl, same_rearranged}
use Rattle.asn1_model.specs.Composites.{group_records}
use Rattle.asn1_model.specs.ConstraintSets.{ConstraintSet}
use Rattle.asn1_model.specs.Orders.{equal, is_unordered}
use Rattle.asn1_model.specs.Records as model
use Rattle.asn1_model.specs.Records.{Content, Head, Name, Record, held, holding, presence_mark, presence_marks_alone, scalar, group_absent, group_end, group_start}
use Rattle.asn1_model.specs.RecordTables.{Row, Table}
use Rattle.asn1_model.specs.Tags.{head_tag}
use Rattle.asn1_tags.specs.declared.tags.Tag.{Tag}

-- a content without its labels has the octets of the content
octets_of_labelled : (x : Content) → HasOctetsOf (unlabelled x) x
octets_of_labelled model.null = record { octets = λ own has. has; none = λ none. none }
octets_of_labelled (model.boolean b) = record { octets = λ own has. has; none = λ none. none }
octets_of_labelled (model.number z) = record { octets = λ own has. has; none = λ none. none }
octets_of_labelled (model.discriminant labels z) = record { octets = λ own has. has; none = λ none. none }
octets_of_labelled (model.arcs list) = record { octets = λ own has. has; none = λ none. none }
octets_of_labelled (model.bits list) = record { octets = λ own has. has; none = λ none. none }
octets_of_labelled (model.units kind list) = record { octets = λ own has. has; none = λ none. none }

pub octets_of : (x y : Content) → unlabelled x ≡ y → HasOctetsOf y x
octets_of x y is = subst (λ z. HasOctetsOf z x) is (octets_of_labelled x)

-- records one after another
der-append : (rs ss : List Record) (a b : List ℕ) → HaveDer (held rs) a → HaveDer (held ss) b → HaveDer (held (rs ++ ss)) (a ++ b)
der-append [] ss a b p q = subst (λ l. HaveDer (held ss) (l ++ b)) (sym p) q
der-append (r ∷ rs) ss a b p q = record {
  first = p.first;
  others = p.others ++ b;
  is_first = p.is_first;
  are_others = der-append rs ss p.others b p.are_others q;
  are = ap (λ l. l ++ b) p.are ∙ append_assoc p.first p.others b;
}

one_record : (r : Record) (bytes : List ℕ) → HasDer r bytes → HaveDer (held (r ∷ [])) bytes
one_record r bytes p = record { first = bytes; others = []; is_first = p; are_others = refl; are = sym (append-nil bytes) }

-- more records in the innermost list
followed : (w : Written) (fs : List Frame) (bytes more : List ℕ) (ss : List Record) → IsWrittenAsElements w fs bytes → HaveDer (held ss) more → IsWrittenAsElements (followed_by w ss) fs (bytes ++ more)
followed (outermost rs) [] bytes more ss p q = der-append rs ss bytes more p q
followed (outermost rs) (f ∷ fs) bytes more ss p q = absurd p
followed (in_scope h rs w) [] bytes more ss p q = absurd p
followed (in_scope h rs w) (f ∷ fs) bytes more ss p q = record {
  before = p.before;
  front = p.front;
  inside = p.inside ++ more;
  outside = p.outside;
  begins = p.begins;
  are = ap (λ l. l ++ more) p.are ∙ append_assoc (p.before ++ p.front) p.inside more;
  starts = p.starts;
  tag = p.tag;
  content_order = p.content_order;
  have_der = der-append rs ss p.inside more p.have_der q;
}
followed (in_group table rs w) fs bytes more ss p q = record {
  first = p.first;
  others = p.others ++ more;
  is_first = p.is_first;
  are_others = der-append rs ss p.others more p.are_others q;
  are = ap (λ l. l ++ more) p.are ∙ append_assoc p.first p.others more;
}

-- a record was appended
pub appended : (fs : List Frame) (bytes new : List ℕ) (r : Record) → Appended (HasDer r) bytes new → (w : Written) → IsWrittenAsElements w (reverse fs) bytes → IsWrittenAsElements (followed_by w (r ∷ [])) (reverse fs) new
appended fs bytes new r a w wrote = subst (λ l. IsWrittenAsElements (followed_by w (r ∷ [])) (reverse fs) l) (sym a.joined) (followed w (reverse fs) bytes a.added (r ∷ []) wrote (one_record r a.added a.is))

pub scalar_appended : (fs : List Frame) (bytes new : List ℕ) (t : Tag) (k : ConstraintSet) (n : Name) (x y : Content) → unlabelled x ≡ y → Appended (HoldsContents (HasContents y) t false) bytes new → (w : Written) →
    IsWrittenAsElements w (reverse fs) bytes → IsWrittenAsElements (followed_by w (scalar t k n x ∷ [])) (reverse fs) new
scalar_appended fs bytes new t k n x y is a =
    appended fs bytes new (scalar t k n x) (record {
      added = a.added;
      is = record { contents = a.is.contents; are = (octets_of x y is).octets a.is.contents a.is.are; element = a.is.element };
      joined = a.joined;
    })

-- a presence mark leaves the bytes as they are
pub mark_appended : (fs : List Frame) (bytes : List ℕ) (m : model.PresenceMark) (w : Written) → IsWrittenAsElements w (reverse fs) bytes → IsWrittenAsElements (followed_by w (presence_mark m ∷ [])) (reverse fs) bytes
mark_appended fs bytes m = appended fs bytes bytes (presence_mark m) (record { added = []; is = refl; joined = sym (append-nil bytes) })

-- scopes
reverse-last : (fs : List Frame) (f : Frame) → reverse (fs ++ f ∷ []) ≡ f ∷ reverse fs
reverse-last fs f = reverse-append fs (f ∷ [])

pub scope_begun : (fs gs : List Frame) (f : Frame) (h : Head) (bytes new : List ℕ) → Appended (IsFront f.content_order f.tag) bytes new → f.start ≡ length new → f.tag ≡ head_tag h → f.content_order ≡ content_order_of h → gs ≡ fs ++ f ∷ [] → (w : Written) → IsWrittenAsElements w (reverse fs) bytes →
    IsWrittenAsElements (in_scope h [] w) (reverse gs) new
scope_begun fs gs f h bytes new a starts tag content_order outer w wrote =
    subst (λ l. IsWrittenAsElements (in_scope h [] w) l new) (sym (ap reverse outer ∙ reverse-last fs f))
    (record { before = bytes; front = a.added; inside = []; outside = wrote; begins = a.is; are = a.joined ∙ sym (append-nil (bytes ++ a.added)); starts = starts ∙ ap length a.joined; tag = tag; content_order = content_order; have_der = refl })

pub scope_of : (fs gs : List Frame) (f : Frame) (h : Head) (rs : List Record) (bytes : List ℕ) (w : Written) → fs ≡ gs ++ f ∷ [] → IsWrittenAsElements (in_scope h rs w) (reverse fs) bytes → IsOpenScope (λ before. IsWrittenAsElements w (reverse gs) before) h rs f bytes
scope_of fs gs f h rs bytes w outer wrote = subst (λ l. IsWrittenAsElements (in_scope h rs w) l bytes) (ap reverse outer ∙ reverse-last gs f) wrote

pub no_scope : (fs : List Frame) (h : Head) (rs : List Record) (bytes : List ℕ) (w : Written) → fs ≡ [] → IsWrittenAsElements (in_scope h rs w) (reverse fs) bytes → ⊥
no_scope fs h rs bytes w none wrote = subst (λ l. IsWrittenAsElements (in_scope h rs w) (reverse l) bytes) none wrote

-- what a scope holds is a record
pub held_as_defined : (h : Head) (rs : List Record) (inside own : List ℕ) (t : Tag) (content_order : ContentOrder) → t ≡ head_tag h → content_order ≡ content_order_of h → content_order ≡ AsDefined → HaveDer (held rs) inside → IsElement t true inside own → IsHeld h rs own
held_as_defined h rs inside own t content_order tag is defined have element = record {
  closed = holding h rs;
  same = equal (holding h rs);
  has_der = subst (λ f. HoldsInOrder f (head_tag h) (HaveDer (held rs)) own) (sym defined ∙ is) (record { contents = inside; are = have; element = subst (λ u. IsElement u true inside own) tag element });
}

pub held_chosen : (h : Head) (rs : List Record) (inside : List ℕ) (t : Tag) (content_order : ContentOrder) → t ≡ head_tag h → content_order ≡ content_order_of h → content_order ≡ Chosen → HaveDer (held rs) inside → IsElementOf t inside → IsHeld h rs inside
held_chosen h rs inside t content_order tag is chosen have one = record {
  closed = holding h rs;
  same = equal (holding h rs);
  has_der = subst (λ f. HoldsInOrder f (head_tag h) (HaveDer (held rs)) inside) (sym chosen ∙ is) (have, subst (λ u. IsElementOf u inside) tag one);
}

unordered_by_tag : (h : Head) → ByTag ≡ content_order_of h → is_unordered h ≡ true
unordered_by_tag (model.sequence t table n) is = cc
unordered_by_tag (model.set t table n) is = refl
unordered_by_tag (model.sequence_of t c n) is = cc
unordered_by_tag (model.set_of t c n) is = refl
unordered_by_tag (model.explicit_tag t n) is = cc
unordered_by_tag (model.alternative t c table n) is = cc

unordered_by_encoding : (h : Head) → ByEncoding ≡ content_order_of h → is_unordered h ≡ true
unordered_by_encoding (model.sequence t table n) is = cc
unordered_by_encoding (model.set t table n) is = refl
unordered_by_encoding (model.sequence_of t c n) is = cc
unordered_by_encoding (model.set_of t c n) is = refl
unordered_by_encoding (model.explicit_tag t n) is = cc
unordered_by_encoding (model.alternative t c table n) is = cc

-- sorted elements are elements in order
in_order : (order : Order) (AreInOrder : List (List ℕ) → Type 0) (elements : List (List ℕ)) (bytes : List ℕ) → All (λ e. IsTrue (is_one_element e)) elements → (sorted : AreSorted order elements bytes) → AreInOrder sorted.sorted → AreElements AreInOrder bytes
in_order order AreInOrder elements bytes each sorted rise = record {
  elements = sorted.sorted;
  each = All-permutation (λ e. IsTrue (is_one_element e)) elements sorted.sorted sorted.moved each;
  order = rise;
  are = sorted.are;
}

-- the content order of a sorting order
abbrev pub content_order_for : Order → ContentOrder
content_order_for Tags = ByTag
content_order_for Encodings = ByEncoding

unordered_in : (order : Order) (h : Head) → content_order_for order ≡ content_order_of h → is_unordered h ≡ true
unordered_in Tags h is = unordered_by_tag h is
unordered_in Encodings h is = unordered_by_encoding h is

-- sorted elements, in the words of the content order
in_content_order : (order : Order) (t : Tag) (elements : List (List ℕ)) (IsInside : List ℕ → Type 0) (own : List ℕ) → All (λ e. IsTrue (is_one_element e)) elements → (holds : HoldsContents (AreSorted order elements) t true own) → IsInside holds.contents →
    HoldsInOrder (content_order_for order) t IsInside own
in_content_order Tags t elements IsInside own each holds inside = record {
  contents = holds.contents;
  are = (inside, in_order Tags AscendByTag elements holds.contents each holds.are holds.are.in_order);
  element = holds.element;
}
in_content_order Encodings t elements IsInside own each holds inside = record {
  contents = holds.contents;
  are = (inside, in_order Encodings AscendByEncoding elements holds.contents each holds.are holds.are.in_order);
  element = holds.element;
}

pub held_sorted : (h : Head) (rs : List Record) (inside own : List ℕ) (t : Tag) (content_order : ContentOrder) (order : Order) → t ≡ head_tag h → content_order ≡ content_order_of h → content_order ≡ content_order_for order → (can : CanBeRearranged rs inside) →
    HoldsContents (AreSorted order can.elements) t true own → IsHeld h rs own
held_sorted h rs inside own t content_order order tag is ordered can holds =
    let sorted = holds.are in
    let moved = can.rearranged sorted.sorted sorted.moved in
    let have = subst (HaveDer (held moved.order)) (sym sorted.are) moved.have_der in
    record {
      closed = holding h moved.order;
      same = same_rearranged h moved.order moved.order rs (unordered_in order h (sym ordered ∙ is)) (SameRecords-refl moved.order) moved.moved;
      has_der = subst (λ f. HoldsInOrder f (head_tag h) (HaveDer (held moved.order)) own) (sym ordered ∙ is) (subst (λ u. HoldsInOrder (content_order_for order) u (HaveDer (held moved.order)) own) tag (in_content_order order t can.elements (HaveDer (held moved.order)) own can.joined.each holds have));
    }

-- a choice that is none
pub not_chosen : (h : Head) (rs : List Record) (inside : List ℕ) (t : Tag) (content_order : ContentOrder) → t ≡ head_tag h → content_order ≡ content_order_of h → content_order ≡ Chosen → HaveDer (held rs) inside → ¬ IsElementOf t inside → HasNoDer (holding h rs)
not_chosen h rs inside t content_order tag is chosen have other =
    inr (subst (λ f. CannotHold f (head_tag h) (HaveDer (held rs))) (sym chosen ∙ is) (record { inside = inside; are = have; not = λ one. other (subst (λ u. IsElementOf u inside) (sym tag) one) }))

-- groups
pub group_begun : (fs : List Frame) (bytes : List ℕ) (table : Table Row) (w : Written) → IsWrittenAsElements w (reverse fs) bytes → IsWrittenAsElements (in_group table [] w) (reverse fs) bytes
group_begun fs bytes table w wrote = record { first = bytes; others = []; is_first = wrote; are_others = refl; are = sym (append-nil bytes) }

marks_are_nothing : (rs : List Record) (bytes : List ℕ) → presence_marks_alone rs ≡ true → HaveDer (held rs) bytes → bytes ≡ []
marks_are_nothing [] bytes alone have = have
marks_are_nothing (model.scalar t c n x ∷ rs) bytes alone have = cc
marks_are_nothing (model.scope h inner ∷ rs) bytes alone have = cc
marks_are_nothing (model.open_type n own ∷ rs) bytes alone have = cc
marks_are_nothing (model.presence_mark m ∷ rs) bytes alone have = have.are ∙ ap (λ l. l ++ have.others) have.is_first ∙ marks_are_nothing rs have.others alone have.are_others

-- a group leaves no trace
group_has_no_trace : (table : Table Row) (rs : List Record) (bytes : List ℕ) → HaveDer (held rs) bytes → HaveDer (held (group_records table (Some rs))) bytes
group_has_no_trace table rs bytes have = by (presence_marks_alone rs) refl
  where
    group : List Record
    group = presence_mark (group_start table) ∷ rs ++ presence_mark group_end ∷ []

    by : (b : Bool) → presence_marks_alone rs ≡ b → HaveDer (held (if b then presence_mark (group_absent table) ∷ [] else group)) bytes
    by true alone = one_record (presence_mark (group_absent table)) bytes (marks_are_nothing rs bytes alone have)
    by false some = record {
      first = [];
      others = bytes;
      is_first = refl;
      are_others = subst (HaveDer (held (rs ++ presence_mark group_end ∷ []))) (append-nil bytes) (der-append rs (presence_mark group_end ∷ []) bytes [] have (one_record (presence_mark group_end) [] refl));
      are = refl;
    }

pub group_ended : (fs : List Frame) (bytes : List ℕ) (table : Table Row) (rs : List Record) (w : Written) → IsWrittenAsElements (in_group table rs w) (reverse fs) bytes → IsWrittenAsElements (followed_by w (group_records table (Some rs))) (reverse fs) bytes
group_ended fs bytes table rs w wrote =
    subst (λ l. IsWrittenAsElements (followed_by w (group_records table (Some rs))) (reverse fs) l) (sym wrote.are) (followed w (reverse fs) wrote.first wrote.others (group_records table (Some rs)) wrote.is_first (group_has_no_trace table rs wrote.others wrote.are_others))

-- what was written at the end
pub finished : (fs : List Frame) (bytes : List ℕ) (rs : List Record) → IsWrittenAsElements (outermost rs) (reverse fs) bytes → HaveDer (held rs) bytes
finished fs bytes rs wrote = top (reverse fs) wrote
  where
    top : (gs : List Frame) → IsWrittenAsElements (outermost rs) gs bytes → HaveDer (held rs) bytes
    top [] p = p
    top (f ∷ gs) p = absurd p
