-- The tag of the header of what is next is one with which the record that is next begins.
use Rattle.std.proofs.Common.{◌≡◌, ℕ, zero, suc, false, List, [], ◌∷◌, ◌++◌, refl, sym, ap, subst, ◌∙◌, arith, Option, Some, None}
use Rattle.asn1_components.specs.ComponentTypes.{ComponentType}
use Rattle.asn1_laws.proofs.MarksPassed.{first_left, next_tag, no_next_tag}
use Rattle.asn1_laws.specs.Reading.{IsNextTag, HasAdvanced, Outside, marks_passed}
use Rattle.asn1_items.proofs.Items.{content_item, one_item, scope_item}
use Rattle.asn1_items.specs.Headers.{Header, header_at}
use Rattle.asn1_items.specs.Kinds.{content_byte, content_kind}
use Rattle.asn1_items.specs.Items.{HasBytes, HaveBytes, MarkBytes, read_with}
use Rattle.asn1_items.specs.Slices.{left_inside}
use Rattle.asn1_model.specs.Records as model
use Rattle.asn1_model.specs.Records.{held, is_presence_mark}
use Rattle.asn1_model.specs.Tags.{Has, IsOneRecord, among, first_tags, only, record_tags}
use Rattle.asn1_model.proofs.TagSets.{lies_has}
use Rattle.std.specs.Prelude.{if◌then◌else◌}
use Rattle.asn1_bench.proofs.RemainingItems.{is_form}
use Rattle.asn1_bench.specs.Decoder.{BeginUnder, in_one_order, item_form}
use Rattle.asn1_bench.specs.Presence.{BeginNoItem, KeepsOutside}
use Rattle.asn1_bench.specs.declared.decoder.ItemDecoder.{ItemDecoder}
use Rattle.asn1_items.proofs.DecodeStates.{some_left}
use Rattle.asn1_items.specs.DecodeStates.{AllHave, RemainsExactly, lists_outside}
use Rattle.asn1_tags.specs.declared.tags.Tag.{Tag}

-- The header of a record: its tag is one with which the record begins.
pub record HasTag (r : model.Record) (bytes : List ℕ) : Type 0 where
  pub header : Header
  pub at : header_at bytes ≡ Some header
  pub has : Has (record_tags r) header.tag

pub tag_at : (marks : MarkBytes) (r : model.Record) (first more : List ℕ) → is_presence_mark r ≡ false → HasBytes (read_with marks) r first → HasTag r (first ++ more)
tag_at marks (model.scalar t c n x) first more no_mark p = record { header = _; at = content_item t (content_byte (content_kind x)) p.inside first more p.item; has = (0, omega arith, refl) }
tag_at marks (model.scope h rs) first more no_mark p = record { header = _; at = scope_item h p.inside first more p.item; has = (0, omega arith, refl) }
tag_at marks (model.open_type n own) first more no_mark p =
    let o = one_item own more p.1 in
    record { header = o.header; at = ap (λ b. header_at (b ++ more)) p.0 ∙ o.at; has = tt }
tag_at marks (model.presence_mark m) first more no_mark p = cc

-- The record that is next, after the presence marks that are passed over, and its header.
pub record NextHeader (left : List ℕ) (items : List model.Record) : Type 0 where
  pub first : model.Record
  pub others : List model.Record
  pub is_next : marks_passed items ≡ first ∷ others
  pub header : Header
  pub at : header_at left ≡ Some header
  pub has : Has (record_tags first) header.tag

pub next_header : (marks : MarkBytes) (left : List ℕ) (items : List model.Record) → (left ≡ [] → ⊥) → HaveBytes (read_with marks) (held (marks_passed items)) left → NextHeader left items
next_header marks left items some have = by (marks_passed items) refl have
  where
    by : (l : List model.Record) → marks_passed items ≡ l → HaveBytes (read_with marks) (held l) left → NextHeader left items
    by [] is have = absurd (some have)
    by (s ∷ ss) is have =
        let t = tag_at marks s have.first have.others (first_left items s ss is).no_mark have.is_first in
        record { first = s; others = ss; is_next = is; header = t.header; at = ap header_at have.are ∙ t.at; has = t.has }

-- no record is next where nothing is left
pub none_next : (marks : MarkBytes) (left : List ℕ) (items : List model.Record) → left ≡ [] → HaveBytes (read_with marks) (held (marks_passed items)) left → marks_passed items ≡ []
none_next marks left items none have = by (marks_passed items) refl have
  where
    by : (l : List model.Record) → marks_passed items ≡ l → HaveBytes (read_with marks) (held l) left → l ≡ []
    by [] is have = refl
    by (s ∷ ss) is have = absurd (some_left (is_form marks) s ss left (first_left items s ss is).no_mark have none)

module _ {V P : Type 0} (cs : List (ComponentType V)) (marks : MarkBytes) (d e : ItemDecoder P) (kept : KeepsOutside d.state.slices e.state.slices) (no_failure : e.state.failed ≡ false)
    (items : List model.Record) (outer : Outside) (have : HaveBytes (read_with marks) (held (marks_passed items)) (left_inside e.state.slices)) (at : RemainsExactly (item_form marks) d.state (items, outer)) where
  advanced : (next : Option Tag) → IsNextTag cs items next → HasAdvanced (in_one_order marks) d e 0 (marks_passed items, outer) (IsNextTag cs items next)
  advanced next is = record {
    answer = is;
    at = record { no_failure = no_failure; inside = have; outside = subst (AllHave (item_form marks) (lists_outside outer)) (sym kept.outside) at.outside };
    within_depth_left = omega arith;
  }

  -- no record is next
  pub none_found : left_inside e.state.slices ≡ [] → HasAdvanced (in_one_order marks) d e 0 (marks_passed items, outer) (IsNextTag cs items None)
  none_found none = advanced None (no_next_tag cs items (none_next marks (left_inside e.state.slices) items none have))

  -- a record is next, and its tag was found
  pub next_found : (t : Tag) → (left_inside e.state.slices ≡ [] → ⊥) → ((h : Header) → header_at (left_inside e.state.slices) ≡ Some h → t ≡ h.tag) →
      HasAdvanced (in_one_order marks) d e 0 (marks_passed items, outer) (IsNextTag cs items (Some t))
  next_found t some found =
      let n = next_header marks (left_inside e.state.slices) items some have in
      advanced (Some t) (next_tag cs items n.first n.others t n.is_next (subst (Has (record_tags n.first)) (sym (found n.header n.at)) n.has))

only_one : (t u : Tag) → Has (only t) u → u ≡ t
only_one t u (zero, low, is) = sym is
only_one t u (suc k, low, is) = absurd (omega (arith, low))

-- one record that begins with a tag, and the header of its bytes
pub begins_under : (marks : MarkBytes) (t : Tag) (items : List model.Record) (left : List ℕ) → IsOneRecord (only t) items → HaveBytes (read_with marks) (held items) left → BeginUnder t left
begins_under marks t items left one have =
    let own : HaveBytes (read_with marks) (held (one.item ∷ [])) left = subst (λ l. HaveBytes (read_with marks) (held l) left) one.alone have in
    let found = tag_at marks one.item own.first own.others one.no_mark own.is_first in
    let first : first_tags items ≡ record_tags one.item = ap first_tags one.alone ∙ ap (λ b. if b then among [] else record_tags one.item) one.no_mark in
    let has : Has (only t) found.header.tag = lies_has (first_tags items) (only t) one.within found.header.tag (subst (λ ts. Has ts found.header.tag) (sym first) found.has) in
    record { header = found.header; at = ap header_at own.are ∙ found.at; tag = only_one t found.header.tag has }

first_has : (marks : MarkBytes) (t : Tag) (r : model.Record) (items : List model.Record) (left : List ℕ) → is_presence_mark r ≡ false → BeginUnder t left → HaveBytes (read_with marks) (held (r ∷ items)) left →
    Has (record_tags r) t
first_has marks t r items left no_mark begins have =
    let found = tag_at marks r have.first have.others no_mark have.is_first in
    let both : Some found.header ≡ Some begins.header = sym found.at ∙ ap header_at (sym have.are) ∙ begins.at in
    let same : found.header ≡ begins.header = cc in
    subst (Has (record_tags r)) (ap (λ (h : Header). h.tag) same ∙ begins.tag) found.has

-- the tag of the header with which bytes of records begin is one with which the records begin
pub header_has : (marks : MarkBytes) → BeginNoItem marks → (t : Tag) (items : List model.Record) (left : List ℕ) → BeginUnder t left → HaveBytes (read_with marks) (held items) left → Has (first_tags items) t
header_has marks apart t [] left begins have = let wrong = ap header_at (sym have) ∙ begins.at in cc
header_has marks apart t (model.presence_mark m ∷ items) left begins have =
    let is : left ≡ marks m ++ have.others = have.are ∙ ap (λ l. l ++ have.others) have.is_first in
    let nothing : marks m ≡ [] = apart m have.others begins.header (ap header_at (sym is) ∙ begins.at) in
    header_has marks apart t items have.others (record { header = begins.header; at = ap header_at (sym (is ∙ ap (λ l. l ++ have.others) nothing)) ∙ begins.at; tag = begins.tag }) have.are_others
header_has marks apart t (model.scalar u c n x ∷ items) left begins have = first_has marks t (model.scalar u c n x) items left refl begins have
header_has marks apart t (model.scope h is ∷ items) left begins have = first_has marks t (model.scope h is) items left refl begins have
header_has marks apart t (model.open_type n own ∷ items) left begins have = tt
