-- The items that a decoder reads, and the presence marks between them.
use Rattle.std.proofs.Common.{◌≡◌, ℕ, ◌≤◌, Bool, false, true, List, [], ◌∷◌, ◌++◌, refl, sym, ap, subst, ◌∙◌, arith, length, Some}
use Rattle.std.specs.Prelude.{IsTrue, Ok, Err}
use Rattle.asn1_laws.specs.Reading.{Advances, Outside, TellsPresence}
use Rattle.asn1_laws.specs.declared.decode_error.DecodeError.{DecodeError}
use Rattle.asn1_items.proofs.Items.{content_item, scope_item}
use Rattle.asn1_items.specs.Headers.{Meets, header_at, is_one_item}
use Rattle.asn1_items.specs.Kinds.{content_byte, content_kind, kind_of}
use Rattle.asn1_items.specs.declared.kinds.ItemKind.{ItemKind}
use Rattle.asn1_items.specs.declared.kinds.ItemKind.TheVariants as item_kind
use Rattle.asn1_items.specs.Items.{HasBytes, IsItem, MarkBytes, read_with}
use Rattle.asn1_items.specs.declared.error.ItemError.{ItemError}
use Rattle.asn1_items.specs.declared.header.ExpectedHeader.{ExpectedHeader}
use Rattle.asn1_items.specs.declared.header.ExpectedHeader.TheVariants.{Content, Scope, Alternative, Any}
use Rattle.asn1_items.specs.declared.slices.Slices.{Slices}
use Rattle.asn1_model.specs.ConstraintSets.{ConstraintSet}
use Rattle.asn1_model.specs.Records as model
use Rattle.asn1_model.specs.Records.{PresenceMark, Name, holding, is_presence_mark, presence_mark}
use Rattle.asn1_model.specs.Tags.{Tags, head_tag}
use Rattle.asn1_bench.specs.Decoder.{IsExpected, in_one_order, item_form}
use Rattle.asn1_bench.specs.Presence.{KeepsOutside, PassesMark, FindsPresence}
use Rattle.asn1_bench.specs.declared.decoder.ItemDecoder.{ItemDecoder}
use Rattle.asn1_items.specs.DecodeStates.{AllHave, IsReadForm, lists_outside}
use Rattle.asn1_tags.specs.declared.tags.Tag.{Tag}

-- the header of a content
pub scalar_at : (marks : MarkBytes) (t : Tag) (c : ConstraintSet) (n : Name) (x : model.Content) (front back left : List ℕ) → (p : HasBytes (read_with marks) (model.scalar t c n x) front) → left ≡ front ++ back →
    header_at left ≡ Some (record { kind = item_kind.Content; tag = t; content = content_byte (content_kind x); size = length p.inside; body = p.inside ++ back })
scalar_at marks t c n x front back left p is = ap header_at is ∙ content_item t (content_byte (content_kind x)) p.inside front back p.item

-- the header of a record that holds others
pub scope_at : (marks : MarkBytes) (h : model.Head) (items : List model.Record) (front back left : List ℕ) → (p : HasBytes (read_with marks) (holding h items) front) → left ≡ front ++ back →
    header_at left ≡ Some (record { kind = kind_of h; tag = head_tag h; content = 0; size = length p.inside; body = p.inside ++ back })
scope_at marks h items front back left p is = ap header_at is ∙ scope_item h p.inside front back p.item

-- the head that is wanted has the header that is wanted
pub expected_met : (w : ExpectedHeader) (h : model.Head) (n : ℕ) (body : List ℕ) → IsExpected w h → Meets w (record { kind = kind_of h; tag = head_tag h; content = 0; size = n; body = body })
expected_met (Content t k) h n body wrong = absurd wrong
expected_met (Scope k t) h n body is = (ap item_kind.Scope is.0, is.1)
expected_met Alternative h n body is = ap item_kind.Scope is
expected_met Any h n body wrong = absurd wrong

-- each record takes a byte, presence marks apart
item_long : (kind : ItemKind) (t : Tag) (k inside bytes : List ℕ) → IsItem kind t k inside bytes → 1 ≤ length bytes
item_long kind t k inside bytes item = omega (arith, ap length item.are)

one_long : (own : List ℕ) → IsTrue (is_one_item own) → 1 ≤ length own
one_long [] one = cc
one_long (b ∷ own) one = omega arith

record_long : (marks : MarkBytes) (r : model.Record) (bytes : List ℕ) → is_presence_mark r ≡ false → HasBytes (read_with marks) r bytes → 1 ≤ length bytes
record_long marks (model.scalar t c n x) bytes no_mark p = item_long item_kind.Content t _ p.inside bytes p.item
record_long marks (model.scope h rs) bytes no_mark p = item_long (kind_of h) (head_tag h) [] p.inside bytes p.item
record_long marks (model.open_type n own) bytes no_mark p = omega (arith, ap length p.0, one_long own p.1)
record_long marks (model.presence_mark m) bytes no_mark p = cc

-- so the form of items is one that a decoder reads
pub is_form : (marks : MarkBytes) → IsReadForm (item_form marks)
is_form marks = record { nothing = refl; only_nothing = λ bytes p. p; joined = λ r rs bytes p. p; long = λ r bytes no_mark p. record_long marks r bytes no_mark p }

module _ {P : Type 0} (marks : MarkBytes) where
  -- a presence mark was passed
  pub mark_passed : {V : Type 0} (d e : ItemDecoder P) (m : PresenceMark) (rest : List model.Record) (outer : Outside) (Is : V → Type 0) (w : V) → e.state.failed ≡ false → KeepsOutside d.state.slices e.state.slices →
      PassesMark marks m rest Is d.state.slices e.state.slices (Ok w) → Advances (in_one_order marks) d e 0 (presence_mark m ∷ rest, outer) (rest, outer) Is (Ok w)
  mark_passed d e m rest outer Is w no_failure kept passes at =
      let p = passes at.inside in
      record {
        answer = p.answer;
        at = record { no_failure = no_failure; inside = p.left; outside = subst (AllHave (item_form marks) (lists_outside outer)) (sym kept.outside) at.outside };
        within_depth_left = omega arith;
      }

  -- or none is there
  pub mark_not_passed : {V : Type 0} (d e : ItemDecoder P) (m : PresenceMark) (rest : List model.Record) (outer : Outside) (Is : V → Type 0) (error : ItemError) (x : DecodeError) →
      PassesMark marks m rest Is d.state.slices d.state.slices (Err error) → Advances (in_one_order marks) d e 0 (presence_mark m ∷ rest, outer) (rest, outer) Is (Err x)
  mark_not_passed d e m rest outer Is error x passes at = absurd (passes at.inside)

  -- whether something is there was found
  pub found : (d e : ItemDecoder P) (there away : PresenceMark) (own : Tags) (b : Bool) → e.state.failed ≡ false → KeepsOutside d.state.slices e.state.slices → FindsPresence marks there away own d.state.slices e.state.slices (Ok b) →
      TellsPresence (in_one_order marks) d e there away own (Ok b)
  found d e there away own b no_failure kept finds = record {
    there = λ rest outer begins. mark_passed d e there rest outer (λ b. b ≡ true) b no_failure kept (finds.there rest begins);
    away = λ rest outer apart. mark_passed d e away rest outer (λ b. b ≡ false) b no_failure kept (finds.away rest apart);
  }

  -- or not
  pub not_found : (d e : ItemDecoder P) (there away : PresenceMark) (own : Tags) (new : Slices) (error : ItemError) (x : DecodeError) → FindsPresence marks there away own d.state.slices new (Err error) →
      TellsPresence (in_one_order marks) d e there away own (Err x)
  not_found d e there away own new error x finds = record {
    there = λ rest outer begins. mark_not_passed d e there rest outer (λ b. b ≡ true) error x (finds.there rest begins);
    away = λ rest outer apart. mark_not_passed d e away rest outer (λ b. b ≡ false) error x (finds.away rest apart);
  }
