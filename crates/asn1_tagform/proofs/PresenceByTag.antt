-- A component is present if the next tag is one of its own.
use Rattle.std.proofs.Common.{◌≡◌, Bool, true, false, List, [], ◌∷◌, ◌++◌, None, Some, Ok, Err, refl, ap, sym, subst, ◌∙◌}
use Rattle.std.specs.Prelude.{◌↔◌, ℕ, IsTrue}
use Rattle.asn1_laws.proofs.MarksPassed.{first_left, none_left}
use Rattle.asn1_laws.specs.Reading.{marks_passed}
use Rattle.asn1_items.specs.Headers.{Header, header_at}
use Rattle.asn1_items.specs.Items.{HaveBytes, read_with}
use Rattle.asn1_items.specs.NextTags.{IsNext}
use Rattle.asn1_items.specs.Slices.{left_inside}
use Rattle.asn1_items.specs.declared.error.ItemError.{ItemError}
use Rattle.asn1_items.specs.declared.slices.Slices.{Slices}
use Rattle.asn1_model.specs.Records as model
use Rattle.asn1_model.specs.Records.{held, presence_mark}
use Rattle.asn1_model.specs.Tags.{Tags, Has, first_tags, record_tags}
use Rattle.asn1_model.proofs.TagSets.{lies_has}
use Rattle.asn1_bench.proofs.NextTags.{next_header, none_next}
use Rattle.asn1_bench.specs.Presence.{FindsPresence}
use Rattle.asn1_tagform.specs.Next.{AreLeft, no_marks}
use Rattle.asn1_tags.specs.declared.tags.Tag.{Tag}

-- a presence mark has no bytes
pub mark_passed : (m : model.PresenceMark) (rest : List model.Record) (bytes : List ℕ) → HaveBytes (read_with no_marks) (held (presence_mark m ∷ rest)) bytes → HaveBytes (read_with no_marks) (held rest) bytes
mark_passed m rest bytes p = subst (HaveBytes (read_with no_marks) (held rest)) (sym (p.are ∙ ap (λ l. l ++ p.others) p.is_first)) p.are_others

-- so the marks in front are passed over wherever the records are left
pub passed : (rs : List model.Record) (bytes : List ℕ) → HaveBytes (read_with no_marks) (held rs) bytes → HaveBytes (read_with no_marks) (held (marks_passed rs)) bytes
passed [] bytes p = p
passed (model.scalar t c n x ∷ rs) bytes p = p
passed (model.scope h is ∷ rs) bytes p = p
passed (model.open_type n own ∷ rs) bytes p = p
passed (model.presence_mark m ∷ rs) bytes p = passed rs bytes (mark_passed m rs bytes p)

-- the tag of the header of what is next, and none at the end
pub header_tells : (s : Slices) (t : Tag) (rs : List model.Record) → (left_inside s ≡ [] → ⊥) → ((h : Header) → header_at (left_inside s) ≡ Some h → t ≡ h.tag) → AreLeft rs s → IsNext rs (Some t)
header_tells s t rs some found left =
    let n = next_header no_marks (left_inside s) rs some (passed rs (left_inside s) left) in
    let first = first_left rs n.first n.others n.is_next in
    let has : Has (first_tags rs) t = subst (λ ts. Has ts t) (sym first.tags) (subst (Has (record_tags n.first)) (sym (found n.header n.at)) n.has) in
    record { none = λ e. cc; some = λ u e. let same : t ≡ u = cc in subst (Has (first_tags rs)) same has }

pub end_tells : (s : Slices) (rs : List model.Record) → left_inside s ≡ [] → AreLeft rs s → IsNext rs None
end_tells s rs none left = record { none = λ _. none_left rs (none_next no_marks (left_inside s) rs none (passed rs (left_inside s) left)); some = λ t e. cc }

-- there is a header
pub has_header : (s : Slices) (rs : List model.Record) → (left_inside s ≡ [] → ⊥) → ((h : Header) → header_at (left_inside s) ≡ Some h → ⊥) → AreLeft rs s → ⊥
has_header s rs some never left = let n = next_header no_marks (left_inside s) rs some (passed rs (left_inside s) left) in never n.header n.at

false_of : (b : Bool) → (IsTrue b → ⊥) → b ≡ false
false_of true h = absurd (h refl)
false_of false h = refl

module _ (s : Slices) (there away : model.PresenceMark) (own : Tags) where
  -- an item is next: the component is there if and only if its tag is one of the component's
  pub found : (t : Tag) (b : Bool) → ((rs : List model.Record) → AreLeft rs s → IsNext rs (Some t)) → IsTrue b ↔ Has own t → FindsPresence no_marks there away own s s (Ok b)
  found t b next has = record {
    there = λ rest begins have.
        let left = mark_passed there rest (left_inside s) have in
        record { answer = has.1 (lies_has (first_tags rest) own begins.within t ((next rest left).some t refl)); left = left };
    away = λ rest apart have.
        let left = mark_passed away rest (left_inside s) have in
        record { answer = false_of b (λ yes. apart t (has.0 yes) ((next rest left).some t refl)); left = left };
  }

  -- none is next: it is absent
  pub none_found : ((rs : List model.Record) → AreLeft rs s → IsNext rs None) → FindsPresence no_marks there away own s s (Ok false)
  none_found next = record {
    there = λ rest begins have.
        let wrong = sym begins.some ∙ (next rest (mark_passed there rest (left_inside s) have)).none refl in cc;
    away = λ rest apart have. record { answer = refl; left = mark_passed away rest (left_inside s) have };
  }

  -- if records are left, a component is present or absent
  pub not_found : (e : ItemError) → ((rs : List model.Record) → AreLeft rs s → ⊥) → FindsPresence no_marks there away own s s (Err e)
  not_found e never = record {
    there = λ rest begins have. absurd (never rest (mark_passed there rest (left_inside s) have));
    away = λ rest apart have. absurd (never rest (mark_passed away rest (left_inside s) have));
  }
