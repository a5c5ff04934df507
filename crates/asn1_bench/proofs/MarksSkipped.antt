-- Presence marks of one byte are skipped.
use Rattle.std.proofs.Common.{◌≡◌, ◌≤◌, ℕ, Bool, true, false, eqb, arith, List, [], ◌∷◌, ◌++◌, refl, sym, ap, subst, ◌∙◌, Option, None, Some}
use Rattle.std.specs.Prelude.{if◌then◌else◌, nat_le}
use Rattle.std.proofs.lemmas.Bool.{and_parts, eqb-false, eqb-true, leb-true}
use Rattle.asn1_laws.specs.Reading.{marks_passed}
use Rattle.std.specs.List.{flat_map}
use Rattle.std.specs.Option.{option_and_then}
use Rattle.asn1_items.proofs.Items.{kind_at-is}
use Rattle.asn1_items.specs.Headers.{from_class, is_one, is_one_item}
use Rattle.asn1_items.specs.Kinds.{is_mark_byte, item_byte, item_kind_at, kind_of}
use Rattle.asn1_items.specs.Items.{HasBytes, HaveBytes, mark_byte, marks_skipped, packed_marks, read_with}
use Rattle.asn1_items.specs.declared.kinds.ItemKind.{ItemKind}
use Rattle.asn1_items.specs.declared.kinds.ItemKind.TheVariants as item_kind
use Rattle.asn1_items.specs.declared.kinds.ScopeKind.TheVariants as scope_kind
use Rattle.asn1_model.specs.Records as model
use Rattle.asn1_model.specs.RecordTables.{no_table}
use Rattle.asn1_model.specs.Tags.{CHOICE}
use Rattle.asn1_model.specs.Records.{held, in_root, is_presence_mark, present, absent, group_start, group_absent, group_end}

-- the bytes of a mark are skipped, and those of other records are not
mark_skipped : (m : model.PresenceMark) (rest : List ℕ) → marks_skipped (mark_byte m ∷ rest) ≡ marks_skipped rest
mark_skipped (present side t) rest = refl
mark_skipped (absent side t) rest = refl
mark_skipped (group_start table) rest = refl
mark_skipped (group_absent table) rest = refl
mark_skipped group_end rest = refl

no_mark_kind : (kind : ItemKind) → is_mark_byte (item_byte kind) ≡ false
no_mark_kind item_kind.Content = refl
no_mark_kind (item_kind.Scope scope_kind.Sequence) = refl
no_mark_kind (item_kind.Scope scope_kind.Set) = refl
no_mark_kind (item_kind.Scope scope_kind.SequenceOf) = refl
no_mark_kind (item_kind.Scope scope_kind.SetOf) = refl
no_mark_kind (item_kind.Scope scope_kind.ExplicitTag) = refl
no_mark_kind (item_kind.Scope scope_kind.Alternative) = refl

kept : (byte : ℕ) (rest : List ℕ) → is_mark_byte byte ≡ false → marks_skipped (byte ∷ rest) ≡ byte ∷ rest
kept byte rest e = ap (λ b. if b then marks_skipped rest else byte ∷ rest) e

item_is_no_mark : (byte : ℕ) (rest : List ℕ) → is_one_item (byte ∷ rest) ≡ true → is_mark_byte byte ≡ false
item_is_no_mark byte rest one = by (item_kind_at byte) refl one
  where
    by : (o : Option ItemKind) → item_kind_at byte ≡ o → is_one (option_and_then (λ kind. from_class kind rest) o) ≡ true → is_mark_byte byte ≡ false
    by None at one = cc
    by (Some kind) at one = subst (λ b. is_mark_byte b ≡ false) (sym (kind_at-is byte kind at)) (no_mark_kind kind)

raw_kept : (own more : List ℕ) → is_one_item own ≡ true → marks_skipped (own ++ more) ≡ own ++ more
raw_kept [] more one = cc
raw_kept (byte ∷ own) more one = kept byte (own ++ more) (item_is_no_mark byte own one)

record_kept : (r : model.Record) (first more : List ℕ) → is_presence_mark r ≡ false → HasBytes (read_with packed_marks) r first → marks_skipped (first ++ more) ≡ first ++ more
record_kept (model.scalar t c n x) first more no_mark p = subst (λ b. marks_skipped (b ++ more) ≡ b ++ more) (sym p.item.are) refl
record_kept (model.scope h rs) first more no_mark p = subst (λ b. marks_skipped (b ++ more) ≡ b ++ more) (sym p.item.are) (kept (item_byte (kind_of h)) _ (no_mark_kind (kind_of h)))
record_kept (model.open_type n own) first more no_mark p = subst (λ b. marks_skipped (b ++ more) ≡ b ++ more) (sym p.0) (raw_kept own more p.1)
record_kept (model.presence_mark m) first more no_mark p = cc

pub skipped : (rs : List model.Record) (bytes : List ℕ) → HaveBytes (read_with packed_marks) (held rs) bytes → HaveBytes (read_with packed_marks) (held (marks_passed rs)) (marks_skipped bytes)
skipped [] bytes p = ap marks_skipped p
skipped (r ∷ rs) bytes p = by r rs p (skipped rs p.others p.are_others)
  where
    stays : (r : model.Record) (rs : List model.Record) (p : HaveBytes (read_with packed_marks) (held (r ∷ rs)) bytes) → is_presence_mark r ≡ false → HaveBytes (read_with packed_marks) (held (r ∷ rs)) (marks_skipped bytes)
    stays r rs p no_mark = subst (HaveBytes (read_with packed_marks) (held (r ∷ rs))) (p.are ∙ sym (record_kept r p.first p.others no_mark p.is_first) ∙ ap marks_skipped (sym p.are)) p

    by : (r : model.Record) (rs : List model.Record) (p : HaveBytes (read_with packed_marks) (held (r ∷ rs)) bytes) → HaveBytes (read_with packed_marks) (held (marks_passed rs)) (marks_skipped p.others) → HaveBytes (read_with packed_marks) (held (marks_passed (r ∷ rs))) (marks_skipped bytes)
    by (model.scalar t c n x) rs p rest = stays (model.scalar t c n x) rs p refl
    by (model.scope h is) rs p rest = stays (model.scope h is) rs p refl
    by (model.open_type n own) rs p rest = stays (model.open_type n own) rs p refl
    by (model.presence_mark m) rs p rest = subst (HaveBytes (read_with packed_marks) (held (marks_passed rs))) (sym (ap marks_skipped (p.are ∙ ap (λ l. l ++ p.others) p.is_first) ∙ mark_skipped m p.others)) rest

-- the byte of a mark that is next
pub mark_at : (m : model.PresenceMark) (rest : List model.Record) (bytes : List ℕ) (have : HaveBytes (read_with packed_marks) (held (model.presence_mark m ∷ rest)) bytes) → bytes ≡ mark_byte m ∷ have.others
mark_at m rest bytes have = have.are ∙ ap (λ l. l ++ have.others) have.is_first

-- the bytes in front are those of the marks that were skipped
pub record AreMarks (bytes left : List ℕ) : Type 0 where
  pub passed : List model.PresenceMark
  pub are : bytes ≡ flat_map (λ m. packed_marks m) passed ++ left

mark_of : (byte : ℕ) → is_mark_byte byte ≡ true → (m : model.PresenceMark) × (byte ≡ mark_byte m)
mark_of byte is =
    let low : 16 ≤ byte = leb-true 16 byte (and_parts (nat_le 16 byte) (nat_le byte 20) is).0 in
    let high : byte ≤ 20 = leb-true byte 20 (and_parts (nat_le 16 byte) (nat_le byte 20) is).1 in
    by (eqb byte 16) (eqb byte 17) (eqb byte 18) (eqb byte 19) refl refl refl refl low high
  where
    by : (a b c d : Bool) → eqb byte 16 ≡ a → eqb byte 17 ≡ b → eqb byte 18 ≡ c → eqb byte 19 ≡ d → 16 ≤ byte → byte ≤ 20 → (m : model.PresenceMark) × (byte ≡ mark_byte m)
    by true b c d p q r s low high = (present in_root CHOICE, eqb-true byte 16 p)
    by false true c d p q r s low high = (absent in_root CHOICE, eqb-true byte 17 q)
    by false false true d p q r s low high = (group_start no_table, eqb-true byte 18 r)
    by false false false true p q r s low high = (group_absent no_table, eqb-true byte 19 s)
    by false false false false p q r s low high = (group_end, omega (arith, low, high, eqb-false byte 16 p, eqb-false byte 17 q, eqb-false byte 18 r, eqb-false byte 19 s))

pub marks_in_front : (bytes : List ℕ) → AreMarks bytes (marks_skipped bytes)
marks_in_front [] = record { passed = []; are = refl }
marks_in_front (byte ∷ bytes) = by (is_mark_byte byte) refl (marks_in_front bytes)
  where
    by : (b : Bool) → is_mark_byte byte ≡ b → AreMarks bytes (marks_skipped bytes) → AreMarks (byte ∷ bytes) (if b then marks_skipped bytes else byte ∷ bytes)
    by false is later = record { passed = []; are = refl }
    by true is later =
        let m = mark_of byte is in
        record { passed = m.0 ∷ later.passed; are = ap (λ k. k ∷ bytes) m.1 ∙ ap (λ l. mark_byte m.0 ∷ l) later.are }
