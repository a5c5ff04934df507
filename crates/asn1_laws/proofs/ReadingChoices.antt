-- How a CHOICE is read by functions of its own: one that opens it, reads the chosen alternative and closes it, and one that does so
-- after a tag.
use Rattle.std.proofs.Common.{◌≡◌, ◌≤◌, ◌+◌, ◌++◌, ℕ, Bool, false, suc, List, [], ◌∷◌, Result, Ok, Err, inl, inr, refl, arith, ap, sym, ◌∙◌, subst}
use Rattle.std.specs.Prelude.{None, Some, ⊤, true, if◌then◌else◌}
use Rattle.asn1_components.specs.Alternatives.{Alternative, Alternatives, OneOf, CanBeChosen, Each, HaveDistinctTags, ValueMeaning, all_of, chosen, chosen_meaning, table_of}
use Rattle.asn1_components.specs.ChoiceTypes.{AgreesWithChoice}
use Rattle.asn1_components.specs.ChosenTags.{SelectsSameAlternative, chosen_has_own, chosen_is_one, chosen_tag, selects_chosen}
use Rattle.asn1_laws.proofs.ReadingAlternatives.{as_tagged, as_untagged}
use Rattle.asn1_laws.proofs.ReadingSteps.{fails_inside, flat_failure, not_opened, to_end, within_scope}
use Rattle.asn1_laws.specs.Reading.{Remaining, KeepsDepth, AfterReading, MayFail, HasAdvanced, Outside, Reader, ReadsBack, ReadsValue}
use Rattle.asn1_laws.specs.ReadingTypes.{ReadsAlternative, ReadsHeadOfChoice}
use Rattle.asn1_laws.specs.declared.decode_error.DecodeError.{DecodeError}
use Rattle.asn1_laws.specs.declared.decode_error.DecodeError.TheVariants.{Failed}
use Rattle.asn1_model.specs.Composites.{alternative_records}
use Rattle.asn1_model.specs.ConstraintSets.{ConstraintSet}
use Rattle.asn1_model.specs.Meaning.{Meaning}
use Rattle.asn1_model.specs.Records.{Head, Name, Record, alternative, highest, holding, is_presence_mark, name_or, explicit_tag, open_type, presence_mark, scalar, scope}
use Rattle.asn1_model.specs.Tags.{CHOICE, Has, IsOneRecord, LiesIn, among, every, first_of, first_tag, first_tags, only, record_tags, tree_tags}
use Rattle.asn1_tags.specs.Tags.{tag_eq}
use Rattle.asn1_tags.specs.Trees.{Tree, is_open, leaves}
use Rattle.asn1_tags.specs.declared.tags.Tag.{Tag}

-- a name, or the same where there is none
own_name : (n : Name) → name_or n n ≡ n
own_name None = refl
own_name (Some text) = refl

-- a record that is no value of an open type begins with one tag alone
with_one_tag : (ts : List Tag) (r : Record) → is_presence_mark r ≡ false → LiesIn (record_tags r) (among ts) → LiesIn (record_tags r) (only (first_of (record_tags r)))
with_one_tag ts (scalar t c n x) no_mark within = λ u has. has
with_one_tag ts (scope h rs) no_mark within = λ u has. has
with_one_tag ts (open_type n bytes) no_mark within = absurd within
with_one_tag ts (presence_mark m) no_mark within = cc

begins_with_first : (tree : Tree) (rs : List Record) → is_open tree ≡ false → IsOneRecord (tree_tags tree) rs → IsOneRecord (only (first_tag rs)) rs
begins_with_first tree rs closed one =
    let first : first_tags rs ≡ record_tags one.item = ap first_tags one.alone ∙ ap (λ b. if b then among [] else record_tags one.item) one.no_mark in
    let tags : tree_tags tree ≡ among (leaves tree) = ap (λ b. if b then every else among (leaves tree)) closed in
    let within : LiesIn (record_tags one.item) (among (leaves tree)) = subst (λ a. LiesIn a (among (leaves tree))) first (subst (λ a. LiesIn (first_tags rs) a) tags one.within) in
    record {
      item = one.item;
      alone = one.alone;
      no_mark = one.no_mark;
      within = subst (λ a. LiesIn a (only (first_of a))) (sym first) (with_one_tag (leaves tree) one.item one.no_mark within);
    }

-- the chosen alternative is no open type
chosen_is_closed : (alts : List Alternative) → Each CanBeChosen alts → (x : OneOf alts) → is_open (chosen alts x).type.tree ≡ false
chosen_is_closed [] can x = absurd x
chosen_is_closed (a ∷ alts) can (inl w) = can.0.1
chosen_is_closed (a ∷ alts) can (inr x) = chosen_is_closed alts can.1 x

-- what a CHOICE holds is one record, which begins with the chosen tag
pub held_is_one : (alts : List Alternative) → Each CanBeChosen alts → (x : OneOf alts) → IsOneRecord (only (chosen_tag alts x)) (chosen_meaning alts x).records
held_is_one alts can x = begins_with_first (chosen alts x).type.tree (chosen_meaning alts x).records (chosen_is_closed alts can x) (chosen_is_one alts can x)

module _ {D V : Type 0} (R : Reader D) {m : Meaning V} {alts : Alternatives} {pick : V → OneOf (all_of alts)} (eq : V → V → Bool) (law : AgreesWithChoice alts pick m) where
  -- the record of the chosen alternative, and the head of the one around it
  abbrev held : V → List Record
  held v = (chosen_meaning (all_of alts) (pick v)).records

  abbrev first : V → Tag
  first v = chosen_tag (all_of alts) (pick v)

  abbrev head : ConstraintSet → Name → V → Head
  head c n v = alternative (first v) c (table_of alts) n

  -- the tag that was answered is one with which the chosen alternative can begin
  its_tag : (v : V) → Each CanBeChosen (all_of alts) → (tag : Tag) → SelectsSameAlternative (first v) tag (all_of alts) → Has (tree_tags (chosen (all_of alts) (pick v)).type.tree) tag
  its_tag v can tag tells = selects_chosen (all_of alts) (pick v) (first v) tag tells (chosen_has_own (all_of alts) can (pick v))

  -- the CHOICE was not opened
  pub choice_not_opened : (c : ConstraintSet) (old new : D) {e : DecodeError} → ReadsHeadOfChoice R c alts old new (Err e) → ReadsValue R m eq CHOICE c old new (Err e)
  choice_not_opened c old new {e} opens =
      as_untagged R m alts pick eq CHOICE c old new (Err e) law refl (λ v n rest outer distinct can of_type valid at.
      not_opened (head c n v) (held v) (R.depth_left old) (opens (first v) distinct can n (held v) rest outer (held_is_one (all_of alts) can (pick v)) at))

  -- the innermost scope was not closed, or it was
  abbrev pub EndNotRead : D → DecodeError → Type 0
  EndNotRead end e = (h : Head) (rest : List Record) (outer : Outside) → R.remains end ([], (h, rest) ∷ outer) → MayFail (R.depth_left end) 0 e

  abbrev pub EndRead : D → D → Type 0
  EndRead end new = (h : Head) (rest : List Record) (outer : Outside) → R.remains end ([], (h, rest) ∷ outer) → HasAdvanced R end new 0 (rest, outer) ⊤

  -- what follows the tag was not opened, or it was
  abbrev pub TagNotOpened : Tag → D → DecodeError → Type 0
  TagNotOpened t old e = (n : Name) (items rest : List Record) (outer : Outside) → R.remains old (holding (explicit_tag t n) items ∷ rest, outer) → MayFail (R.depth_left old) 1 e

  abbrev pub TagOpened : Tag → D → D → Type 0
  TagOpened t old mid = (n : Name) (items rest : List Record) (outer : Outside) → R.remains old (holding (explicit_tag t n) items ∷ rest, outer) → HasAdvanced R old mid 1 (items, (explicit_tag t n, rest) ∷ outer) ⊤

  -- the chosen alternative was not read
  pub alternative_not_read : (c : ConstraintSet) (old mid end new : D) (tag : Tag) {e : DecodeError} → ReadsHeadOfChoice R c alts old mid (Ok tag) → R.depth_left old ≡ suc (R.depth_left mid) →
      ReadsAlternative R tag alts pick eq mid end (Err e) → ReadsValue R m eq CHOICE c old new (Err e)
  alternative_not_read c old mid end new tag {e} opens less reads =
      as_untagged R m alts pick eq CHOICE c old new (Err e) law refl (λ v n rest outer distinct can of_type valid at.
      let s = opens (first v) distinct can n (held v) rest outer (held_is_one (all_of alts) can (pick v)) at in
      let r = reads v [] ((head c n v, rest) ∷ outer) distinct can of_type valid (its_tag v can tag s.answer) (to_end R mid (held v) ((head c n v, rest) ∷ outer) s.at) in
      fails_inside (head c n v) (held v) _ _ less r)

  -- the CHOICE was not closed
  pub choice_not_closed : (c : ConstraintSet) (old mid end new : D) (tag : Tag) {w : V} {e : DecodeError} → ReadsHeadOfChoice R c alts old mid (Ok tag) →
      ReadsAlternative R tag alts pick eq mid end (Ok w) → EndNotRead end e → ReadsValue R m eq CHOICE c old new (Err e)
  choice_not_closed c old mid end new tag {w} {e} opens reads closes =
      as_untagged R m alts pick eq CHOICE c old new (Err e) law refl (λ v n rest outer distinct can of_type valid at.
      let s = opens (first v) distinct can n (held v) rest outer (held_is_one (all_of alts) can (pick v)) at in
      let r = reads v [] ((head c n v, rest) ∷ outer) distinct can of_type valid (its_tag v can tag s.answer) (to_end R mid (held v) ((head c n v, rest) ∷ outer) s.at) in
      flat_failure _ _ _ (closes (head c n v) rest outer r.at))

  -- the CHOICE was read
  pub choice_read : (c : ConstraintSet) (old mid end new : D) (tag : Tag) {w : V} → ReadsHeadOfChoice R c alts old mid (Ok tag) → R.depth_left old ≡ suc (R.depth_left mid) →
      ReadsAlternative R tag alts pick eq mid end (Ok w) → EndRead end new → ReadsValue R m eq CHOICE c old new (Ok w)
  choice_read c old mid end new tag {w} opens less reads closes =
      as_untagged R m alts pick eq CHOICE c old new (Ok w) law refl (λ v n rest outer distinct can of_type valid at.
      let s = opens (first v) distinct can n (held v) rest outer (held_is_one (all_of alts) can (pick v)) at in
      let r = reads v [] ((head c n v, rest) ∷ outer) distinct can of_type valid (its_tag v can tag s.answer) (to_end R mid (held v) ((head c n v, rest) ∷ outer) s.at) in
      let k = closes (head c n v) rest outer r.at in
      record { answer = r.answer; at = k.at; within_depth_left = within_scope (head c n v) (held v) _ _ less r.within_depth_left })

  -- under the CHOICE marker tag it is read without a tag
  pub as_without_tag : (t : Tag) (c : ConstraintSet) (old new : D) (result : Result V DecodeError) → t ≡ CHOICE → ReadsValue R m eq CHOICE c old new result → ReadsValue R m eq t c old new result
  as_without_tag t c old new result is reads = subst (λ u. ReadsValue R m eq u c old new result) (sym is) reads

  -- after a tag it has its own constraints and its own name
  abbrev own : V → List Record
  own v = alternative_records (first v) m.constraints (table_of alts) m.name (held v)

  inside_tag : (mid end : D) (result : Result V DecodeError) → ReadsValue R m eq CHOICE m.constraints mid end result →
      (v : V) (outer : Outside) → HaveDistinctTags (all_of alts) → Each CanBeChosen (all_of alts) →
      (chosen_meaning (all_of alts) (pick v)).IsOfType → (chosen_meaning (all_of alts) (pick v)).IsValid R.accepts →
      ReadsBack R mid end (own v) [] outer (λ w. eq w v ≡ true) result
  inside_tag mid end result reads v outer distinct can of_type valid =
      subst (λ rs. ReadsBack R mid end rs [] outer (λ w. eq w v ≡ true) result)
      (law.records v CHOICE m.constraints m.name ∙ ap (λ n. alternative_records (first v) m.constraints (table_of alts) n (held v)) (own_name m.name))
      (reads v m.name [] outer ((law.distinct_tags CHOICE).1 (distinct, can)) ((law.of_type v).1 of_type) ((law.valid R.accepts v).1 valid) (inl law.single))

  -- the tag was not read
  pub tag_not_read : (t : Tag) (c : ConstraintSet) (old new : D) {e : DecodeError} → tag_eq t CHOICE ≡ false → TagNotOpened t old e →
      ReadsValue R m eq t c old new (Err e)
  tag_not_read t c old new {e} under opens =
      as_tagged R m alts pick eq t c old new (Err e) law under (λ v n rest outer distinct can of_type valid at.
      not_opened (explicit_tag t n) (own v) (R.depth_left old) (opens n (own v) rest outer at))

  -- the CHOICE after it was not read
  pub choice_after_tag_not_read : (t : Tag) (c : ConstraintSet) (old mid end new : D) {e : DecodeError} → tag_eq t CHOICE ≡ false → TagOpened t old mid →
      R.depth_left old ≡ suc (R.depth_left mid) → ReadsValue R m eq CHOICE m.constraints mid end (Err e) → ReadsValue R m eq t c old new (Err e)
  choice_after_tag_not_read t c old mid end new {e} under opens less reads =
      as_tagged R m alts pick eq t c old new (Err e) law under (λ v n rest outer distinct can of_type valid at.
      let s = opens n (own v) rest outer at in
      fails_inside (explicit_tag t n) (own v) _ _ less
      (inside_tag mid end (Err e) reads v ((explicit_tag t n, rest) ∷ outer) distinct can of_type valid (to_end R mid (own v) ((explicit_tag t n, rest) ∷ outer) s.at)))

  -- the end of the CHOICE after it was not read
  pub choice_after_tag_not_closed : (t : Tag) (c : ConstraintSet) (old mid end new : D) {w : V} {e : DecodeError} → tag_eq t CHOICE ≡ false → TagOpened t old mid →
      ReadsValue R m eq CHOICE m.constraints mid end (Ok w) → EndNotRead end e → ReadsValue R m eq t c old new (Err e)
  choice_after_tag_not_closed t c old mid end new {w} {e} under opens reads closes =
      as_tagged R m alts pick eq t c old new (Err e) law under (λ v n rest outer distinct can of_type valid at.
      let s = opens n (own v) rest outer at in
      let r = inside_tag mid end (Ok w) reads v ((explicit_tag t n, rest) ∷ outer) distinct can of_type valid (to_end R mid (own v) ((explicit_tag t n, rest) ∷ outer) s.at) in
      flat_failure _ _ _ (closes (explicit_tag t n) rest outer r.at))

  -- the CHOICE after it was read
  pub choice_after_tag_read : (t : Tag) (c : ConstraintSet) (old mid end new : D) {w : V} → tag_eq t CHOICE ≡ false → TagOpened t old mid →
      R.depth_left old ≡ suc (R.depth_left mid) → ReadsValue R m eq CHOICE m.constraints mid end (Ok w) → EndRead end new → ReadsValue R m eq t c old new (Ok w)
  choice_after_tag_read t c old mid end new {w} under opens less reads closes =
      as_tagged R m alts pick eq t c old new (Ok w) law under (λ v n rest outer distinct can of_type valid at.
      let s = opens n (own v) rest outer at in
      let r = inside_tag mid end (Ok w) reads v ((explicit_tag t n, rest) ∷ outer) distinct can of_type valid (to_end R mid (own v) ((explicit_tag t n, rest) ∷ outer) s.at) in
      let k = closes (explicit_tag t n) rest outer r.at in
      record { answer = r.answer; at = k.at; within_depth_left = within_scope (explicit_tag t n) (own v) _ _ less r.within_depth_left })

-- An alternative: what its values are to the CHOICE, what it says of each of them, and that it alone can begin with the tag.
module _ {D V W : Type 0} (R : Reader D) (alts : Alternatives) (pick : V → OneOf (all_of alts)) (eq : V → V → Bool) (embed : W → V) (said : W → ValueMeaning)
    (says : (w : W) → chosen_meaning (all_of alts) (pick (embed w)) ≡ said w) (tag : Tag)
    (only : (v : V) → Has (tree_tags (chosen (all_of alts) (pick v)).type.tree) tag → (w : W) × (v ≡ embed w)) where
  -- what the chosen alternative says of the CHOICE
  same : (v : V) (o : (w : W) × (v ≡ embed w)) → chosen_meaning (all_of alts) (pick v) ≡ said o.0
  same v o = ap (λ u. chosen_meaning (all_of alts) (pick u)) o.1 ∙ says o.0

  -- it was not read
  pub chosen_not_read : (old new : D) {e : DecodeError} →
      ((w : W) (rest : List Record) (outer : Outside) → (said w).IsOfType → (said w).IsValid R.accepts → R.remains old ((said w).records ++ rest, outer) → MayFail (R.depth_left old) (highest (said w).records) e) →
      ReadsAlternative R tag alts pick eq old new (Err e)
  chosen_not_read old new {e} fails v rest outer distinct can of_type valid has at =
      let o = only v has in
      let is = same v o in
      subst (λ s. MayFail (R.depth_left old) (highest s.records) e) (sym is)
      (fails o.0 rest outer (subst (λ s. s.IsOfType) is of_type) (subst (λ s. s.IsValid R.accepts) is valid) (subst (λ s. R.remains old (s.records ++ rest, outer)) is at))

  -- it was read
  pub chosen_read : (old new : D) (v : V) →
      ((w : W) (rest : List Record) (outer : Outside) → (said w).IsOfType → (said w).IsValid R.accepts → R.remains old ((said w).records ++ rest, outer) → HasAdvanced R old new (highest (said w).records) (rest, outer) (eq v (embed w) ≡ true)) →
      ReadsAlternative R tag alts pick eq old new (Ok v)
  chosen_read old new v reads u rest outer distinct can of_type valid has at =
      let o = only u has in
      let is = same u o in
      let r = reads o.0 rest outer (subst (λ s. s.IsOfType) is of_type) (subst (λ s. s.IsValid R.accepts) is valid) (subst (λ s. R.remains old (s.records ++ rest, outer)) is at) in
      record {
        answer = subst (λ z. eq v z ≡ true) (sym o.1) r.answer;
        at = r.at;
        within_depth_left = subst (λ s. highest s.records ≤ R.depth_left old) (sym is) r.within_depth_left;
      }

-- The state that a separate reader leaves: its error makes the decoder failed.
pub leaves_kept : {D V : Type 0} (R : Reader D) (m : Meaning V) (t : Tag) (c : ConstraintSet) (old new : D) (result : Result V DecodeError) → KeepsDepth R old new result → AfterReading R m t c old new result
leaves_kept R m t c old new (Ok v) keeps = record {
  same_depth = keeps.same_depth;
  failed_as_before = keeps.no_failure ∙ sym (not_failed (R.failed old) keeps.failed_before);
  after_error = inl tt;
  failed_before = λ _. keeps.failed_before;
}
  where
    not_failed : (b : Bool) → (b ≡ true → Ok v ≡ Err Failed) → b ≡ false
    not_failed false failed_before = refl
    not_failed true failed_before = let wrong = failed_before refl in cc
leaves_kept R m t c old new (Err e) keeps = record {
  same_depth = tt;
  failed_as_before = tt;
  after_error = inl keeps.has_failed;
  failed_before = λ _. keeps.failed_before;
}
