-- The first tags of lists of records that follow one another.
use Rattle.std.specs.Prelude.{◌≡◌, Bool, true, false, ◌&&◌, List, [], ◌∷◌, ◌++◌, refl}
use Rattle.std.proofs.Common.{ap, sym, ◌∙◌, subst, cond}
use Rattle.std.proofs.lemmas.Bool.{and_parts}
use Rattle.asn1_tags.specs.declared.tags.Tag.{Tag}
use Rattle.asn1_model.specs.Records.{Record, Side, scalar, scope, open_type, presence_mark, present, is_presence_mark, presence_marks_alone}
use Rattle.asn1_model.specs.Tags.{Tags, every, among, Has, LiesIn, IsOneRecord, BeginsWithin, head_tag, first_of, first_tag, first_tags, record_tags}
use Rattle.asn1_model.proofs.TagSets.{only_has}

false_and : (a b : Bool) → a ≡ false → (a && b) ≡ false
false_and a b h = ap (λ x. x && b) h

pub one_begins : (tags : Tags) (rs : List Record) → IsOneRecord tags rs → BeginsWithin tags rs
one_begins tags rs one = record {
  some = ap presence_marks_alone one.alone ∙ false_and (is_presence_mark one.item) true one.no_mark;
  within = one.within;
}

pub present_begins : (tags : Tags) (side : Side) (t : Tag) (rs : List Record) → IsOneRecord tags rs → BeginsWithin tags (presence_mark (present side t) ∷ rs)
present_begins tags side t rs one = let b = one_begins tags rs one in record { some = b.some; within = b.within }

-- marks are passed over
pub first_passes : (rs rest : List Record) → presence_marks_alone rs ≡ true → first_tags (rs ++ rest) ≡ first_tags rest
first_passes [] rest h = refl
first_passes (r ∷ rs) rest h =
    let p = and_parts (is_presence_mark r) (presence_marks_alone rs) h in
    ap (λ b. cond b (first_tags (rs ++ rest)) (record_tags r)) p.0 ∙ first_passes rs rest p.1

picked : (b alone : Bool) (A B C : Tags) → (b && alone) ≡ false → (alone ≡ false → A ≡ B) → cond b A C ≡ cond b B C
picked true alone A B C h f = f h
picked false alone A B C h f = refl

-- records after one that is no mark do not matter
pub first_stays : (rs rest : List Record) → presence_marks_alone rs ≡ false → first_tags (rs ++ rest) ≡ first_tags rs
first_stays [] rest h = cc
first_stays (r ∷ rs) rest h = picked (is_presence_mark r) (presence_marks_alone rs) (first_tags (rs ++ rest)) (first_tags rs) (record_tags r) h (first_stays rs rest)

pub alone_append : (rs ss : List Record) → presence_marks_alone (rs ++ ss) ≡ (presence_marks_alone rs && presence_marks_alone ss)
alone_append [] ss = refl
alone_append (r ∷ rs) ss = elim (is_presence_mark r) as (λ b. (b && presence_marks_alone (rs ++ ss)) ≡ (b && presence_marks_alone rs && presence_marks_alone ss)) [ true ↦ alone_append rs ss | false ↦ refl ]

pub begins_before : (tags : Tags) (rs rest : List Record) → BeginsWithin tags rs → BeginsWithin tags (rs ++ rest)
begins_before tags rs rest h = record {
  some = alone_append rs rest ∙ false_and (presence_marks_alone rs) (presence_marks_alone rest) h.some;
  within = subst (λ a. LiesIn a tags) (sym (first_stays rs rest h.some)) h.within;
}

-- a record that lies in some tags begins with one of them
record_has : (ts : List Tag) (r : Record) → is_presence_mark r ≡ false → LiesIn (record_tags r) (among ts) → Has (among ts) (first_of (record_tags r))
record_has ts (scalar t c n x) no_mark within = within t (only_has t)
record_has ts (scope h rs) no_mark within = within (head_tag h) (only_has (head_tag h))
record_has ts (open_type n bytes) no_mark within = absurd within
record_has ts (presence_mark m) no_mark within = cc

-- and so does a list that is one record
pub one_has : (tags : Tags) (rs : List Record) → IsOneRecord tags rs → Has tags (first_tag rs)
one_has every rs one = tt
one_has (among ts) rs one =
    let first : first_tags rs ≡ record_tags one.item = ap first_tags one.alone ∙ ap (λ b. cond b (among []) (record_tags one.item)) one.no_mark in
    subst (λ a. Has (among ts) (first_of a)) (sym first) (record_has ts one.item one.no_mark (subst (λ a. LiesIn a (among ts)) first one.within))
