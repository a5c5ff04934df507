-- For the law of types: why a value is one record, which begins with one of the tags of its type.
use Rattle.std.specs.Prelude.{◌≡◌, zero, suc, Bool, true, false, List, [], ◌∷◌, Contains, refl, if◌then◌else◌}
use Rattle.std.proofs.Common.{arith, subst, sym}
use Rattle.asn1_tags.specs.declared.tags.Tag.{Tag}
use Rattle.asn1_tags.specs.Tags.{tag_eq}
use Rattle.asn1_tags.specs.Trees.{Tree, leaf}
use Rattle.asn1_model.specs.ConstraintSets.{ConstraintSet}
use Rattle.asn1_model.specs.Records.{Name, name_or, Content, Head, Record, scalar, holding, explicit_tag, alternative, sequence, set, sequence_of, set_of}
use Rattle.asn1_model.specs.Composites.{alternative_records, explicit_tag_records, choice_records}
use Rattle.asn1_model.specs.RecordTables.{Row, Table}
use Rattle.asn1_model.specs.Tags.{CHOICE, Tags, Has, HasOwnTag, LiesIn, IsOneRecord, only, head_tag, tree_tags}

-- a content
pub scalar_is_one : (t : Tag) (c : ConstraintSet) (n : Name) (x : Content) → IsOneRecord (only t) (scalar t c n x ∷ [])
scalar_is_one t c n x = record { item = scalar t c n x; alone = refl; no_mark = refl; within = λ _ h. h }

-- the tag of a head that has it as its own
own_tag : (t : Tag) (head : Head) → HasOwnTag t head → head_tag head ≡ t
own_tag u (sequence t table n) at = at
own_tag u (set t table n) at = at
own_tag u (sequence_of t c n) at = at
own_tag u (set_of t c n) at = at
own_tag u (explicit_tag t n) at = at
own_tag u (alternative t c table n) at = absurd at

-- a record that holds others, whose head has the tag
pub scope_is_one : (t : Tag) (head : Head) (inside : List Record) → HasOwnTag t head → IsOneRecord (only t) (holding head inside ∷ [])
scope_is_one t head inside at = record {
  item = holding head inside;
  alone = refl;
  no_mark = refl;
  within = subst (λ u. LiesIn (only u) (only t)) (sym (own_tag t head at)) (λ _ h. h);
}

-- the only element of a list of one tag is that tag
pub alone_in : (t u : Tag) → Contains (t ∷ []) u → t ≡ u
alone_in t u (zero, below, same) = same
alone_in t u (suc k, below, same) = absurd (omega arith)

-- a tag that is among others lies in them
pub only_in : (tags : Tags) (t : Tag) → Has tags t → LiesIn (only t) tags
only_in tags t h u e = subst (Has tags) (alone_in t u e) h

-- a CHOICE, which begins with the chosen tag, or with the explicit tag before it
pub choice_is_one : (tree : Tree) (chosen : Tag) (table : Table Row) (rs : List Record)
    (own_constraints : ConstraintSet)
    (own_name : Name) →
    Has (tree_tags tree) chosen → (t : Tag) (c : ConstraintSet) (n : Name) →
    IsOneRecord (tree_tags (if tag_eq t CHOICE then tree else leaf t)) (choice_records chosen table rs own_constraints own_name t c n)
choice_is_one tree chosen table rs own_constraints own_name among_tags t c n = by_tag
    (tag_eq t CHOICE)
  where
    by_tag : (untagged : Bool) →
        IsOneRecord
        (tree_tags (if untagged then tree else leaf t))
        (if untagged
        then alternative_records chosen c table (name_or n own_name) rs
        else explicit_tag_records t (name_or n own_name) (alternative_records chosen own_constraints table own_name rs))
    by_tag true = record {
      item = holding (alternative chosen c table (name_or n own_name)) rs;
      alone = refl;
      no_mark = refl;
      within = only_in (tree_tags tree) chosen among_tags;
    }
    by_tag false = scope_is_one t (explicit_tag t (name_or n own_name))
        (alternative_records chosen own_constraints table own_name rs) refl
