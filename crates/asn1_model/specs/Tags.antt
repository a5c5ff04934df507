-- The tags with which a list of records can begin.
use Rattle.std.specs.Prelude.{◌≡◌, ℕ, ⊤, false, List, [], ◌∷◌, Contains, if◌then◌else◌}
use Rattle.asn1_tags.specs.declared.tags.Tag.{Tag}
use Rattle.asn1_tags.specs.declared.classes.Class.TheVariants.{Universal, Application, Context, Private}
use Rattle.asn1_tags.specs.Tags.{tag_eq}
use Rattle.asn1_tags.specs.Trees.{Tree, leaves, is_open}
use Rattle.asn1_model.specs.Records.{Record, scalar, scope, open_type, presence_mark, is_presence_mark, presence_marks_alone, Head, sequence, set, sequence_of, set_of, explicit_tag, alternative}

-- a tag that X.680 assigns to a type of its own (8.4, table 1)
abbrev pub universal : ℕ → Tag
universal n = record { class = Universal; value = n }

-- a tag that a component gives its type by a number alone (31.1)
abbrev pub context : ℕ → Tag
context n = record { class = Context; value = n }

-- [APPLICATION n]: a tag that one application, or one other standard, assigns (8.3)
abbrev pub application : ℕ → Tag
application n = record { class = Application; value = n }

-- [PRIVATE n]: a tag that one enterprise assigns (8.3)
abbrev pub private : ℕ → Tag
private n = record { class = Private; value = n }

-- the CHOICE marker tag: a CHOICE under it is untagged
abbrev pub CHOICE : Tag
CHOICE = universal 0

-- the tag is one that a type can have, and not the CHOICE marker tag
abbrev pub IsATag : Tag → Type 0
IsATag t = tag_eq t CHOICE ≡ false

-- every tag, or those of a list
pub data Tags : Type 0 where
  every : Tags
  among : List Tag → Tags

-- a tag alone
abbrev pub only : Tag → Tags
only t = among (t ∷ [])

-- The tags of a tree are its leaves. If it contains a choice of nothing, they are every tag: an open type can begin
-- with any (X.680, 25.6.2).
abbrev pub tree_tags : Tree → Tags
tree_tags tree = if is_open tree then every else among (leaves tree)

-- the tag is one of these
abbrev pub Has : Tags → Tag → Type 0
Has every t = ⊤
Has (among ts) t = Contains ts t

-- each tag of the first is in the second; every tag lies in every tag alone
abbrev pub LiesIn : Tags → Tags → Type 0
LiesIn every every = ⊤
LiesIn every (among us) = ⊥
LiesIn (among ts) b = (t : Tag) → Contains ts t → Has b t

-- the tag of a record that holds others: an alternative has that of what was chosen
abbrev pub head_tag : Head → Tag
head_tag (sequence t table n) = t
head_tag (set t table n) = t
head_tag (sequence_of t c n) = t
head_tag (set_of t c n) = t
head_tag (explicit_tag t n) = t
head_tag (alternative t c table n) = t

-- the head has this tag as that of its own record, and so is no alternative
abbrev pub HasOwnTag : Tag → Head → Type 0
HasOwnTag u (sequence t table n) = t ≡ u
HasOwnTag u (set t table n) = t ≡ u
HasOwnTag u (sequence_of t c n) = t ≡ u
HasOwnTag u (set_of t c n) = t ≡ u
HasOwnTag u (explicit_tag t n) = t ≡ u
HasOwnTag u (alternative t c table n) = ⊥

-- the tags with which a record can begin: its own, for a value as its bytes every tag, for a presence mark none
abbrev pub record_tags : Record → Tags
record_tags (scalar t c n x) = only t
record_tags (scope h rs) = only (head_tag h)
record_tags (open_type n bytes) = every
record_tags (presence_mark m) = among []

-- the first tags of a list are those of its first record; presence marks are passed over
abbrev pub first_tags : List Record → Tags
first_tags [] = among []
first_tags (r ∷ rs) = if is_presence_mark r then first_tags rs else record_tags r

-- the first of a list of tags, or the CHOICE marker tag
abbrev pub first_of : Tags → Tag
first_of every = CHOICE
first_of (among []) = CHOICE
first_of (among (t ∷ ts)) = t

-- the tag with which a list begins, or the CHOICE marker tag where it can be any
abbrev pub first_tag : List Record → Tag
first_tag rs = first_of (first_tags rs)

-- an alternative has the first tag of what is inside
abbrev pub HoldsItsTag : Head → List Record → Type 0
HoldsItsTag (sequence t table n) rs = ⊤
HoldsItsTag (set t table n) rs = ⊤
HoldsItsTag (sequence_of t c n) rs = ⊤
HoldsItsTag (set_of t c n) rs = ⊤
HoldsItsTag (explicit_tag t n) rs = ⊤
HoldsItsTag (alternative t c table n) rs = first_tag rs ≡ t

-- The list is one record, which is no presence mark, and its first tags lie in these.
pub record IsOneRecord (tags : Tags) (rs : List Record) : Type 0 where
  pub item : Record
  pub alone : rs ≡ item ∷ []
  pub no_mark : is_presence_mark item ≡ false
  pub within : LiesIn (first_tags rs) tags

-- The list has a record that is no presence mark, and the first tags lie in these.
pub record BeginsWithin (tags : Tags) (rs : List Record) : Type 0 where
  pub some : presence_marks_alone rs ≡ false
  pub within : LiesIn (first_tags rs) tags

-- no tag is one of both
abbrev pub ShareNone : Tags → Tags → Type 0
ShareNone a b = (t : Tag) → Has a t → Has b t → ⊥
