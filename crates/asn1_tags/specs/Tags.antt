-- Classes and tags: their numbers, their order, their texts, and lists of them.
use Rattle.std.specs.Prelude.{◌≡◌, ◌≢◌, ◌⊎◌, ◌<◌, ◌≤◌, ℕ, Bool, true, ◌&&◌, ◌==◌, not, if◌then◌else◌, fold, position, Option, List, [], ◌∷◌, ◌++◌, codes, All, Contains}
use Rattle.std.specs.List.{list_any}
use Rattle.std.specs.Fmt.{decimal}
use Rattle.std.specs.declared.cmp.Ordering.{Ordering}
use Rattle.std.specs.Ordering.{nat_cmp, on, then_cmp, is_lt}
use Rattle.asn1_tags.specs.declared.classes.Class.{Class}
use Rattle.asn1_tags.specs.declared.classes.Class.TheVariants.{Universal, Application, Context, Private}
use Rattle.asn1_tags.specs.declared.tags.Tag.{Tag}

-- the number of a class, in the order in which X.680 lists the classes
abbrev pub class_number : Class → ℕ
class_number Universal = 0
class_number Application = 1
class_number Context = 2
class_number Private = 3

-- The canonical order of tags (X.680, 8.6): that of the pairs of class and number.
abbrev pub tag_cmp : Tag → Tag → Ordering
tag_cmp = then_cmp (on (λ t. class_number t.class) nat_cmp) (on (λ t. t.value) nat_cmp)

-- The first tag is at most the second: its class is the lower one, or the classes agree and its number is not above the other.
abbrev pub IsAtMost : Tag → Tag → Type 0
IsAtMost s t = (class_number s.class < class_number t.class) ⊎ ((class_number s.class ≡ class_number t.class) × (s.value ≤ t.value))

-- whether two tags agree in class and number
abbrev pub tag_eq : Tag → Tag → Bool
tag_eq s t = (class_number s.class == class_number t.class) && (s.value == t.value)

-- whether the tag is among these
abbrev pub has : Tag → List Tag → Bool
has t ts = list_any (λ s. tag_eq s t) ts

-- the first index of the tag among these
abbrev pub position_of : Tag → List Tag → Option ℕ
position_of t ts = position (λ s. tag_eq s t) ts

-- whether no tag occurs twice among these
abbrev pub distinct : List Tag → Bool
distinct [] = true
distinct (t ∷ ts) = not (has t ts) && distinct ts

-- Some tag is in both lists.
pub record HaveCommonTag (ts us : List Tag) : Type 0 where
  pub tag : Tag
  pub in_first : Contains ts tag
  pub in_second : Contains us tag

-- the greatest tag of all, which serves as the smallest of no tags
abbrev pub greatest : Tag
greatest = record { class = Private; value = 4294967295 }

-- the lesser of two tags
abbrev pub lesser : Tag → Tag → Tag
lesser s t = if is_lt (tag_cmp t s) then t else s

-- the smallest of the tags, and the greatest of all if there is none
abbrev pub smallest : List Tag → Tag
smallest [] = greatest
smallest (t ∷ ts) = fold lesser t ts

-- The tag is the smallest of these: one of them, and at most each of them. With no tags it is the greatest of all.
pub record IsSmallest (ts : List Tag) (t : Tag) : Type 0 where
  pub among : ts ≢ [] → Contains ts t
  pub least : All (IsAtMost t) ts
  pub none : ts ≡ [] → t ≡ greatest

-- the text of a class
abbrev pub class_text : Class → List ℕ
class_text Universal = codes "universal"
class_text Application = codes "application"
class_text Context = codes "context"
class_text Private = codes "private"

-- a class as it comes before a tag's number
abbrev pub class_name : Class → List ℕ
class_name Universal = codes "Universal"
class_name Application = codes "Application"
class_name Context = codes "Context"
class_name Private = codes "Private"

-- the text of a tag, as in `Context 0`
abbrev pub tag_text : Tag → List ℕ
tag_text t = class_name t.class ++ codes " " ++ decimal t.value
