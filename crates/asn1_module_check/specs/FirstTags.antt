-- The tags with which values of a type begin.
use Rattle.std.specs.Prelude.{ℕ, zero, suc, ◌+◌, ◌-◌, ◌*◌, ◌^◌, min, nat_lt, Bool, true, false, ◌||◌, if◌then◌else◌, List, [], ◌∷◌, ◌++◌, Option, None, Some, length, slice_get}
use Rattle.std.specs.List.{flat_map, list_any}
use Rattle.asn1_clash.specs.Flat.{flat_tree}
use Rattle.asn1_clash.specs.declared.flat_tree.FlatTree.{FlatTree}
use Rattle.asn1_module_check.specs.declared.first_tags.TheConstants.{MAX_TAGS}
use Rattle.asn1_notation.specs.declared.types.TagClass.{TagClass}
use Rattle.asn1_notation.specs.declared.types.TagClass.TheVariants.{Universal as of_x680, Application as of_application, Context as of_context, Private as of_enterprise}
use Rattle.asn1_resolved.specs.UniversalTags.{universal_number}
use Rattle.asn1_resolved.specs.declared.components.Alternative.{Alternative}
use Rattle.asn1_resolved.specs.declared.components.Alternatives.{Alternatives, out-Alternatives}
use Rattle.asn1_resolved.specs.declared.schema.Schema.{Schema}
use Rattle.asn1_resolved.specs.declared.schema.TypeDefinition.{TypeDefinition}
use Rattle.asn1_resolved.specs.declared.types.TypeKind.{TypeKind, Choice, Tagged', Reference}
use Rattle.asn1_tags.specs.Trees.{Tree}
use Rattle.asn1_tags.specs.declared.classes.Class.{Class}
use Rattle.asn1_tags.specs.declared.classes.Class.TheVariants.{Universal, Application, Context, Private}
use Rattle.asn1_tags.specs.declared.tags.Tag.{Tag}

-- the class of a tag
abbrev pub class_of : TagClass → Class
class_of of_x680 = Universal
class_of of_application = Application
class_of of_context = Context
class_of of_enterprise = Private

-- Tags, and whether any tag is among them.
pub record FirstTags : Type 0 where
  pub tags : List Tag
  pub is_any : Bool

-- any tag
abbrev pub any_tag : FirstTags
any_tag = record { tags = []; is_any = true }

-- the tag of this class and number
abbrev pub one_tag : Class → ℕ → FirstTags
one_tag class number = record { tags = (record { class = class; value = number }) ∷ []; is_any = false }

-- those of the first, and those of the second
abbrev pub both : FirstTags → FirstTags → FirstTags
both first second = record { tags = first.tags ++ second.tags; is_any = first.is_any || second.is_any }

-- those of each element
abbrev pub of_each : {A : Type 0} → (A → FirstTags) → List A → FirstTags
of_each first xs = record { tags = flat_map (λ x. (first x).tags) xs; is_any = list_any (λ x. (first x).is_any) xs }

-- the alternatives of a CHOICE
abbrev pub all_alternatives : Alternatives → List Alternative
all_alternatives alternatives = (out-Alternatives alternatives).root.items ++ (out-Alternatives alternatives).additions.items

-- the universal tag of this number; a type that has none is an open type
abbrev pub universal_tag : Option ℕ → FirstTags
universal_tag (Some number) = one_tag Universal number
universal_tag None = any_tag

-- those of a definition; a reference to none can begin with any
abbrev pub of_definition : (TypeKind → FirstTags) → Option TypeDefinition → FirstTags
of_definition first (Some defined) = first defined.definition.kind
of_definition first None = any_tag

-- the tag in front of a type, or else its universal tag (X.680, 8.4 and 31.2)
abbrev pub own_tag : TypeKind → FirstTags
own_tag (Tagged' tag at place kind constraints) = one_tag (class_of tag.class) tag.number
own_tag kind = universal_tag (universal_number kind)

-- the tags of a type, by those of the type to which it refers, or of its alternatives (X.680, 29.4)
abbrev pub first_by : Schema → (TypeKind → FirstTags) → TypeKind → FirstTags
first_by schema first (Reference index) = of_definition first (slice_get schema.types.items index)
first_by schema first (Choice alternatives) = of_each (λ alternative. first alternative.definition.kind) (all_alternatives alternatives)
first_by schema first kind = own_tag kind

-- the tags with which values of a type begin, if at most so many references and alternatives lead to each; else any
abbrev pub first_within : Schema → ℕ → TypeKind → FirstTags
first_within schema zero kind = any_tag
first_within schema (suc steps) kind = first_by schema (first_within schema steps) kind

-- whether there are too many tags to list
abbrev pub is_full : FirstTags → Bool
is_full first = first.is_any || nat_lt MAX_TAGS (length first.tags)

-- any tag, in place of too many
abbrev pub capped : FirstTags → FirstTags
capped first = if is_full first then any_tag else first

-- how many references and alternatives may lead from a type to a tag, in 64 bits
abbrev pub most_steps : Schema → ℕ
most_steps schema = min (length schema.types.items * 2 + 200) (2 ^ 64 - 1)

-- the tags with which values of a type begin
abbrev pub first_tags : Schema → TypeKind → FirstTags
first_tags schema kind = capped (first_within schema (most_steps schema) kind)

-- as a tree
abbrev pub tree_of : FirstTags → Tree
tree_of first = flat_tree first.tags first.is_any

-- the tags that are in a tree
abbrev pub seen : FlatTree → FirstTags
seen tree = record { tags = tree.tags.items; is_any = tree.has_empty_choice }
