-- The names of operations, in words.
use Rattle.std.specs.Prelude.{ℕ, ◌==◌, List, [], ◌∷◌, None, Option, Some, codes, if◌then◌else◌}
use Rattle.asn1_tags.specs.declared.classes.Class.{Class}
use Rattle.asn1_tags.specs.declared.classes.Class.TheVariants.{Universal, Application, Context, Private}
use Rattle.asn1_tags.specs.declared.tags.Tag.{Tag}

-- the name in the first row of a number
abbrev pub name_in : List (ℕ × List ℕ) → ℕ → Option (List ℕ)
name_in [] number = None
name_in (row ∷ rows) number = if number == row.0 then Some row.1 else name_in rows number

-- the operations by the numbers of their tags (RFC 4511, 4.2 to 4.13)
abbrev pub operations : List (ℕ × List ℕ)
operations =
    (0, codes "bind request") ∷ (1, codes "bind response") ∷ (2, codes "unbind request") ∷
    (3, codes "search request") ∷ (4, codes "search entry") ∷ (5, codes "search done") ∷
    (6, codes "modify request") ∷ (7, codes "modify response") ∷
    (8, codes "add request") ∷ (9, codes "add response") ∷
    (10, codes "delete request") ∷ (11, codes "delete response") ∷
    (12, codes "modify DN request") ∷ (13, codes "modify DN response") ∷
    (14, codes "compare request") ∷ (15, codes "compare response") ∷
    (16, codes "abandon request") ∷ (19, codes "search reference") ∷
    (23, codes "extended request") ∷ (24, codes "extended response") ∷
    (25, codes "intermediate response") ∷ []

-- the name of an operation by the class and the number of its tag, which is of class application
abbrev pub name_of_class : Class → ℕ → Option (List ℕ)
name_of_class Application number = name_in operations number
name_of_class Universal number = None
name_of_class Context number = None
name_of_class Private number = None

-- the name of the operation of this tag
abbrev pub operation_name : Tag → Option (List ℕ)
operation_name tag = name_of_class tag.class tag.value
