-- The texts of answers.
use Rattle.std.specs.Prelude.{ℕ, ℤ, Bool, ◌++◌, if◌then◌else◌, codes, List, [], ◌∷◌, Option, Some, length, unwrap_or}
use Rattle.std.specs.Fmt.{decimal, signed_decimal}
use Rattle.std.specs.Option.{option_map_or}
use Rattle.asn1_ranges.specs.Text.{bound_text}
use Rattle.asn1_ranges.specs.declared.bounded.Bounded.{Bounded}
use Rattle.asn1_tags.specs.Tags.{distinct, smallest, tag_text}
use Rattle.asn1_tags.specs.declared.tags.Tag.{Tag}

-- a line of text: a word, a name or a number, and the verdict
abbrev pub named_line : List ℕ → List ℕ → List ℕ → List ℕ
named_line word name said = word ++ codes " " ++ name ++ codes ": " ++ said ++ 10 ∷ []

-- the text for a line that is not understood
abbrev pub refusal_text : ℕ → List ℕ
refusal_text number = named_line (codes "line") (decimal number) (codes "not understood")

-- the text of a verdict on a tree: whether no tag occurs twice, the smallest tag, and the number of leaves
abbrev pub verdict_of : Bool → Tag → ℕ → List ℕ
verdict_of unique tag count =
    (if unique then codes "unique" else codes "repeated")
    ++ codes ", smallest " ++ tag_text tag ++ codes ", " ++ decimal count ++ codes " leaves"

-- the verdict on a tree of these leaves
abbrev pub tree_verdict : List Tag → List ℕ
tree_verdict tags = verdict_of (distinct tags) (smallest tags) (length tags)

-- the text of what two bounds have in common
abbrev pub common_text : Option (Bounded ℤ) → List ℕ
common_text both = option_map_or (λ bound. unwrap_or (bound_text (λ number. Some (signed_decimal number)) bound) []) both (codes "nothing in common")
