-- Tags, trees, bounds and words, as they are written.
use Rattle.std.specs.Prelude.{ℕ, ℤ, ◌-◌, ◌&&◌, ◌==◌, zero, suc, if◌then◌else◌, codes, List, [], ◌∷◌, Option, Some, None, length, take, option_map, option_and_then}
use Rattle.std.specs.Option.{option_map_or}
use Rattle.std.specs.Str.{bytes_eq}
use Rattle.std.specs.Io.BufRead.{ends_with_byte}
use Rattle.asn1_tags.specs.Trees.{Tree, Trees, leaf, choice, none, more}
use Rattle.asn1_tags.specs.declared.classes.Class.{Class}
use Rattle.asn1_tags.specs.declared.classes.Class.TheVariants.{Universal, Application, Context, Private}
use Rattle.asn1_tags.specs.declared.tags.Tag.{Tag}
use Rattle.asn1_ranges.specs.declared.bounded.Bounded.{Bounded}
use Rattle.asn1_ranges.specs.declared.bounded.Bounded.TheVariants as bounded
use Rattle.asn1_fields.specs.declared.presence.FieldPresence.{FieldPresence}
use Rattle.asn1_fields.specs.declared.presence.FieldPresence.TheVariants.{Required, Optional, Default}
use Rattle.asn1_report.specs.declared.table_kind.TableKind.{TableKind}
use Rattle.asn1_report.specs.declared.table_kind.TableKind.TheVariants.{Sequence, Set}
use Rattle.asn1_report.specs.NamesAndNumbers.{number_of, integer_of}
use Rattle.asn1_report.specs.Elements.{elements_of}
use Rattle.asn1_report.specs.Parts.{split_once}

-- the class that a letter names
abbrev pub class_of : ℕ → Option Class
class_of letter =
    if letter == 85 then Some Universal
    else (if letter == 65 then Some Application
    else (if letter == 67 then Some Context
    else (if letter == 80 then Some Private
    else None)))

-- a tag: the letter of its class, and its number
abbrev pub tag_of : List ℕ → Option Tag
tag_of [] = None
tag_of (letter ∷ digits) =
    option_and_then (λ class. option_map (λ value. record { class = class; value = value }) (number_of digits)) (class_of letter)

-- what is between a text's first byte and its last, where these are a bracket that opens and one that closes
abbrev pub between_brackets : List ℕ → Option (List ℕ)
between_brackets [] = None
between_brackets (byte ∷ bytes) = if (byte == 40) && ends_with_byte 41 bytes then Some (take (length bytes - 1) bytes) else None

-- the trees that each of the texts is, if each is one
abbrev pub all_trees : (List ℕ → Option Tree) → List (List ℕ) → Option Trees
all_trees tree_in [] = Some none
all_trees tree_in (text ∷ texts) = option_and_then (λ tree. option_map (more tree) (all_trees tree_in texts)) (tree_in text)

-- a tree with at most this many brackets open at once: a tag, or trees between brackets, separated by one space
unfoldable pub tree_of : ℕ → List ℕ → Option Tree
tree_of zero text = option_map leaf (tag_of text)
tree_of (suc depth) text =
    option_map_or
    (λ inside. option_map choice (all_trees (tree_of depth) (elements_of inside)))
    (between_brackets text)
    (option_map leaf (tag_of text))

-- how many brackets may be open at once
abbrev pub deepest : ℕ
deepest = 16

-- an end of a range, which may be missing
abbrev pub end_of : List ℕ → Option (Option ℤ)
end_of [] = Some None
end_of (byte ∷ bytes) = option_map (λ number. Some number) (integer_of (byte ∷ bytes))

-- a range: the text of its start, a dot, and what comes after that, another dot and the text of its end
abbrev pub range_of : List ℕ → List ℕ → Option (Bounded ℤ)
range_of start [] = None
range_of start (byte ∷ bytes) =
    if byte == 46 then option_and_then (λ first. option_map (λ last. bounded.Range first last) (end_of bytes)) (end_of start) else None

-- a bound: `none`, a number, or two dots with an optional number on each side
abbrev pub bound_of : List ℕ → Option (Bounded ℤ)
bound_of text =
    if bytes_eq text (codes "none") then Some bounded.None
    else option_map_or (λ (start, after). range_of start after) (split_once 46 text) (option_map (λ number. bounded.Single number) (integer_of text))

-- two bounds: a bound, `&` and a bound
abbrev pub bounds_of : List (List ℕ) → Option (Bounded ℤ × Bounded ℤ)
bounds_of (first ∷ sign ∷ second ∷ []) =
    if bytes_eq sign (codes "&") then option_and_then (λ a. option_map (λ b. (a, b)) (bound_of second)) (bound_of first) else None
bounds_of _ = None

-- the kind of table that a word names
abbrev pub kind_of : List ℕ → Option TableKind
kind_of word =
    if bytes_eq word (codes "sequence") then Some Sequence
    else (if bytes_eq word (codes "set") then Some Set
    else None)

-- the presence that a word names
abbrev pub presence_of : List ℕ → Option FieldPresence
presence_of word =
    if bytes_eq word (codes "required") then Some Required
    else (if bytes_eq word (codes "optional") then Some Optional
    else (if bytes_eq word (codes "default") then Some Default
    else None))
