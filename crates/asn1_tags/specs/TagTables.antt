-- Tables of tags: whether a table fits a list of tags, and where one that does not fit fails first.
use Rattle.std.specs.Prelude.{◌≡◌, ◌≢◌, ◌⊎◌, ◌<◌, ℕ, zero, suc, min, Option, Some, None, List, length, slice_get, find, option_map, IfSome}
use Rattle.std.specs.Int.Digits.{digits_of}
use Rattle.std.specs.Ordering.{nat_cmp, on, then_cmp}
use Rattle.std.specs.declared.cmp.Ordering.{Ordering}
use Rattle.std.specs.declared.cmp.Ordering.TheVariants.{Less}
use Rattle.asn1_tags.specs.Tags.{tag_cmp, tag_eq}
use Rattle.asn1_tags.specs.declared.tags.Tag.{Tag}

-- An entry of a table is a tag and a position in the list of tags.
abbrev pub Entry : Type 0
Entry = Tag × ℕ

-- Entries go by tag, and then by position.
abbrev pub entry_cmp : Entry → Entry → Ordering
entry_cmp = then_cmp (on (λ e. e.0) tag_cmp) (on (λ e. e.1) nat_cmp)

-- the entry before the one at the index, if there is one
abbrev pub entry_before : List Entry → ℕ → Option Entry
entry_before table zero = None
entry_before table (suc index) = slice_get table index

-- The entry at the index fits the tags: its position is in the list, and has its tag; and it comes strictly after the entry before it.
pub record EntryFits (tags : List Tag) (table : List Entry) (index : ℕ) : Type 0 where
  pub has_tag : IfSome (slice_get table index) (λ e. slice_get tags e.1 ≡ Some e.0)
  pub ascends : IfSome (entry_before table index) (λ d. IfSome (slice_get table index) (λ e. entry_cmp d e ≡ Less))

-- The table fits the tags: there are as many entries as tags, and each of them fits.
pub record TableFits (tags : List Tag) (table : List Entry) : Type 0 where
  pub same_length : length table ≡ length tags
  pub each_fits : (index : ℕ) → index < length table → EntryFits tags table index

-- The index is where the table fails first to fit the tags: no entry before it fails, and it is an entry below the shorter length
-- that fails, or the shorter length where the two lengths differ.
pub record FailsFirstAt (tags : List Tag) (table : List Entry) (index : ℕ) : Type 0 where
  pub no_earlier : (earlier : ℕ) → earlier < index → EntryFits tags table earlier
  pub fails :
      ((index < min (length tags) (length table)) × (¬ EntryFits tags table index))
      ⊎ ((index ≡ min (length tags) (length table)) × (length tags ≢ length table))

-- the position in the first entry of the tag, if there is one
abbrev pub first_position : Tag → List Entry → Option ℕ
first_position t table = option_map (λ e. e.1) (find (λ e. tag_eq e.0 t) table)

-- the number of binary digits of a number, which is 0 for 0
abbrev pub binary_digits : ℕ → ℕ
binary_digits n = length (digits_of 2 n)

-- A list of tags, and the table that is kept beside it, if there is one.
pub record TagList : Type 0 where
  pub tags : List Tag
  pub table : Option (List Entry)

-- the table, if there is one, fits the tags
abbrev pub TableFitsIfAny : TagList → Type 0
TableFitsIfAny list = IfSome list.table (TableFits list.tags)
