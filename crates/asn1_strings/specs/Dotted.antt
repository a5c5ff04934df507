-- The dotted text of an object identifier, as 1.2.840: its arcs (X.680, 32) in decimal, with a dot between each two. RFC 4512
-- (1.4, numericoid) has the same text for two arcs or more; here one arc has a text too.
use Rattle.std.specs.Prelude.{ℕ, ◌^◌, Bool, not, ◌&&◌, ◌==◌, nat_lt, if◌then◌else◌, List, [], ◌∷◌, ◌++◌, length, slice_index, Result, Ok, Err, codes}
use Rattle.std.specs.Fmt.{decimal}
use Rattle.std.specs.List.{join_by, slice_split}
use Rattle.std.specs.Str.{all_ascii_digits}
use Rattle.std.specs.Str.Parse.{digits_value}
use Rattle.asn1_strings.specs.declared.error.ArcError.{ArcError}
use Rattle.asn1_strings.specs.declared.error.ArcError.TheVariants.{Empty, NotADigit, LeadingZero, TooGreat}
use Rattle.asn1_strings.specs.declared.error.ObjectIdentifierError.{ObjectIdentifierError}
use Rattle.asn1_strings.specs.declared.error.ObjectIdentifierError.TheVariants.{Arc}

-- the arcs in decimal, with a dot between each two
abbrev pub dotted : List ℕ → List ℕ
dotted arcs = join_by decimal (codes ".") arcs

-- more than one digit, the first of them a zero
abbrev pub has_leading_zero : List ℕ → Bool
has_leading_zero digits = (slice_index digits 0 == 48) && nat_lt 1 (length digits)

-- the number of decimal digits, if it is one of 32 bits
abbrev pub arc_of_digits : List ℕ → Result ℕ ArcError
arc_of_digits digits = if nat_lt (digits_value 10 digits) (2 ^ 32) then Ok (digits_value 10 digits) else Err TooGreat

-- the arc that a text is: decimal digits with no leading zero. Else the first reason why it is none
abbrev pub arc_of : List ℕ → Result ℕ ArcError
arc_of text =
    if length text == 0 then Err Empty else
    (if not (all_ascii_digits text) then Err NotADigit else
    (if has_leading_zero text then Err LeadingZero else arc_of_digits text))

-- the text after an arc; for a text that is none, its index and the reason
abbrev pub after_arc : Result ℕ ArcError → ℕ → (ℕ → Result (List ℕ) ObjectIdentifierError) → Result (List ℕ) ObjectIdentifierError
after_arc (Ok arc) index next = next arc
after_arc (Err why) index next = Err (Arc index why)

-- the arcs so far and then those of the texts, or the first text that is none
abbrev pub arcs_after : List ℕ → List (List ℕ) → Result (List ℕ) ObjectIdentifierError
arcs_after arcs [] = Ok arcs
arcs_after arcs (text ∷ texts) = after_arc (arc_of text) (length arcs) (λ arc. arcs_after (arcs ++ arc ∷ []) texts)

-- the arcs of a text, which is cut at its dots
abbrev pub arcs_of : List ℕ → Result (List ℕ) ObjectIdentifierError
arcs_of text = arcs_after [] (slice_split (λ c. c == 46) text)
