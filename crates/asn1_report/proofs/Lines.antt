-- How the lines of an input grow.
use Rattle.std.proofs.Common.{◌≡◌, ℕ, Bool, true, false, cond, ◌==◌, Some, None, option_and_then, List, [], ◌∷◌, ◌++◌, length, length-append, refl, sym, ap, ◌∙◌, arith}
use Rattle.std.specs.Prelude.{nat_le}
use Rattle.std.specs.List.{onto_first}
use Rattle.std.proofs.lemmas.Bool.Decides.{nat_tests}
use Rattle.std.proofs.lemmas.List.Splits.{slice_split_none}
use Rattle.asn1_report.specs.Lines.{lines_of, but_last, last, whole_lines, unended, within_limit}
use Rattle.asn1_report.specs.Reading.{HasNoFeed}
use Rattle.asn1_report.proofs.Elements.{IsNonempty, nonempty-onto_first}

nonempty-lines_of : (bytes : List ℕ) → IsNonempty (lines_of bytes)
nonempty-lines_of [] = tt
nonempty-lines_of (byte ∷ bytes) = by_test (byte == 10)
  where
    by_test : (b : Bool) → IsNonempty (cond b ([] ∷ lines_of bytes) (onto_first byte (lines_of bytes)))
    by_test true = tt
    by_test false = nonempty-onto_first byte (lines_of bytes)

-- the bytes go onto the last line
abbrev onto_last : List (List ℕ) → List ℕ → List (List ℕ)
onto_last [] bytes = bytes ∷ []
onto_last (line ∷ []) bytes = (line ++ bytes) ∷ []
onto_last (line ∷ next ∷ more) bytes = line ∷ onto_last (next ∷ more) bytes

but_last-onto_last : (lines : List (List ℕ)) (bytes : List ℕ) → but_last (onto_last lines bytes) ≡ but_last lines
but_last-onto_last [] bytes = refl
but_last-onto_last (line ∷ []) bytes = refl
but_last-onto_last (line ∷ next ∷ []) bytes = refl
but_last-onto_last (line ∷ next ∷ other ∷ more) bytes = ap (λ lines. line ∷ lines) (but_last-onto_last (next ∷ other ∷ more) bytes)

last-onto_last : (lines : List (List ℕ)) (bytes : List ℕ) → last (onto_last lines bytes) ≡ last lines ++ bytes
last-onto_last [] bytes = refl
last-onto_last (line ∷ []) bytes = refl
last-onto_last (line ∷ next ∷ []) bytes = refl
last-onto_last (line ∷ next ∷ other ∷ more) bytes = last-onto_last (next ∷ other ∷ more) bytes

lines-extended : (given bytes : List ℕ) → HasNoFeed bytes → lines_of (given ++ bytes) ≡ onto_last (lines_of given) bytes
lines-extended [] bytes none = slice_split_none (λ byte. byte == 10) bytes none
lines-extended (x ∷ xs) bytes none =
    ap (λ lines. cond (x == 10) ([] ∷ lines) (onto_first x lines)) (lines-extended xs bytes none)
    ∙ by_test (x == 10) (lines_of xs) (nonempty-lines_of xs)
  where
    by_test : (b : Bool) (lines : List (List ℕ)) → IsNonempty lines →
        cond b ([] ∷ onto_last lines bytes) (onto_first x (onto_last lines bytes)) ≡ onto_last (cond b ([] ∷ lines) (onto_first x lines)) bytes
    by_test b [] some = absurd some
    by_test true (line ∷ more) some = refl
    by_test false (line ∷ []) some = refl
    by_test false (line ∷ next ∷ more) some = refl

-- bytes without a line feed go on the line that has not ended
pub unended-extended : (given bytes : List ℕ) → HasNoFeed bytes → unended (given ++ bytes) ≡ unended given ++ bytes
unended-extended given bytes none = ap last (lines-extended given bytes none) ∙ last-onto_last (lines_of given) bytes

pub whole_lines-extended : (given bytes : List ℕ) → HasNoFeed bytes → whole_lines (given ++ bytes) ≡ whole_lines given
whole_lines-extended given bytes none = ap but_last (lines-extended given bytes none) ∙ but_last-onto_last (lines_of given) bytes

-- a line feed begins a line
lines-fed : (given : List ℕ) → lines_of (given ++ 10 ∷ []) ≡ lines_of given ++ [] ∷ []
lines-fed [] = refl
lines-fed (x ∷ xs) =
    ap (λ lines. cond (x == 10) ([] ∷ lines) (onto_first x lines)) (lines-fed xs) ∙ by_test (x == 10) (lines_of xs) (nonempty-lines_of xs)
  where
    by_test : (b : Bool) (lines : List (List ℕ)) → IsNonempty lines →
        cond b ([] ∷ (lines ++ [] ∷ [])) (onto_first x (lines ++ [] ∷ [])) ≡ cond b ([] ∷ lines) (onto_first x lines) ++ [] ∷ []
    by_test b [] some = absurd some
    by_test true (line ∷ more) some = refl
    by_test false (line ∷ more) some = refl

but_last-push : (lines : List (List ℕ)) (line : List ℕ) → but_last (lines ++ line ∷ []) ≡ lines
but_last-push [] line = refl
but_last-push (first ∷ []) line = refl
but_last-push (first ∷ next ∷ more) line = ap (λ lines. first ∷ lines) (but_last-push (next ∷ more) line)

last-push : (lines : List (List ℕ)) (line : List ℕ) → last (lines ++ line ∷ []) ≡ line
last-push [] line = refl
last-push (first ∷ []) line = refl
last-push (first ∷ next ∷ more) line = last-push (next ∷ more) line

-- after a line feed no line has begun
pub unended-fed : (given : List ℕ) → unended (given ++ 10 ∷ []) ≡ []
unended-fed given = ap last (lines-fed given) ∙ last-push (lines_of given) []

-- and all lines before it have ended
pub whole_lines-fed : (given : List ℕ) → whole_lines (given ++ 10 ∷ []) ≡ lines_of given
whole_lines-fed given = ap but_last (lines-fed given) ∙ but_last-push (lines_of given) []

-- the lines are those that have ended, and the one that has not
pub lines-parts : (given : List ℕ) → lines_of given ≡ whole_lines given ++ unended given ∷ []
lines-parts given = by_lines (lines_of given) (nonempty-lines_of given)
  where
    by_lines : (lines : List (List ℕ)) → IsNonempty lines → lines ≡ but_last lines ++ last lines ∷ []
    by_lines [] some = absurd some
    by_lines (line ∷ []) some = refl
    by_lines (line ∷ next ∷ more) some = ap (λ lines. line ∷ lines) (by_lines (next ∷ more) tt)

-- a line with more bytes, as far as it is looked at
pub within_limit-extended : (line bytes : List ℕ) → option_and_then (λ l. within_limit (l ++ bytes)) (within_limit line) ≡ within_limit (line ++ bytes)
within_limit-extended line bytes = by_test (nat_le (length line) 4096) refl
  where
    by_test : (b : Bool) → nat_le (length line) 4096 ≡ b →
        option_and_then (λ l. within_limit (l ++ bytes)) (cond b (Some line) None) ≡ within_limit (line ++ bytes)
    by_test true is = refl
    by_test false is =
        let longer = length-append line bytes in
        let too_long : nat_le (length (line ++ bytes)) 4096 ≡ false = grind (arith, nat_tests) in
        sym (ap (λ b. cond b (Some (line ++ bytes)) None) too_long)
