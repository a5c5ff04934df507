-- The line of a value that was not converted.
use Rattle.std.specs.Prelude.{◌≡◌, ◌<◌, ◌+◌, ◌-◌, ◌^◌, ℕ, zero, suc, List, [], ◌∷◌, ◌++◌, Option, Some, None, codes, min}
use Rattle.std.specs.Fmt.{decimal}
use Rattle.asn1_convert.specs.declared.stream.Stop.{Stop}
use Rattle.asn1_convert.specs.declared.task.Converted.{Converted}

-- a sum, or the greatest number that a `usize` holds
abbrev pub sum_within : ℕ → ℕ → ℕ
sum_within a b = min (a + b) (2 ^ 64 - 1)

-- the number of a value, its first octet, and the last one if it is told
abbrev pub place_text : ℕ → ℕ → Option ℕ → List ℕ
place_text number first None = codes "value " ++ (decimal number ++ (codes ", octet " ++ (decimal first ++ codes ": ")))
place_text number first (Some last) =
    codes "value " ++ (decimal number ++ (codes ", octets " ++ (decimal first ++ (codes " to " ++ (decimal last ++ codes ": ")))))

-- the last octet of a value that begins at an octet, if it has this many
abbrev pub last_octet : ℕ → Option ℕ → Option ℕ
last_octet first None = None
last_octet first (Some zero) = None
last_octet first (Some (suc more)) = Some (sum_within first more)

-- The line begins with the number in the whole input, from 1, of the value at which the conversion stopped, behind what was converted
-- before the task, and with the value's first octet there, from 0.
pub record IsLineOf (before : Converted) (stop : Stop) (line : List ℕ) : Type 0 where
  pub last : Option ℕ
  pub cause : List ℕ
  pub are : line ≡ place_text (sum_within (sum_within before.values stop.before) 1) (sum_within before.octets stop.start) last ++ (cause ++ 10 ∷ [])
