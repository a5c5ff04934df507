-- The lines around a certificate in a text (RFC 7468, 2 and 5).
use Rattle.std.specs.Prelude.{◌≡◌, ◌+◌, ℕ, Bool, not, List, None, Some, codes, drop, length, take}
use Rattle.std.specs.Char.{is_ascii_whitespace}
use Rattle.memchr.specs.Find.{FindsNeedle}

-- the line before a certificate, found by its text anywhere in a line
abbrev pub begin_line : List ℕ
begin_line = codes "-----BEGIN CERTIFICATE-----"

-- the line after one
abbrev pub end_line : List ℕ
end_line = codes "-----END CERTIFICATE-----"

-- a byte that is no white space
abbrev pub is_symbol : ℕ → Bool
is_symbol byte = not (is_ascii_whitespace byte)

-- there is no line before a certificate
abbrev pub HasNoBegin : List ℕ → Type 0
HasNoBegin text = FindsNeedle text begin_line 0 None

-- there is such a line, and the first begins at this position
pub record HasBegin (text : List ℕ) : Type 0 where
  pub position : ℕ
  pub found : FindsNeedle text begin_line 0 (Some position)

-- the first line before a certificate ends at `start`
pub record BeginsAt (text : List ℕ) (start : ℕ) : Type 0 where
  pub position : ℕ
  pub found : FindsNeedle text begin_line 0 (Some position)
  pub after : start ≡ position + length begin_line

-- The body begins at the end of the first line before a certificate, and ends at the next line after one.
pub record EnclosesAt (text : List ℕ) (start : ℕ) (body : List ℕ) : Type 0 where
  pub begins : BeginsAt text start
  pub ends : FindsNeedle (drop start text) end_line 0 (Some (length body))
  pub between : body ≡ take (length body) (drop start text)

-- the first line before a certificate ends at `start`, and no line after it ends one
pub record HasNoEnd (text : List ℕ) (start : ℕ) : Type 0 where
  pub begins : BeginsAt text start
  pub never_ends : FindsNeedle (drop start text) end_line 0 None
