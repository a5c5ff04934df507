-- The calendar, and numbers of two digits.
use Rattle.std.specs.Prelude.{ℕ, ◌+◌, ◌/◌, ◌%◌, ◌==◌, Bool, not, ◌&&◌, ◌||◌, List, [], ◌∷◌, if◌then◌else◌}

-- the last two decimal digits of a number
abbrev pub two_digits : ℕ → List ℕ
two_digits n = (48 + n / 10 % 10) ∷ (48 + n % 10) ∷ []

-- whether a year has a 29th of February
abbrev pub is_leap_year : ℕ → Bool
is_leap_year year = year % 4 == 0 && (not (year % 100 == 0) || year % 400 == 0)

-- how many days a month has
abbrev pub days_in_month : ℕ → ℕ → ℕ
days_in_month year month =
    if month == 4 || month == 6 || month == 9 || month == 11 then 30
    else (if month == 2 then (if is_leap_year year then 29 else 28) else 31)
