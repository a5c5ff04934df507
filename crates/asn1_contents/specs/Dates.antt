-- The contents octets of a DATE (X.680, 38.4; X.690, 8.26): YYYYMMDD, a day of the calendar.
use Rattle.std.specs.Prelude.{◌≡◌, ℕ, Bool, true, ◌+◌, ◌*◌, ◌%◌, ◌&&◌, ◌||◌, not, ◌==◌, nat_lt, if◌then◌else◌, ◌/◌, List, [], length}
use Rattle.asn1_contents.specs.Digits.{are_digits, digits_then, number_at}

-- whether February of a year has 29 days
abbrev pub is_leap_year : ℕ → Bool
is_leap_year year = (year % 4 == 0) && (not (year % 100 == 0) || (year % 400 == 0))

-- the number of days of a month
abbrev pub days_of_month : ℕ → ℕ → ℕ
days_of_month year month =
    if month == 2 then (if is_leap_year year then 29 else 28) else
    (if (month == 4) || (month == 6) || (month == 9) || (month == 11) then 30 else 31)

-- whether a year, a month and a day are one of the Gregorian calendar, from 1582 to 9999 (X.680, 38.1)
abbrev pub is_day : ℕ → ℕ → ℕ → Bool
is_day year month day =
    not (nat_lt year 1582) && nat_lt year 10000 && not (month == 0) && nat_lt month 13
    && not (day == 0) && not (nat_lt (days_of_month year month) day)

-- the year, the month and the day of eight digits
abbrev pub year_of : List ℕ → ℕ
year_of octets = number_at octets 0 * 100 + number_at octets 2

abbrev pub month_of : List ℕ → ℕ
month_of octets = number_at octets 4

abbrev pub day_of : List ℕ → ℕ
day_of octets = number_at octets 6

-- whether octets are the contents of a DATE
abbrev pub is_date : List ℕ → Bool
is_date octets = (length octets == 8) && are_digits octets && is_day (year_of octets) (month_of octets) (day_of octets)

-- Octets are the four digits of a year, and two of a month and a day of the calendar.
pub record IsDate (octets : List ℕ) : Type 0 where
  pub year : ℕ
  pub month : ℕ
  pub day : ℕ
  pub is_day : is_day year month day ≡ true
  pub are : octets ≡ digits_then (year / 100) (digits_then (year % 100) (digits_then month (digits_then day [])))
