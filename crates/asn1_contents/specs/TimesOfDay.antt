-- The contents octets of a TIME-OF-DAY (X.680, 38.4; X.690, 8.26): HHMMSS.
use Rattle.std.specs.Prelude.{◌≡◌, ℕ, Bool, true, ◌&&◌, ◌||◌, ◌==◌, nat_lt, List, [], length}
use Rattle.asn1_contents.specs.Digits.{are_digits, digits_then, number_at}

-- whether numbers are an hour, a minute and a second of a day; the second 60 is a leap second, and 24:00:00 is the end of the day
abbrev pub is_time : ℕ → ℕ → ℕ → Bool
is_time hour minute second =
    (nat_lt hour 24 && nat_lt minute 60 && nat_lt second 61) || ((hour == 24) && (minute == 0) && (second == 0))

-- the hour, the minute and the second of six digits
abbrev pub hour_of : List ℕ → ℕ
hour_of octets = number_at octets 0

abbrev pub minute_of : List ℕ → ℕ
minute_of octets = number_at octets 2

abbrev pub second_of : List ℕ → ℕ
second_of octets = number_at octets 4

-- whether octets are the contents of a TIME-OF-DAY
abbrev pub is_time_of_day : List ℕ → Bool
is_time_of_day octets = (length octets == 6) && are_digits octets && is_time (hour_of octets) (minute_of octets) (second_of octets)

-- Octets are two digits of an hour, a minute and a second of a day.
pub record IsTimeOfDay (octets : List ℕ) : Type 0 where
  pub hour : ℕ
  pub minute : ℕ
  pub second : ℕ
  pub is_time : is_time hour minute second ≡ true
  pub are : octets ≡ digits_then hour (digits_then minute (digits_then second []))
