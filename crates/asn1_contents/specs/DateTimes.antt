-- The contents octets of a DATE-TIME (X.680, 38.4; X.690, 8.26): those of its DATE, and then those of its TIME-OF-DAY.
use Rattle.std.specs.Prelude.{◌≡◌, Bool, ◌++◌, ◌&&◌, ◌==◌, ℕ, List, length, take, drop}
use Rattle.asn1_contents.specs.Dates.{IsDate, is_date}
use Rattle.asn1_contents.specs.TimesOfDay.{IsTimeOfDay, is_time_of_day}

abbrev pub is_date_time : List ℕ → Bool
is_date_time octets = (length octets == 14) && is_date (take 8 octets) && is_time_of_day (drop 8 octets)

-- Octets are the digits of a date, and then those of a time.
pub record IsDateTime (octets : List ℕ) : Type 0 where
  pub date : List ℕ
  pub time : List ℕ
  pub is_date : IsDate date
  pub is_time : IsTimeOfDay time
  pub are : octets ≡ date ++ time
