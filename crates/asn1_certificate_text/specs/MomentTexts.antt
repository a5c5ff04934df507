-- Moments, and the texts of which they are read (RFC 5280, 4.1.2.5).
use Rattle.std.specs.Prelude.{◌≤◌, ◌<◌, ℕ, ◌/◌, List, ◌++◌, codes}
use Rattle.asn1_certificate_text.specs.declared.moment.Moment.{Moment}
use Rattle.asn1_certificate_text.specs.Moments.{days_in_month, two_digits}

-- there is such a day, of a year of four digits, and such a second in it
pub record IsInCalendar (m : Moment) : Type 0 where
  pub year : m.year < 10000
  pub month_from : 1 ≤ m.month
  pub month_to : m.month ≤ 12
  pub day_from : 1 ≤ m.day
  pub day_to : m.day ≤ days_in_month m.year m.month
  pub hour : m.hour < 24
  pub minute : m.minute < 60
  pub second : m.second < 60

-- of the years that a UTCTime says
abbrev pub IsOfUtcTime : Moment → Type 0
IsOfUtcTime m = (1950 ≤ m.year) × (m.year < 2050)

-- MMDDHHMMSSZ
abbrev pub time_in_year : Moment → List ℕ
time_in_year m = two_digits m.month ++ (two_digits m.day ++ (two_digits m.hour ++
    (two_digits m.minute ++ (two_digits m.second ++ codes "Z"))))

-- YYMMDDHHMMSSZ
abbrev pub utc_time : Moment → List ℕ
utc_time m = two_digits m.year ++ time_in_year m

-- YYYYMMDDHHMMSSZ
abbrev pub generalized_time : Moment → List ℕ
generalized_time m = two_digits (m.year / 100) ++ utc_time m

-- YYYY-MM-DD HH:MM:SS UTC
abbrev pub moment_text : Moment → List ℕ
moment_text m = two_digits (m.year / 100) ++ (two_digits m.year ++ (codes "-" ++
    (two_digits m.month ++ (codes "-" ++ (two_digits m.day ++ (codes " " ++
    (two_digits m.hour ++ (codes ":" ++ (two_digits m.minute ++ (codes ":" ++
    (two_digits m.second ++ codes " UTC")))))))))))
