-- The octets of a DATE and of a TIME-OF-DAY are the digits of its parts.
use Rattle.std.proofs.Common.{◌≡◌, ◌↔◌, ℕ, ◌+◌, ◌*◌, ◌<◌, ◌/◌, ◌%◌, Bool, true, false, List, [], ◌∷◌, refl, sym, ap, ◌∙◌, arith}
use Rattle.std.proofs.lemmas.Bool.Decides.{nat_tests}
use Rattle.std.proofs.lemmas.Bool.{false≢true}
use Rattle.std.specs.Prelude.{IsTrue, ◌&&◌, ◌==◌}
use native.Mathlib.Nat.{div-add-mod'}
use Rattle.std.proofs.lemmas.Nat.{div-mul-add, mod-mul-add}
use Rattle.asn1_contents.specs.Digits.{is_digit, are_digits, two_digits, digits_then}
use Rattle.asn1_contents.specs.Dates.{IsDate, is_date, is_day}
use Rattle.asn1_contents.specs.TimesOfDay.{IsTimeOfDay, is_time, is_time_of_day}

-- the first of two digits
high : (h l : ℕ) → is_digit h ≡ true → is_digit l ≡ true → h ≡ 48 + two_digits h l / 10
high h l p q = grind (arith, nat_tests)

-- the second
low : (h l : ℕ) → is_digit h ≡ true → is_digit l ≡ true → l ≡ 48 + two_digits h l % 10
low h l p q = grind (arith, nat_tests)

-- two digits are below 100
below : (h l : ℕ) → is_digit h ≡ true → is_digit l ≡ true → two_digits h l < 100
below h l p q = grind (arith, nat_tests)

-- two digits, and more
digits : (h l : ℕ) (more : List ℕ) → is_digit h ≡ true → is_digit l ≡ true → h ∷ l ∷ more ≡ digits_then (two_digits h l) more
digits h l more p q = λ i. high h l p q i ∷ low h l p q i ∷ more

-- the digits of a number below 100
pub made : (n : ℕ) → n < 100 → two_digits (48 + n / 10) (48 + n % 10) ≡ n
made n less = grind (arith, div-add-mod' n 10)

pub first_is_digit : (n : ℕ) → n < 100 → is_digit (48 + n / 10) ≡ true
first_is_digit n less = grind (arith, nat_tests)

pub second_is_digit : (n : ℕ) → is_digit (48 + n % 10) ≡ true
second_is_digit n = grind (arith, nat_tests)

-- what two Booleans that are both true are
pub both : (a b : Bool) → (a && b) ≡ true → (a ≡ true) × (b ≡ true)
both true true e = (refl, refl)
both true false e = absurd (false≢true e)
both false b e = absurd (false≢true e)

-- the digits of a list, one after another
first_of : (o : ℕ) (more : List ℕ) → are_digits (o ∷ more) ≡ true → (is_digit o ≡ true) × (are_digits more ≡ true)
first_of o more e = both (is_digit o) (are_digits more) e

-- octets of which there are not eight are no DATE
other_length : (n : ℕ) (d : Bool) (m : ℕ) → (n ≡ m → ⊥) → ((n == m) && d) ≡ true → ⊥
other_length n d m differ e = differ (grind (arith, nat_tests, (both (n == m) d e).0))

-- four digits of a year
year_high : (a b c d : ℕ) → two_digits c d < 100 → (two_digits a b * 100 + two_digits c d) / 100 ≡ two_digits a b
year_high a b c d less = div-mul-add (two_digits a b) 100 (two_digits c d) less

year_low : (a b c d : ℕ) → two_digits c d < 100 → (two_digits a b * 100 + two_digits c d) % 100 ≡ two_digits c d
year_low a b c d less = mod-mul-add (two_digits a b) 100 (two_digits c d) less

-- eight octets that are a DATE
pub is_eight : (octets : List ℕ) → IsTrue (is_date octets) → IsDate octets
is_eight [] e = absurd (false≢true e)
is_eight (a ∷ []) e = absurd (false≢true e)
is_eight (a ∷ b ∷ []) e = absurd (false≢true e)
is_eight (a ∷ b ∷ c ∷ []) e = absurd (false≢true e)
is_eight (a ∷ b ∷ c ∷ d ∷ []) e = absurd (false≢true e)
is_eight (a ∷ b ∷ c ∷ d ∷ f ∷ []) e = absurd (false≢true e)
is_eight (a ∷ b ∷ c ∷ d ∷ f ∷ g ∷ []) e = absurd (false≢true e)
is_eight (a ∷ b ∷ c ∷ d ∷ f ∷ g ∷ h ∷ []) e = absurd (false≢true e)
is_eight (a ∷ b ∷ c ∷ d ∷ f ∷ g ∷ h ∷ i ∷ []) e = record {
  year = two_digits a b * 100 + two_digits c d;
  month = two_digits f g;
  day = two_digits h i;
  is_day = p.1;
  are = digits a b (c ∷ d ∷ f ∷ g ∷ h ∷ i ∷ []) of_a.0 of_b.0
      ∙ ap (digits_then (two_digits a b)) (digits c d (f ∷ g ∷ h ∷ i ∷ []) of_c.0 of_d.0
      ∙ ap (digits_then (two_digits c d)) (digits f g (h ∷ i ∷ []) of_f.0 of_g.0
      ∙ ap (digits_then (two_digits f g)) (digits h i [] of_h.0 of_i.0)))
      ∙ λ k. digits_then (sym (year_high a b c d less) k) (digits_then (sym (year_low a b c d less) k) (digits_then (two_digits f g) (digits_then (two_digits h i) [])));
}
  where
    p : (are_digits (a ∷ b ∷ c ∷ d ∷ f ∷ g ∷ h ∷ i ∷ []) ≡ true) × (is_day (two_digits a b * 100 + two_digits c d) (two_digits f g) (two_digits h i) ≡ true)
    p = both (are_digits (a ∷ b ∷ c ∷ d ∷ f ∷ g ∷ h ∷ i ∷ [])) (is_day (two_digits a b * 100 + two_digits c d) (two_digits f g) (two_digits h i)) e

    of_a : (is_digit a ≡ true) × (are_digits (b ∷ c ∷ d ∷ f ∷ g ∷ h ∷ i ∷ []) ≡ true)
    of_a = first_of a (b ∷ c ∷ d ∷ f ∷ g ∷ h ∷ i ∷ []) p.0

    of_b : (is_digit b ≡ true) × (are_digits (c ∷ d ∷ f ∷ g ∷ h ∷ i ∷ []) ≡ true)
    of_b = first_of b (c ∷ d ∷ f ∷ g ∷ h ∷ i ∷ []) of_a.1

    of_c : (is_digit c ≡ true) × (are_digits (d ∷ f ∷ g ∷ h ∷ i ∷ []) ≡ true)
    of_c = first_of c (d ∷ f ∷ g ∷ h ∷ i ∷ []) of_b.1

    of_d : (is_digit d ≡ true) × (are_digits (f ∷ g ∷ h ∷ i ∷ []) ≡ true)
    of_d = first_of d (f ∷ g ∷ h ∷ i ∷ []) of_c.1

    of_f : (is_digit f ≡ true) × (are_digits (g ∷ h ∷ i ∷ []) ≡ true)
    of_f = first_of f (g ∷ h ∷ i ∷ []) of_d.1

    of_g : (is_digit g ≡ true) × (are_digits (h ∷ i ∷ []) ≡ true)
    of_g = first_of g (h ∷ i ∷ []) of_f.1

    of_h : (is_digit h ≡ true) × (are_digits (i ∷ []) ≡ true)
    of_h = first_of h (i ∷ []) of_g.1

    of_i : (is_digit i ≡ true) × (are_digits [] ≡ true)
    of_i = first_of i [] of_h.1

    less : two_digits c d < 100
    less = below c d of_c.0 of_d.0
is_eight (a ∷ b ∷ c ∷ d ∷ f ∷ g ∷ h ∷ i ∷ j ∷ rest) e = absurd (grind (arith, nat_tests, both, e))

-- two Booleans that are true
pub and : (a b : Bool) → a ≡ true → b ≡ true → (a && b) ≡ true
and true true p q = refl
and true false p q = q
and false b p q = p

-- the digits of a number below 100, before digits
pub then_digits : (n : ℕ) (more : List ℕ) → n < 100 → are_digits more ≡ true → are_digits (digits_then n more) ≡ true
then_digits n more less rest =
    and (is_digit (48 + n / 10)) (is_digit (48 + n % 10) && are_digits more) (first_is_digit n less)
    (and (is_digit (48 + n % 10)) (are_digits more) (second_is_digit n) rest)

-- the parts of a day are below 100, and its year below 10000
year_fits : (y m d : ℕ) → is_day y m d ≡ true → y < 10000
year_fits y m d e = grind (arith, nat_tests, e)

month_fits : (y m d : ℕ) → is_day y m d ≡ true → m < 100
month_fits y m d e = grind (arith, nat_tests, e)

day_fits : (y m d : ℕ) → is_day y m d ≡ true → d < 100
day_fits y m d e = grind (arith, nat_tests, e)

-- the digits of a day are a DATE
pub of_day : (y m d : ℕ) → is_day y m d ≡ true →
    is_date (digits_then (y / 100) (digits_then (y % 100) (digits_then m (digits_then d [])))) ≡ true
of_day y m d e = and (are_digits (digits_then (y / 100) (digits_then (y % 100) (digits_then m (digits_then d []))))) _
    (then_digits (y / 100) (digits_then (y % 100) (digits_then m (digits_then d []))) high_fits (then_digits (y % 100) (digits_then m (digits_then d [])) low_fits (then_digits m (digits_then d []) (month_fits y m d e) (then_digits d [] (day_fits y m d e) refl))))
    ((λ i. is_day (year i) (made m (month_fits y m d e) i) (made d (day_fits y m d e) i)) ∙ e)
  where
    high_fits : y / 100 < 100
    high_fits = grind (arith, year_fits y m d e)

    low_fits : y % 100 < 100
    low_fits = grind arith

    year : two_digits (48 + y / 100 / 10) (48 + y / 100 % 10) * 100 + two_digits (48 + y % 100 / 10) (48 + y % 100 % 10) ≡ y
    year = (λ i. made (y / 100) high_fits i * 100 + made (y % 100) low_fits i) ∙ div-add-mod' y 100

-- octets are a DATE if and only if they are the digits of a day
pub dates : (octets : List ℕ) → IsTrue (is_date octets) ↔ IsDate octets
dates octets = (is_eight octets, λ own. ap is_date own.are ∙ of_day own.year own.month own.day own.is_day)

-- the parts of a time are below 100
hour_fits : (h m s : ℕ) → is_time h m s ≡ true → h < 100
hour_fits h m s e = grind (arith, nat_tests, e)

minute_fits : (h m s : ℕ) → is_time h m s ≡ true → m < 100
minute_fits h m s e = grind (arith, nat_tests, e)

second_fits : (h m s : ℕ) → is_time h m s ≡ true → s < 100
second_fits h m s e = grind (arith, nat_tests, e)

-- the digits of a time are a TIME-OF-DAY
pub of_time : (h m s : ℕ) → is_time h m s ≡ true → is_time_of_day (digits_then h (digits_then m (digits_then s []))) ≡ true
of_time h m s e = and (are_digits (digits_then h (digits_then m (digits_then s [])))) _
    (then_digits h (digits_then m (digits_then s [])) (hour_fits h m s e) (then_digits m (digits_then s []) (minute_fits h m s e) (then_digits s [] (second_fits h m s e) refl)))
    ((λ i. is_time (made h (hour_fits h m s e) i) (made m (minute_fits h m s e) i) (made s (second_fits h m s e) i)) ∙ e)

-- six octets that are a TIME-OF-DAY
pub is_six : (octets : List ℕ) → IsTrue (is_time_of_day octets) → IsTimeOfDay octets
is_six [] e = absurd (false≢true e)
is_six (a ∷ []) e = absurd (false≢true e)
is_six (a ∷ b ∷ []) e = absurd (false≢true e)
is_six (a ∷ b ∷ c ∷ []) e = absurd (false≢true e)
is_six (a ∷ b ∷ c ∷ d ∷ []) e = absurd (false≢true e)
is_six (a ∷ b ∷ c ∷ d ∷ f ∷ []) e = absurd (false≢true e)
is_six (a ∷ b ∷ c ∷ d ∷ f ∷ g ∷ []) e = record {
  hour = two_digits a b;
  minute = two_digits c d;
  second = two_digits f g;
  is_time = p.1;
  are = digits a b (c ∷ d ∷ f ∷ g ∷ []) of_a.0 of_b.0
      ∙ ap (digits_then (two_digits a b)) (digits c d (f ∷ g ∷ []) of_c.0 of_d.0
      ∙ ap (digits_then (two_digits c d)) (digits f g [] of_f.0 of_g.0));
}
  where
    p : (are_digits (a ∷ b ∷ c ∷ d ∷ f ∷ g ∷ []) ≡ true) × (is_time (two_digits a b) (two_digits c d) (two_digits f g) ≡ true)
    p = both (are_digits (a ∷ b ∷ c ∷ d ∷ f ∷ g ∷ [])) (is_time (two_digits a b) (two_digits c d) (two_digits f g)) e

    of_a : (is_digit a ≡ true) × (are_digits (b ∷ c ∷ d ∷ f ∷ g ∷ []) ≡ true)
    of_a = first_of a (b ∷ c ∷ d ∷ f ∷ g ∷ []) p.0

    of_b : (is_digit b ≡ true) × (are_digits (c ∷ d ∷ f ∷ g ∷ []) ≡ true)
    of_b = first_of b (c ∷ d ∷ f ∷ g ∷ []) of_a.1

    of_c : (is_digit c ≡ true) × (are_digits (d ∷ f ∷ g ∷ []) ≡ true)
    of_c = first_of c (d ∷ f ∷ g ∷ []) of_b.1

    of_d : (is_digit d ≡ true) × (are_digits (f ∷ g ∷ []) ≡ true)
    of_d = first_of d (f ∷ g ∷ []) of_c.1

    of_f : (is_digit f ≡ true) × (are_digits (g ∷ []) ≡ true)
    of_f = first_of f (g ∷ []) of_d.1

    of_g : (is_digit g ≡ true) × (are_digits [] ≡ true)
    of_g = first_of g [] of_f.1
is_six (a ∷ b ∷ c ∷ d ∷ f ∷ g ∷ h ∷ rest) e = absurd (grind (arith, nat_tests, both, e))

-- octets are a TIME-OF-DAY if and only if they are the digits of a time
pub times : (octets : List ℕ) → IsTrue (is_time_of_day octets) ↔ IsTimeOfDay octets
times octets = (is_six octets, λ own. ap is_time_of_day own.are ∙ of_time own.hour own.minute own.second own.is_time)
