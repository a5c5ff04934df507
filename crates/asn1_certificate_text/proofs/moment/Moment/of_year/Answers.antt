use Rattle.std.proofs.Common.{◌≡◌, ℕ, [], ◌∷◌, Some, ap, arith, get_or, length, refl}
use Rattle.asn1_certificate_text.specs.declared.moment.Moment.{Moment}
use Rattle.asn1_certificate_text.proofs.Digits.{days_in_month-le}
use Rattle.asn1_certificate_text.proofs.moment.Moment.of_year.Goals as goal

-- a moment of its fields
of_fields : (m : Moment) (year month day hour minute second : ℕ) → year ≡ m.year → month ≡ m.month → day ≡ m.day →
    hour ≡ m.hour → minute ≡ m.minute → second ≡ m.second →
    record { year = year; month = month; day = day; hour = hour; minute = minute; second = second } ≡ m
of_fields m year month day hour minute second e f g h i j = rw (e, f, g, h, i, j) refl

pub returns-in_default : goal.returns-in_default
returns-in_default c = λ m is year same.
    let count : length c.args.text.now ≡ 11 = ap length same in absurd (omega arith)

pub returns-in_default-2 : goal.returns-in_default-2
returns-in_default-2 c = λ m is year same.
    let count : length c.args.text.now ≡ 11 = ap length same in absurd (omega arith)

pub returns : goal.returns
returns c = λ m is year same.
    ap Some (of_fields m _ _ _ _ _ _ year
    (c.number.ensures m.month (omega arith) (ap (λ t. get_or t 0 0 ∷ get_or t 1 0 ∷ []) same))
    (c.number-2.ensures m.day (omega (arith, days_in_month-le m.year m.month)) (ap (λ t. get_or t 2 0 ∷ get_or t 3 0 ∷ []) same))
    (c.number-3.ensures m.hour (omega arith) (ap (λ t. get_or t 4 0 ∷ get_or t 5 0 ∷ []) same))
    (c.number-4.ensures m.minute (omega arith) (ap (λ t. get_or t 6 0 ∷ get_or t 7 0 ∷ []) same))
    (c.number-5.ensures m.second (omega arith) (ap (λ t. get_or t 8 0 ∷ get_or t 9 0 ∷ []) same)))
