use Rattle.std.proofs.Common.{◌≡◌, ◌-◌, ◌%◌, [], ◌∷◌, ap, arith, drop, get_or, length, ◌∙◌, take}
use Rattle.asn1_certificate_text.proofs.Digits.{last_digits}
use Rattle.asn1_certificate_text.proofs.moment.Moment.of_utc_digits.Goals as goal

pub returns-in_default : goal.returns-in_default
returns-in_default c = λ m is of_utc same.
    let count : length c.args.text.now ≡ 13 = ap length same in absurd (omega arith)

pub returns : goal.returns
returns c = λ m is of_utc same.
    let in_century : c.number.result ≡ m.year % 100 =
    c.number.ensures (m.year % 100) (omega arith) (ap (λ t. get_or t 0 0 ∷ get_or t 1 0 ∷ []) same ∙ last_digits m.year) in
    c.of_year.ensures m is (c.full_year.ensures m.year of_utc.0 of_utc.1 in_century) (ap (λ t. take (length t - 2) (drop 2 t)) same)
