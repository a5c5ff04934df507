use Rattle.std.proofs.Common.{◌≡◌, ◌-◌, ◌/◌, ◌%◌, [], ◌∷◌, ap, arith, drop, get_or, length, ◌∙◌, take}
use Rattle.asn1_certificate_text.proofs.Digits.{last_digits}
use Rattle.asn1_certificate_text.proofs.moment.Moment.of_generalized_digits.Goals as goal

pub returns-in_default : goal.returns-in_default
returns-in_default c = λ m is same.
    let count : length c.args.text.now ≡ 15 = ap length same in absurd (omega arith)

pub returns : goal.returns
returns c = λ m is same.
    let century : c.number.result ≡ m.year / 100 =
    c.number.ensures (m.year / 100) (omega arith) (ap (λ t. get_or t 0 0 ∷ get_or t 1 0 ∷ []) same) in
    let in_century : c.number-2.result ≡ m.year % 100 =
    c.number-2.ensures (m.year % 100) (omega arith) (ap (λ t. get_or t 2 0 ∷ get_or t 3 0 ∷ []) same ∙ last_digits m.year) in
    c.of_year.ensures m is (omega (arith, c.from-century.ensures, c.from.ensures)) (ap (λ t. take (length t - 4) (drop 4 t)) same)
