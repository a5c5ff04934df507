-- The digits of a number, as they are read.
use Rattle.std.proofs.Common.{◌≡◌, ℕ, zero, suc, ◌+◌, ◌-◌, ◌*◌, ◌<◌, ◌≤◌, ◌^◌, Bool, true, false, cond, not, ◌&&◌, List, [], ◌∷◌, ◌++◌, length, get_or, Some, None, take, drop, refl, sym, ap, ◌∙◌, arith, rules, ltb, le_refl, le_trans, mul-le-mul_left, add_comm, add-one, length-drop, pow-suc}
use Rattle.std.specs.List.{list_all, prefix_len, take_while}
use Rattle.std.specs.Char.{is_ascii_digit, digit_value}
use Rattle.std.specs.Str.{bytes_eq}
use Rattle.std.specs.Prelude.{pos, neg_ℤ, nat_le, codes}
use Rattle.std.specs.Str.Parse.{digits_value, digits_value_after}
use Rattle.std.proofs.lemmas.Grind.{common_steps}
use Rattle.std.proofs.lemmas.Bool.{and_parts, ltb-true}
use Rattle.std.proofs.lemmas.Bool.Decides.{nat_tests}
use Rattle.std.proofs.lemmas.List.{take_all, take-append-drop}
use Rattle.std.proofs.lemmas.List.Folds.{list_all-append}
use Rattle.std.proofs.lemmas.List.Sums.{take_while-cons}
use Rattle.std.proofs.lemmas.Slice.Eq.{bytes_eq-Decides}
use Rattle.std.specs.Fmt.{decimal}
use Rattle.std.proofs.lemmas.Fmt.{decimal_digit, decimal_nonempty, decimal-digits_value, digits_decimal, digits_value-decimal, first_decimal}
use Rattle.std.proofs.lemmas.Str.Parse.{IsNumeralModel, numerals_by_value, digits_value_short}
use Rattle.asn1_report.specs.NamesAndNumbers.{BeginsWithNumber, begins_with_digit, is_plain_number, fits_i128, number_of, integer_of}

own : IsNumeralModel (λ ds. list_all is_ascii_digit ds ≡ true) (digits_value 10)
own = numerals_by_value (λ ds. list_all is_ascii_digit ds ≡ true) (search rules)

-- more digits only make the value larger
pub le-digits_value_after : (radix n : ℕ) (ds : List ℕ) → 1 ≤ radix → n ≤ digits_value_after radix n ds
le-digits_value_after radix n [] h = le_refl n
le-digits_value_after radix n (d ∷ ds) h =
    let step : n ≤ n * radix + digit_value d = omega (arith, mul-le-mul_left n h) in
    le_trans step (le-digits_value_after radix (n * radix + digit_value d) ds h)

-- a digit in front is read
pub next_digit-value : (n m : ℕ) (text : List ℕ) (k : ℕ) → 0 < length text → length text ≤ k + 1 → 48 ≤ get_or text 0 0 → get_or text 0 0 ≤ 57 →
    m ≡ n * 10 + (get_or text 0 0 - 48) →
    digits_value_after 10 n (take_while is_ascii_digit text) ≡ digits_value_after 10 m (take_while is_ascii_digit (take k (drop 1 text)))
next_digit-value n m [] k some all low high is = absurd (omega arith)
next_digit-value n m (d ∷ ds) k some all low high is =
    let digit : is_ascii_digit d ≡ true = grind (arith, common_steps, nat_tests) in
    let value : n * 10 + digit_value d ≡ m = grind (arith, common_steps, nat_tests) in
    let whole : take k ds ≡ ds = take_all k ds (omega arith) in
    rw (take_while-cons, digit, whole) (ap (λ v. digits_value_after 10 v (take_while is_ascii_digit ds)) value)

-- and what is left after the digits stays the same
pub next_digit-left : (text : List ℕ) (k : ℕ) → 0 < length text → length text ≤ k + 1 → 48 ≤ get_or text 0 0 → get_or text 0 0 ≤ 57 →
    drop (prefix_len is_ascii_digit text) text ≡ drop (prefix_len is_ascii_digit (take k (drop 1 text))) (take k (drop 1 text))
next_digit-left [] k some all low high = absurd (omega arith)
next_digit-left (d ∷ ds) k some all low high =
    let digit : is_ascii_digit d ≡ true = grind (arith, common_steps, nat_tests) in
    let whole : take k ds ≡ ds = take_all k ds (omega arith) in
    rw (digit, whole, add_comm 1 (prefix_len is_ascii_digit ds), add-one) refl

-- so a value that is too large stays so
pub le-next_digit : (n : ℕ) (text : List ℕ) → 0 < length text → 48 ≤ get_or text 0 0 → get_or text 0 0 ≤ 57 →
    n * 10 + (get_or text 0 0 - 48) ≤ digits_value_after 10 n (take_while is_ascii_digit text)
le-next_digit n text some low high =
    let k = length text - 1 in
    let m = n * 10 + (get_or text 0 0 - 48) in
    rw (next_digit-value n m text k some (omega arith) low high refl) (le-digits_value_after 10 m (take_while is_ascii_digit (take k (drop 1 text))) (omega arith))

-- what `take_while` takes are digits
list_all-take_while : (text : List ℕ) → list_all is_ascii_digit (take_while is_ascii_digit text) ≡ true
list_all-take_while [] = refl
list_all-take_while (d ∷ ds) = by_test (is_ascii_digit d) refl (list_all-take_while ds)
  where
    by_test : (b : Bool) → is_ascii_digit d ≡ b → list_all is_ascii_digit (take_while is_ascii_digit ds) ≡ true →
        list_all is_ascii_digit (take_while is_ascii_digit (d ∷ ds)) ≡ true
    by_test true is others = rw (take_while-cons, is) (ap (λ b. b && list_all is_ascii_digit (take_while is_ascii_digit ds)) is ∙ others)
    by_test false is others = rw (take_while-cons, is) refl

-- and no digit follows them
digits_end : (text : List ℕ) → begins_with_digit (drop (prefix_len is_ascii_digit text) text) ≡ false
digits_end [] = refl
digits_end (d ∷ ds) = by_test (is_ascii_digit d) refl (digits_end ds)
  where
    by_test : (b : Bool) → is_ascii_digit d ≡ b → begins_with_digit (drop (prefix_len is_ascii_digit ds) ds) ≡ false →
        begins_with_digit (drop (prefix_len is_ascii_digit (d ∷ ds)) (d ∷ ds)) ≡ false
    by_test true is others = rw (is, add_comm 1 (prefix_len is_ascii_digit ds), add-one) others
    by_test false is others = rw is is

-- digits before what begins with no digit are all that is taken
take_while-none : (text : List ℕ) → begins_with_digit text ≡ false → take_while is_ascii_digit text ≡ []
take_while-none [] h = refl
take_while-none (d ∷ ds) h = rw (take_while-cons, h) refl

take_while-append : (ds left : List ℕ) → list_all is_ascii_digit ds ≡ true → begins_with_digit left ≡ false → take_while is_ascii_digit (ds ++ left) ≡ ds
take_while-append [] left all end = take_while-none left end
take_while-append (d ∷ ds) left all end =
    let parts = and_parts (is_ascii_digit d) (list_all is_ascii_digit ds) all in
    let is = parts.0 in
    rw (take_while-cons, is) (ap (λ rest. d ∷ rest) (take_while-append ds left parts.1 end))

-- a text that begins with a number begins with the digits of that number, and no more
pub number-value : (text : List ℕ) (n : ℕ) (left : List ℕ) → BeginsWithNumber text n left → digits_value 10 (take_while is_ascii_digit text) ≡ n
number-value text n left begins =
    rw (begins.spelled, take_while-append (decimal n) left (digits_decimal own n (omega arith)) begins.whole) (digits_value-decimal own n (omega arith))

first_digit-bounds : (ds left : List ℕ) → 0 < length ds → list_all is_ascii_digit ds ≡ true →
    (0 < length (ds ++ left)) × (48 ≤ get_or (ds ++ left) 0 0) × (get_or (ds ++ left) 0 0 ≤ 57)
first_digit-bounds [] left some all = absurd (omega arith)
first_digit-bounds (d ∷ ds) left some all = (omega arith, grind (arith, common_steps, nat_tests), grind (arith, common_steps, nat_tests))

pub number-bounds : (text : List ℕ) (n : ℕ) (left : List ℕ) → BeginsWithNumber text n left → (0 < length text) × (48 ≤ get_or text 0 0) × (get_or text 0 0 ≤ 57)
number-bounds text n left begins =
    rw begins.spelled (first_digit-bounds (decimal n) left (decimal_nonempty n (omega arith)) (digits_decimal own n (omega arith)))

first-append : (ds left : List ℕ) → 0 < length ds → get_or (ds ++ left) 0 0 ≡ get_or ds 0 0
first-append [] left some = absurd (omega arith)
first-append (d ∷ ds) left some = refl

-- a digit 0 in front is the only one
pub number-lone_zero : (text : List ℕ) (k : ℕ) (n : ℕ) (left : List ℕ) → BeginsWithNumber text n left → length text ≤ k + 1 → get_or text 0 0 ≡ 48 →
    begins_with_digit (take k (drop 1 text)) ≡ false
number-lone_zero text k zero left begins all zero_first =
    let is : text ≡ 48 ∷ left = begins.spelled ∙ ap (λ digits. digits ++ left) (decimal_digit 0 (omega arith)) in
    let whole : take k (drop 1 text) ≡ left = ap (λ t. take k (drop 1 t)) is ∙ take_all k left (omega (arith, ap length is)) in
    rw whole begins.whole
number-lone_zero text k (suc n) left begins all zero_first =
    absurd (omega (arith, first_decimal (suc n) (omega arith) (omega arith), first-append (decimal (suc n)) left (decimal_nonempty (suc n) (omega arith)), ap (λ t. get_or t 0 0) begins.spelled))

-- a text that begins with a 0 and no further digit begins with the number 0
pub zero-begins : (text : List ℕ) (k : ℕ) → 0 < length text → length text ≤ k + 1 → get_or text 0 0 ≡ 48 → begins_with_digit (take k (drop 1 text)) ≡ false →
    BeginsWithNumber text 0 (take k (drop 1 text))
zero-begins [] k some all zero_first end = absurd (omega arith)
zero-begins (d ∷ ds) k some all zero_first end =
    let whole : take k ds ≡ ds = take_all k ds (omega arith) in
    record { spelled = rw (decimal_digit 0 (omega arith), whole) (ap (λ b. b ∷ ds) zero_first); small = omega arith; whole = end }

first-take_while : (text : List ℕ) → 0 < length text → 48 < get_or text 0 0 → get_or text 0 0 ≤ 57 →
    (0 < length (take_while is_ascii_digit text)) × (48 < get_or (take_while is_ascii_digit text) 0 0)
first-take_while [] some low high = absurd (omega arith)
first-take_while (d ∷ ds) some low high =
    let digit : is_ascii_digit d ≡ true = grind (arith, common_steps, nat_tests) in
    rw (take_while-cons, digit) (omega arith, low)

-- a text that begins with digits of which the first is not 0 begins with the number that they write, if it is below 2 ^ 32
pub digits-begin : (text : List ℕ) (n : ℕ) (left : List ℕ) → 0 < length text → 48 < get_or text 0 0 → get_or text 0 0 ≤ 57 →
    n ≡ digits_value 10 (take_while is_ascii_digit text) → n < 2 ^ 32 → left ≡ drop (prefix_len is_ascii_digit text) text → BeginsWithNumber text n left
digits-begin text n left some low high value small rest =
    let digits = take_while is_ascii_digit text in
    let first = first-take_while text some low high in
    let spelled = decimal-digits_value own digits (list_all-take_while text) first.0 (λ zero_first. absurd (omega arith)) (omega arith) in
    record {
      spelled =
          sym (take-append-drop (prefix_len is_ascii_digit text) text)
          ∙ (λ i. (sym spelled ∙ ap decimal (sym value)) i ++ sym rest i);
      small = small;
      whole = ap begins_with_digit rest ∙ digits_end text;
    }

ten_times-more : (n d p v : ℕ) → (n * 10 + d) * p + v ≡ n * (p * 10) + ((0 * 10 + d) * p + v)
ten_times-more n d p v = omega arith

-- each digit makes what is in front of it count ten times
digits_value_after-digits_value : (n : ℕ) (ds : List ℕ) → digits_value_after 10 n ds ≡ n * 10 ^ length ds + digits_value 10 ds
digits_value_after-digits_value n [] = omega arith
digits_value_after-digits_value n (d ∷ ds) =
    digits_value_after-digits_value (n * 10 + digit_value d) ds
    ∙ (ten_times-more n (digit_value d) (10 ^ length ds) (digits_value 10 ds)
    ∙ (λ i. n * sym (pow-suc 10 (length ds)) i + sym (digits_value_after-digits_value (0 * 10 + digit_value d) ds) i))

digits_value_after-append : (n : ℕ) (xs ys : List ℕ) → digits_value_after 10 n (xs ++ ys) ≡ digits_value_after 10 (digits_value_after 10 n xs) ys
digits_value_after-append n [] ys = refl
digits_value_after-append n (x ∷ xs) ys = digits_value_after-append (n * 10 + digit_value x) xs ys

-- the value of a text is that of its last 19 digits and of those in front of them
pub digits_value-split : (text : List ℕ) (k : ℕ) → k ≡ length text - 19 →
    digits_value 10 text ≡ digits_value 10 (take k text) * 10 ^ 19 + digits_value 10 (drop k text)
digits_value-split text k is =
    ap (digits_value 10) (sym (take-append-drop k text))
    ∙ (digits_value_after-append 0 (take k text) (drop k text)
    ∙ (digits_value_after-digits_value (digits_value 10 (take k text)) (drop k text)
    ∙ by_length text k is))
  where
    by_length : (text : List ℕ) (k : ℕ) → k ≡ length text - 19 →
        digits_value 10 (take k text) * 10 ^ length (drop k text) + digits_value 10 (drop k text) ≡ digits_value 10 (take k text) * 10 ^ 19 + digits_value 10 (drop k text)
    by_length text zero is = omega arith
    by_length text (suc k) is =
        let few : length (drop (suc k) text) ≡ 19 = omega (arith, length-drop {A = ℕ}) in
        ap (λ n. digits_value 10 (take (suc k) text) * 10 ^ n + digits_value 10 (drop (suc k) text)) few

-- what the last 19 digits write fits 64 bits
pub digits_value-last : (text : List ℕ) (k : ℕ) → k ≡ length text - 19 → list_all is_ascii_digit (drop k text) ≡ true → digits_value 10 (drop k text) < 10 ^ 19
digits_value-last text k is digits = digits_value_short own (drop k text) 19 digits (omega (arith, length-drop {A = ℕ}))

-- a text is digits if and only if its two parts are
pub digits-split : (text : List ℕ) (k : ℕ) → list_all is_ascii_digit text ≡ (list_all is_ascii_digit (take k text) && list_all is_ascii_digit (drop k text))
digits-split text k = ap (list_all is_ascii_digit) (sym (take-append-drop k text)) ∙ list_all-append is_ascii_digit (take k text) (drop k text)

plain_digits : (ds : List ℕ) → is_plain_number ds ≡ true → (list_all is_ascii_digit ds ≡ true) × (0 < length ds)
plain_digits [] h = cc
plain_digits (d ∷ []) h = (grind (arith, common_steps), omega arith)
plain_digits (d ∷ e ∷ ds) h = (grind (arith, common_steps), omega arith)

number_by : (ds : List ℕ) → is_plain_number ds ≡ true → number_of ds ≡ cond (ltb (digits_value 10 ds) (2 ^ 32)) (Some (digits_value 10 ds)) None
number_by ds h = ap (λ b. cond (b && ltb (digits_value 10 ds) (2 ^ 32)) (Some (digits_value 10 ds)) None) h

-- a digit 0 in front is the only one
lone_zero : (ds : List ℕ) → is_plain_number ds ≡ true → get_or ds 0 0 ≡ 48 → length ds ≡ 1
lone_zero [] h zero_first = cc
lone_zero (d ∷ []) h zero_first = refl
lone_zero (d ∷ e ∷ ds) h zero_first = grind (arith, common_steps, nat_tests)

-- a number is written as its decimal text
pub number_decimal : (digits : List ℕ) (n : ℕ) → number_of digits ≡ Some n → digits ≡ decimal n
number_decimal digits n h = by_tests (is_plain_number digits) (ltb (digits_value 10 digits) (2 ^ 32)) refl refl h
  where
    by_tests : (p q : Bool) → is_plain_number digits ≡ p → ltb (digits_value 10 digits) (2 ^ 32) ≡ q →
        cond (p && q) (Some (digits_value 10 digits)) None ≡ Some n → digits ≡ decimal n
    by_tests true true plain small is =
        let value : digits_value 10 digits ≡ n = cc in
        let few = ltb-true (digits_value 10 digits) (2 ^ 32) small in
        sym (decimal-digits_value own digits (plain_digits digits plain).0 (plain_digits digits plain).1 (lone_zero digits plain) (omega arith)) ∙ ap decimal value
    by_tests true false plain small is = cc
    by_tests false q plain small is = cc

-- the one text of the number 0
zero_text : (ds : List ℕ) → is_plain_number ds ≡ true → digits_value 10 ds ≡ 0 → ds ≡ 48 ∷ []
zero_text ds h value =
    number_decimal ds 0 (number_by ds h ∙ ap (λ v. cond (ltb v (2 ^ 32)) (Some v) None) value) ∙ decimal_digit 0 (omega arith)

not_zero_text : (ds : List ℕ) (b : ℕ) → digits_value 10 ds ≡ suc b → bytes_eq ds (codes "0") ≡ false
not_zero_text ds b value = by_test (bytes_eq ds (codes "0")) refl
  where
    by_test : (t : Bool) → bytes_eq ds (codes "0") ≡ t → t ≡ false
    by_test true is =
        let none : digits_value 10 ds ≡ 0 = ap (digits_value 10) ((bytes_eq-Decides ds (codes "0")).0 is) in
        absurd (omega (arith, none, value))
    by_test false is = refl

-- a minus and digits are the number below 0 of that magnitude, if there is one
pub integer-minus : (text : List ℕ) (k : ℕ) → 0 < length text → length text ≤ k + 1 → get_or text 0 0 ≡ 45 →
    let ds = take k (drop 1 text) in
    let v = digits_value 10 ds in
    integer_of text ≡ cond (is_plain_number ds && (nat_le 1 v && nat_le v (2 ^ 127))) (Some (neg_ℤ (pos v))) None
integer-minus [] k some all minus = absurd (omega arith)
integer-minus (d ∷ ds) k some all minus =
    let whole : take k ds ≡ ds = take_all k ds (omega arith) in
    rw (whole, minus) (by_tests (is_plain_number ds) (digits_value 10 ds) refl refl)
  where
    same_test : (v : ℕ) → is_plain_number ds ≡ true → digits_value 10 ds ≡ v →
        (not (bytes_eq ds (codes "0")) && fits_i128 (neg_ℤ (pos v))) ≡ (nat_le 1 v && nat_le v (2 ^ 127))
    same_test zero plain value = ap (λ t. not (bytes_eq t (codes "0")) && true) (zero_text ds plain value)
    same_test (suc b) plain value = let other = not_zero_text ds b value in grind (arith, common_steps, nat_tests)

    by_tests : (p : Bool) (v : ℕ) → is_plain_number ds ≡ p → digits_value 10 ds ≡ v →
        cond ((p && not (bytes_eq ds (codes "0"))) && fits_i128 (neg_ℤ (pos v))) (Some (neg_ℤ (pos v))) None
        ≡ cond (p && (nat_le 1 v && nat_le v (2 ^ 127))) (Some (neg_ℤ (pos v))) None
    by_tests true v plain value = ap (λ b. cond b (Some (neg_ℤ (pos v))) None) (same_test v plain value)
    by_tests false v plain value = refl

-- and there is none where the digits write too much
pub none-too_large : (p : Bool) (v : ℕ) → (p ≡ true → 2 ^ 127 < v) → cond (p && (nat_le 1 v && nat_le v (2 ^ 127))) (Some (neg_ℤ (pos v))) None ≡ None
none-too_large true v large = let more = large refl in grind (arith, nat_tests)
none-too_large false v large = refl
