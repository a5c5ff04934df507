-- The octets of a DATE-TIME are those of its date and its time.
use Rattle.std.proofs.Common.{◌≡◌, ◌↔◌, ℕ, ◌/◌, ◌%◌, true, List, [], ◌++◌, length, take, drop, sym, ap, ◌∙◌, arith}
use Rattle.std.proofs.lemmas.Bool.Decides.{nat_tests}
use Rattle.std.proofs.lemmas.Grind.{common_steps}
use Rattle.std.specs.Prelude.{IsTrue}
use Rattle.asn1_contents.specs.Dates.{is_date}
use Rattle.asn1_contents.specs.DateTimes.{IsDateTime, is_date_time}
use Rattle.asn1_contents.specs.Digits.{digits_then}
use Rattle.asn1_contents.specs.TimesOfDay.{is_time_of_day}
use Rattle.asn1_contents.proofs.Days.{dates, times, both, and, of_day, of_time}

-- both parts of a list
parts : (n : ℕ) (xs : List ℕ) → take n xs ++ drop n xs ≡ xs
parts n xs = grind (arith, common_steps)

-- a DATE-TIME is its parts
of_parts : (octets : List ℕ) → IsTrue (is_date_time octets) → IsDateTime octets
of_parts octets e = record {
  date = take 8 octets;
  time = drop 8 octets;
  is_date = (dates (take 8 octets)).0 split.0;
  is_time = (times (drop 8 octets)).0 split.1;
  are = sym (parts 8 octets);
}
  where
    split : (is_date (take 8 octets) ≡ true) × (is_time_of_day (drop 8 octets) ≡ true)
    split = both (is_date (take 8 octets)) (is_time_of_day (drop 8 octets)) (grind (arith, nat_tests, both, e))

-- the parts are a DATE-TIME
of_both : (octets : List ℕ) → IsDateTime octets → IsTrue (is_date_time octets)
of_both octets own =
    ap is_date_time (own.are ∙ λ i. own.is_date.are i ++ own.is_time.are i)
    ∙ and (is_date (digits_then (own.is_date.year / 100) (digits_then (own.is_date.year % 100) (digits_then own.is_date.month (digits_then own.is_date.day [])))))
    (is_time_of_day (digits_then own.is_time.hour (digits_then own.is_time.minute (digits_then own.is_time.second []))))
    (of_day own.is_date.year own.is_date.month own.is_date.day own.is_date.is_day)
    (of_time own.is_time.hour own.is_time.minute own.is_time.second own.is_time.is_time)

-- octets are a DATE-TIME if and only if they are the digits of a date and a time
pub date_times : (octets : List ℕ) → IsTrue (is_date_time octets) ↔ IsDateTime octets
date_times octets = (of_parts octets, of_both octets)

-- a DATE has eight octets
eight : (date : List ℕ) → IsTrue (is_date date) → length date ≡ 8
eight date e = grind (arith, nat_tests, both, e)

-- the first of two lists, and the other
first_of_two : (n : ℕ) (xs ys : List ℕ) → length xs ≡ n → take n (xs ++ ys) ≡ xs
first_of_two n xs ys e = grind (arith, common_steps, e)

other_of_two : (n : ℕ) (xs ys : List ℕ) → length xs ≡ n → drop n (xs ++ ys) ≡ ys
other_of_two n xs ys e = grind (arith, common_steps, e)

-- the date in front of a time, and the time behind it
pub front : (date time : List ℕ) → IsTrue (is_date date) → take 8 (date ++ time) ≡ date
front date time e = first_of_two 8 date time (eight date e)

pub back : (date time : List ℕ) → IsTrue (is_date date) → drop 8 (date ++ time) ≡ time
back date time e = other_of_two 8 date time (eight date e)
