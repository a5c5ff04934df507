-- Facts on the numbers that bytes represent.
use Rattle.std.proofs.Common.{◌≡◌, ◌≢◌, ℕ, zero, suc, ◌+◌, ◌*◌, ◌^◌, ◌<◌, ◌≤◌, ◌/◌, ◌%◌, List, [], ◌∷◌, length, get_or, take, drop, Some, Ordering, refl, sym, ap, subst, ◌∙◌, arith}
use Rattle.std.specs.declared.cmp.Ordering.TheVariants.{Less, Equal, Greater}
use Rattle.std.specs.Cmp.{nat_cmp_is, ranks}
use Rattle.std.specs.Cmp.Lexicographic.{slice_cmp}
use Rattle.std.specs.Int.{byte_at, bytes_high_first}
use Rattle.std.specs.Int.Digits.{AllBelowBase, digits_of, number_from_digits_after}
use Rattle.std.specs.Ordering.{MatchOrdering, nat_cmp, ordering_then}
use Rattle.std.proofs.lemmas.List.{take-append-drop}
use Rattle.std.proofs.lemmas.Int.Digits.{number_after_append, number_after_ge, number_after_lt, number_lt, all_below_base_digits_of, first_digits_of, number_digits_of}
use Rattle.std.proofs.lemmas.Option.{get_or_from_slice_get}
use Rattle.std.proofs.Math.Arith.{mod-mul}
use Rattle.std.proofs.Math.Nat.{mod-eq_of_lt, mul-le-mul_right, one-le-pow, pow-le-pow_right, pow-suc, pow-succ'}
use Rattle.asn1_integers.specs.Numbers.{magnitude, IsMagnitude, IsShortest}

-- a part from the front represents no greater number
pub magnitude-take_le : (bytes : List ℕ) (i : ℕ) → magnitude (take i bytes) ≤ magnitude bytes
magnitude-take_le bytes i =
    let split : magnitude bytes ≡ number_from_digits_after 256 (magnitude (take i bytes)) (drop i bytes) = ap magnitude (sym (take-append-drop i bytes)) ∙ number_after_append 256 0 (take i bytes) (drop i bytes) in
    let low = number_after_ge 256 (magnitude (take i bytes)) (drop i bytes) (omega arith) in
    omega arith

-- ---- the order of magnitudes

-- the number before the bytes counts by its place value
number_after_worth : (n : ℕ) (ds : List ℕ) → n * 256 ^ length ds ≤ number_from_digits_after 256 n ds
number_after_worth n [] = omega arith
number_after_worth n (d ∷ ds) = rw pow-suc (omega (arith, number_after_worth (n * 256 + d) ds))

-- the numbers before decide if equally many bytes follow
number_after_less : (m n : ℕ) (xs ys : List ℕ) → AllBelowBase 256 xs → length xs ≡ length ys → m < n → number_from_digits_after 256 m xs < number_from_digits_after 256 n ys
number_after_less m n xs ys below as_long less =
    let upper = number_after_lt 256 m xs below in
    let between = mul-le-mul_right (256 ^ length xs) less in
    let lower : n * 256 ^ length xs ≤ number_from_digits_after 256 n ys = rw as_long (number_after_worth n ys) in
    omega arith

-- the order of two numbers by their bytes
abbrev Ranks : Ordering → ℕ → List ℕ → ℕ → List ℕ → Type 0
Ranks o m xs n ys = MatchOrdering o (number_from_digits_after 256 m xs < number_from_digits_after 256 n ys) (xs ≡ ys) (number_from_digits_after 256 n ys < number_from_digits_after 256 m xs)

-- the same, with one more equal byte in front
Ranks_behind : (o : Ordering) (n x : ℕ) (xs ys : List ℕ) → Ranks o (n * 256 + x) xs (n * 256 + x) ys → Ranks o n (x ∷ xs) n (x ∷ ys)
Ranks_behind Less n x xs ys h = h
Ranks_behind Equal n x xs ys h = ap (λ zs. x ∷ zs) h
Ranks_behind Greater n x xs ys h = h

-- between lists as long as each other the first byte that differs decides
Ranks-slice_cmp : (n : ℕ) (xs ys : List ℕ) → AllBelowBase 256 xs → AllBelowBase 256 ys → length xs ≡ length ys → Ranks (slice_cmp nat_cmp xs ys) n xs n ys
Ranks-slice_cmp n [] [] below_xs below_ys as_long = refl
Ranks-slice_cmp n [] (y ∷ ys) below_xs below_ys as_long = absurd (omega arith)
Ranks-slice_cmp n (x ∷ xs) [] below_xs below_ys as_long = absurd (omega arith)
Ranks-slice_cmp n (x ∷ xs) (y ∷ ys) below_xs below_ys as_long =
    let tails : length xs ≡ length ys = omega arith in
    let rest = Ranks-slice_cmp (n * 256 + x) xs ys below_xs.1 below_ys.1 tails in
    by (nat_cmp x y) (ranks x y) rest tails
  where
    by : (o : Ordering) → MatchOrdering o (x < y) (x ≡ y) (y < x) → Ranks (slice_cmp nat_cmp xs ys) (n * 256 + x) xs (n * 256 + x) ys → length xs ≡ length ys → Ranks (ordering_then o (slice_cmp nat_cmp xs ys)) n (x ∷ xs) n (y ∷ ys)
    by Less less rest tails = number_after_less (n * 256 + x) (n * 256 + y) xs ys below_xs.1 tails (omega arith)
    by Equal same rest tails = subst (λ w. Ranks (slice_cmp nat_cmp xs ys) n (x ∷ xs) n (w ∷ ys)) same (Ranks_behind (slice_cmp nat_cmp xs ys) n x xs ys rest)
    by Greater more rest tails = number_after_less (n * 256 + y) (n * 256 + x) ys xs below_ys.1 (sym tails) (omega arith)

-- a longer list without leading zeros represents a greater number
magnitude_longer : (xs ys : List ℕ) → AllBelowBase 256 xs → IsShortest ys → length xs < length ys → magnitude xs < magnitude ys
magnitude_longer xs [] below shortest longer = absurd (omega arith)
magnitude_longer xs (y ∷ ys) below shortest longer =
    let first : y ≢ 0 = λ e. shortest (ap Some e) in
    let upper = number_lt 256 xs below in
    let grows : 256 ^ length xs ≤ 256 ^ length ys = pow-le-pow_right (omega arith) (omega arith) in
    let lower : (0 * 256 + y) * 256 ^ length ys ≤ magnitude (y ∷ ys) = number_after_worth (0 * 256 + y) ys in
    let scaled : 1 * 256 ^ length ys ≤ y * 256 ^ length ys = mul-le-mul_right (256 ^ length ys) (omega arith) in
    omega arith

-- the order of magnitudes: the longer is the greater, else the first byte that differs decides
Ranks-magnitudes : (xs ys : List ℕ) → IsMagnitude xs → IsMagnitude ys → Ranks (ordering_then (nat_cmp (length xs) (length ys)) (slice_cmp nat_cmp xs ys)) 0 xs 0 ys
Ranks-magnitudes xs ys p q = by (nat_cmp (length xs) (length ys)) (ranks (length xs) (length ys))
  where
    by : (o : Ordering) → MatchOrdering o (length xs < length ys) (length xs ≡ length ys) (length ys < length xs) → Ranks (ordering_then o (slice_cmp nat_cmp xs ys)) 0 xs 0 ys
    by Less less = magnitude_longer xs ys p.are_bytes q.shortest less
    by Equal same = Ranks-slice_cmp 0 xs ys p.are_bytes q.are_bytes same
    by Greater more = magnitude_longer ys xs q.are_bytes p.shortest more

-- the comparison of two magnitudes is that of their numbers
nat_cmp-magnitude : (xs ys : List ℕ) → IsMagnitude xs → IsMagnitude ys → ordering_then (nat_cmp (length xs) (length ys)) (slice_cmp nat_cmp xs ys) ≡ nat_cmp (magnitude xs) (magnitude ys)
nat_cmp-magnitude xs ys p q =
    let o = ordering_then (nat_cmp (length xs) (length ys)) (slice_cmp nat_cmp xs ys) in
    nat_cmp_is (magnitude xs) (magnitude ys) o (by o (Ranks-magnitudes xs ys p q))
  where
    by : (o : Ordering) → Ranks o 0 xs 0 ys → MatchOrdering o (magnitude xs < magnitude ys) (magnitude xs ≡ magnitude ys) (magnitude ys < magnitude xs)
    by Less less = less
    by Equal same = ap magnitude same
    by Greater more = more

-- the same, where the lengths are equal
pub nat_cmp-as_long : (xs ys : List ℕ) → IsMagnitude xs → IsMagnitude ys → Equal ≡ nat_cmp (length xs) (length ys) → slice_cmp nat_cmp xs ys ≡ nat_cmp (magnitude xs) (magnitude ys)
nat_cmp-as_long xs ys p q as_long = ap (λ o. ordering_then o (slice_cmp nat_cmp xs ys)) as_long ∙ nat_cmp-magnitude xs ys p q

-- and where they are not
pub nat_cmp-by_length : (xs ys : List ℕ) → IsMagnitude xs → IsMagnitude ys → (o : Ordering) → o ≡ nat_cmp (length xs) (length ys) → o ≢ Equal → o ≡ nat_cmp (magnitude xs) (magnitude ys)
nat_cmp-by_length xs ys p q o is unequal = decided o unequal ∙ ap (λ r. ordering_then r (slice_cmp nat_cmp xs ys)) is ∙ nat_cmp-magnitude xs ys p q
  where
    decided : (r : Ordering) → r ≢ Equal → r ≡ ordering_then r (slice_cmp nat_cmp xs ys)
    decided Less n = refl
    decided Equal n = absurd (n refl)
    decided Greater n = refl

-- a number has one magnitude
same_from_magnitude : (xs ys : List ℕ) → IsMagnitude xs → IsMagnitude ys → magnitude xs ≡ magnitude ys → xs ≡ ys
same_from_magnitude xs ys p q same = by (ordering_then (nat_cmp (length xs) (length ys)) (slice_cmp nat_cmp xs ys)) (Ranks-magnitudes xs ys p q)
  where
    by : (o : Ordering) → Ranks o 0 xs 0 ys → xs ≡ ys
    by Less less = absurd (omega arith)
    by Equal found = found
    by Greater more = absurd (omega arith)

-- ---- the digits of a number to the base 256

IsShortest-digits_of : (n : ℕ) → IsShortest (digits_of 256 n)
IsShortest-digits_of zero e = cc
IsShortest-digits_of (suc n) e =
    let first = first_digits_of 256 (suc n) (omega arith) (omega arith) in
    let none : get_or (digits_of 256 (suc n)) 0 0 ≡ 0 = get_or_from_slice_get (digits_of 256 (suc n)) 0 0 0 e in
    omega arith

IsMagnitude-digits_of : (n : ℕ) → IsMagnitude (digits_of 256 n)
IsMagnitude-digits_of n = record { are_bytes = all_below_base_digits_of 256 n (omega arith); shortest = IsShortest-digits_of n }

-- a magnitude is the digits of its number
pub digits_of-magnitude : (bytes : List ℕ) (n : ℕ) → IsMagnitude bytes → n ≡ magnitude bytes → digits_of 256 n ≡ bytes
digits_of-magnitude bytes n p is =
    same_from_magnitude (digits_of 256 n) bytes (IsMagnitude-digits_of n) p (number_digits_of 256 n (omega arith) ∙ is)

-- ---- the bytes of an integer of the machine

byte_at_is : (k n : ℕ) → byte_at k n ≡ n / 256 ^ k % 256
byte_at_is zero n = omega arith
byte_at_is (suc k) n = refl

number_after-bytes_high_first : (m k n : ℕ) → number_from_digits_after 256 m (bytes_high_first k n) ≡ m * 256 ^ k + n % 256 ^ k
number_after-bytes_high_first m zero n = omega arith
number_after-bytes_high_first m (suc k) n =
    let digits = mod-mul n {m = 256} {c = 256 ^ k} (omega arith) (one-le-pow k 256 (omega arith)) in
    number_after-bytes_high_first (m * 256 + byte_at k n) k n ∙ rw (byte_at_is, pow-succ', digits) (omega arith)

-- the lowest k bytes of a number below 256 ^ k represent it
pub magnitude-bytes_high_first : (k n : ℕ) → n < 256 ^ k → magnitude (bytes_high_first k n) ≡ n
magnitude-bytes_high_first k n small = number_after-bytes_high_first 0 k n ∙ rw (mod-eq_of_lt small) (omega arith)
