-- Each content in range has contents octets or has none, and contents octets have an element where they are fewer than 2^64.
use Rattle.std.proofs.Common.{◌≡◌, ℕ, zero, suc, ◌+◌, ◌-◌, ◌*◌, ◌≤◌, ◌<◌, ◌^◌, Bool, true, false, List, [], ◌∷◌, ◌++◌, length, get_or, refl, ap, subst, ◌∙◌, arith, inl, inr}
use Rattle.std.proofs.Math.Nat.{mod-lt}
use Rattle.std.proofs.lemmas.Bool.{cases_lt}
use Rattle.std.proofs.lemmas.Int.Digits.{all_below_base_digits_of, first_digits_of, length-digits_of-le, number_digits_of, number_lt, number_push}
use Rattle.std.proofs.lemmas.List.Elements.{All-cons, All-nil, Contains-get_or, recursion_from_All}
use Rattle.std.specs.Int.{byte_at, bytes_high_first}
use Rattle.std.specs.Int.Digits.{AllBelowBase, digits_of}
use Rattle.std.specs.List.{flat_map}
use Rattle.std.specs.Prelude.{ℤ, pos, negsuc, neg_ℤ, ◌/◌, ◌%◌, ◌==◌, ◌⊎◌, All, map, replicate, if◌then◌else◌}
use Rattle.asn1_model.specs.Records.{Content, StringKind, null, boolean, number, discriminant, arcs, bits, units, octet, utf8, visible, general, graphic, ia5, printable, numeric, teletex, bmp}
use Rattle.asn1_items.specs.Bits.{AreBits, bits_of_octet, bits_of_octets}
use Rattle.asn1_items.specs.Numbers.{two_bytes}
use Rattle.asn1_tags.specs.Tags.{class_number}
use Rattle.asn1_tags.specs.declared.classes.Class.{Class}
use Rattle.asn1_tags.specs.declared.classes.Class.TheVariants.{Universal, Application, Context, Private}
use Rattle.asn1_tags.specs.declared.tags.Tag.{Tag}
use Rattle.asn1_values.proofs.Digits.{magnitude-bytes_high_first}
use Rattle.asn1_values.specs.Numbers.{IsMagnitude, IsShortest, magnitude}
use Rattle.asn1_der_items.specs.Arcs.{AreArcs, AreNumbers, HaveNoOctets}
use Rattle.asn1_der_items.specs.Base128.{IsBase128}
use Rattle.asn1_der_items.specs.Contents.{AreUnits, AreUnitsInRange, HasContents, HasNoContents, IsContentInRange, SomeIsWide}
use Rattle.asn1_der_items.specs.Elements.{IsElement}
use Rattle.asn1_der_items.specs.Identifiers.{IsIdentifier, first_octet, form_bit}
use Rattle.asn1_der_items.specs.Integers.{IsComplement, IsInteger}
use Rattle.asn1_der_items.specs.Lengths.{IsLength}
use Rattle.asn1_der_items.specs.Series.{HasOctets}
use Rattle.asn1_der_items.proofs.Complements.{high_natural, high_negative, low_natural, low_negative}
use Rattle.asn1_der_items.proofs.Septets.{below-push}

pub below_both : (xs ys : List ℕ) → AllBelowBase 256 xs → AllBelowBase 256 ys → AllBelowBase 256 (xs ++ ys)
below_both [] ys below above = above
below_both (x ∷ xs) ys below above = (below.0, below_both xs ys below.1 above)

-- digits begin with no 0
not_zero_first : (ds : List ℕ) → (0 < length ds → 0 < get_or ds 0 0) → IsShortest ds
not_zero_first [] first = λ e. cc
not_zero_first (d ∷ ds) first = λ e. (let zero_first : d ≡ 0 = cc in omega (arith, zero_first, first (omega arith)))

shortest_digits : (b n : ℕ) → 2 ≤ b → IsShortest (digits_of b n)
shortest_digits b zero two = λ e. cc
shortest_digits b (suc n) two = not_zero_first (digits_of b (suc n)) (λ some. first_digits_of b (suc n) two (omega arith))

-- numbers to the base 128
marks_below : (ds : List ℕ) → AllBelowBase 128 ds → AllBelowBase 256 (map (λ d. d + 128) ds)
marks_below [] below = tt
marks_below (d ∷ ds) below = (omega (arith, below.0), marks_below ds below.1)

pub some_base128 : (n : ℕ) → HasOctets (IsBase128 n)
some_base128 n =
    let leading = digits_of 128 (n / 128) in
    let below = all_below_base_digits_of 128 (n / 128) (omega arith) in
    let last : n % 128 < 128 = omega arith in
    record {
      octets = map (λ d. d + 128) leading ++ n % 128 ∷ [];
      are = record {
        leading = leading;
        last = n % 128;
        are = refl;
        digits = below-push 128 leading (n % 128) below last;
        value = number_push 128 leading (n % 128) ∙ ap (λ k. k * 128 + n % 128) (number_digits_of 128 (n / 128) (omega arith)) ∙ omega arith;
        shortest = shortest_digits 128 (n / 128) (omega arith);
      };
      are_octets = below_both (map (λ d. d + 128) leading) (n % 128 ∷ []) (marks_below leading below) (omega (arith, last), tt);
    }

-- identifiers
few_classes : (class : Class) → class_number class ≤ 3
few_classes Universal = omega arith
few_classes Application = omega arith
few_classes Context = omega arith
few_classes Private = omega arith

form_below : (constructed : Bool) → form_bit constructed ≤ 32
form_below true = omega arith
form_below false = omega arith

first_below : (class : Class) (constructed : Bool) (low : ℕ) → low ≤ 31 → first_octet class constructed low < 256
first_below class constructed low small = omega (arith, few_classes class, form_below constructed)

some_identifier : (t : Tag) (constructed : Bool) → t.value < 2 ^ 32 → HasOctets (IsIdentifier t constructed)
some_identifier t constructed fits = by (cases_lt t.value 31)
  where
    by : (t.value < 31) ⊎ (31 ≤ t.value) → HasOctets (IsIdentifier t constructed)
    by (inl low) = record { octets = first_octet t.class constructed t.value ∷ []; are = inl (record { are = refl; below = low }); are_octets = (first_below t.class constructed t.value (omega (arith, low)), tt) }
    by (inr high) =
        let number = some_base128 t.value in
        record {
          octets = first_octet t.class constructed 31 ∷ number.octets;
          are = inr (record { number = number.octets; are = refl; value = number.are; not_low = high; fits = fits });
          are_octets = (first_below t.class constructed 31 (omega arith), number.are_octets);
        }

-- lengths
some_length : (n : ℕ) → n < 2 ^ 64 → HasOctets (IsLength n)
some_length n fits = by (cases_lt n 128)
  where
    by : (n < 128) ⊎ (128 ≤ n) → HasOctets (IsLength n)
    by (inl low) = record { octets = n ∷ []; are = inl (record { are = refl; below = low }); are_octets = (omega (arith, low), tt) }
    by (inr high) =
        let below = all_below_base_digits_of 256 n (omega arith) in
        let short : length (digits_of 256 n) ≤ 8 = length-digits_of-le 256 8 n (omega arith) (omega (arith, fits)) in
        record {
          octets = (length (digits_of 256 n) + 128) ∷ digits_of 256 n;
          are = inr (record { digits = digits_of 256 n; are = refl; value = number_digits_of 256 n (omega arith); shortest = record { are_bytes = below; shortest = shortest_digits 256 n (omega arith) }; not_short = high; fits = fits });
          are_octets = (omega (arith, short), below);
        }

-- elements
pub some_element : (t : Tag) (constructed : Bool) (contents : List ℕ) → t.value < 2 ^ 32 → length contents < 2 ^ 64 → AllBelowBase 256 contents → HasOctets (IsElement t constructed contents)
some_element t constructed contents tag_fits fits below =
    let identifier = some_identifier t constructed tag_fits in
    let size = some_length (length contents) fits in
    record {
      octets = identifier.octets ++ (size.octets ++ contents);
      are = record { identifier = identifier.octets; size = size.octets; is_identifier = identifier.are; is_size = size.are; are = refl };
      are_octets = below_both identifier.octets (size.octets ++ contents) identifier.are_octets (below_both size.octets contents size.are_octets below);
    }

-- integers
some_natural : (ds : List ℕ) → IsMagnitude ds → HasOctets (IsInteger (pos (magnitude ds)))
some_natural [] is = record { octets = 0 ∷ []; are = record { value = refl; shortest = tt }; are_octets = (omega arith, tt) }
some_natural (d ∷ ds) is = by (cases_lt d 128)
  where
    by : (d < 128) ⊎ (128 ≤ d) → HasOctets (IsInteger (pos (magnitude (d ∷ ds))))
    by (inl low) = record { octets = d ∷ ds; are = low_natural (d ∷ ds) (omega arith) low is.shortest; are_octets = is.are_bytes }
    by (inr high) = record { octets = 0 ∷ d ∷ ds; are = high_natural (d ∷ ds) high is.are_bytes.0; are_octets = (omega arith, is.are_bytes) }

byte_below : (k n : ℕ) → byte_at k n < 256
byte_below zero n = omega arith
byte_below (suc k) n = mod-lt (n / 256 ^ suc k) (omega arith)

bytes_below : (k n : ℕ) → AllBelowBase 256 (bytes_high_first k n)
bytes_below zero n = tt
bytes_below (suc k) n = (byte_below k n, bytes_below k n)

bytes_long : (k n : ℕ) → length (bytes_high_first k n) ≡ k
bytes_long zero n = refl
bytes_long (suc k) n = omega (arith, bytes_long k n)

some_negative : (ds : List ℕ) → IsMagnitude ds → 0 < magnitude ds → HasOctets (IsInteger (neg_ℤ (pos (magnitude ds))))
some_negative ds is some = by (cases_lt (get_or octets 0 0) 128)
  where
    octets : List ℕ
    octets = bytes_high_first (length ds) (256 ^ length ds - magnitude ds)

    below : AllBelowBase 256 octets
    below = bytes_below (length ds) (256 ^ length ds - magnitude ds)

    complement : IsComplement ds octets
    complement =
        let upper = number_lt 256 ds is.are_bytes in
        let value = magnitude-bytes_high_first (length ds) (256 ^ length ds - magnitude ds) (omega (arith, some, upper)) in
        record { sum = omega (arith, value, upper); as_long = bytes_long (length ds) (256 ^ length ds - magnitude ds) }

    by : (get_or octets 0 0 < 128) ⊎ (128 ≤ get_or octets 0 0) → HasOctets (IsInteger (neg_ℤ (pos (magnitude ds))))
    by (inl low) = record { octets = 255 ∷ octets; are = low_negative ds octets complement low; are_octets = (omega arith, below) }
    by (inr high) = record { octets = octets; are = high_negative ds octets is.shortest complement high; are_octets = below }

magnitude_of : (n : ℕ) → IsMagnitude (digits_of 256 n)
magnitude_of n = record { are_bytes = all_below_base_digits_of 256 n (omega arith); shortest = shortest_digits 256 n (omega arith) }

some_integer : (z : ℤ) → HasOctets (IsInteger z)
some_integer (pos n) = subst (λ k. HasOctets (IsInteger (pos k))) (number_digits_of 256 n (omega arith)) (some_natural (digits_of 256 n) (magnitude_of n))
some_integer (negsuc n) =
    let value = number_digits_of 256 (suc n) (omega arith) in
    subst (λ k. HasOctets (IsInteger (neg_ℤ (pos k)))) value (some_negative (digits_of 256 (suc n)) (magnitude_of (suc n)) (omega (arith, value)))

-- arcs
some_numbers : (numbers : List ℕ) → HasOctets (AreNumbers numbers)
some_numbers [] = record { octets = []; are = refl; are_octets = tt }
some_numbers (n ∷ numbers) =
    let first = some_base128 n in
    let later = some_numbers numbers in
    record {
      octets = first.octets ++ later.octets;
      are = record { first = first.octets; others = later.octets; is_first = first.are; are_others = later.are; are = refl };
      are_octets = below_both first.octets later.octets first.are_octets later.are_octets;
    }

some_arcs : (list : List ℕ) → All (λ arc. arc < 2 ^ 32) list → HasOctets (AreArcs list) ⊎ HaveNoOctets list
some_arcs [] fit = inr tt
some_arcs (first ∷ []) fit = inr tt
some_arcs (first ∷ second ∷ rest) fit = by (cases_lt 2 first) (cases_lt first 2) (cases_lt 39 second)
  where
    done : first ≤ 2 → (first < 2 → second < 40) → HasOctets (AreArcs (first ∷ second ∷ rest)) ⊎ HaveNoOctets (first ∷ second ∷ rest)
    done three small =
        let numbers = some_numbers ((first * 40 + second) ∷ rest) in
        inl (record { octets = numbers.octets; are = record { first = first; second = second; rest = rest; are = refl; numbers = numbers.are; first_of_three = three; second_below = small; fit = fit }; are_octets = numbers.are_octets })

    by : (2 < first) ⊎ (first ≤ 2) → (first < 2) ⊎ (2 ≤ first) → (39 < second) ⊎ (second ≤ 39) → HasOctets (AreArcs (first ∷ second ∷ rest)) ⊎ HaveNoOctets (first ∷ second ∷ rest)
    by (inl large) below above = inr (inl large)
    by (inr three) (inl below) (inl above) = inr (inr (below, above))
    by (inr three) (inl below) (inr small) = done three (λ given. omega (arith, small))
    by (inr three) (inr two) above = done three (λ given. absurd (omega (arith, two, given)))

-- bits
abbrev worth : Bool → ℕ
worth b = if b then 1 else 0

at_most_one : (b : Bool) → worth b ≤ 1
at_most_one true = omega arith
at_most_one false = omega arith

bit_is : (n : ℕ) (b : Bool) → n ≡ worth b → (n == 1) ≡ b
bit_is n true is = ap (λ k. k == 1) is
bit_is n false is = ap (λ k. k == 1) is

-- the octet of eight bits
abbrev octet_of : Bool → Bool → Bool → Bool → Bool → Bool → Bool → Bool → ℕ
octet_of a b c d e f g h = worth a * 128 + worth b * 64 + worth c * 32 + worth d * 16 + worth e * 8 + worth f * 4 + worth g * 2 + worth h

octet_below : (a b c d e f g h : Bool) → octet_of a b c d e f g h < 256
octet_below a b c d e f g h = omega (arith, at_most_one a, at_most_one b, at_most_one c, at_most_one d, at_most_one e, at_most_one f, at_most_one g, at_most_one h)

octet_is : (a b c d e f g h : Bool) → bits_of_octet (octet_of a b c d e f g h) ≡ a ∷ b ∷ c ∷ d ∷ e ∷ f ∷ g ∷ h ∷ []
octet_is a b c d e f g h = all (worth a) (worth b) (worth c) (worth d) (worth e) (worth f) (worth g) (worth h) (at_most_one a) (at_most_one b) (at_most_one c) (at_most_one d) (at_most_one e) (at_most_one f) (at_most_one g) (at_most_one h) refl refl refl refl refl refl refl refl
  where
    all : (A B C D E F G H : ℕ) → A ≤ 1 → B ≤ 1 → C ≤ 1 → D ≤ 1 → E ≤ 1 → F ≤ 1 → G ≤ 1 → H ≤ 1 → A ≡ worth a → B ≡ worth b → C ≡ worth c → D ≡ worth d → E ≡ worth e → F ≡ worth f → G ≡ worth g → H ≡ worth h →
        bits_of_octet (A * 128 + B * 64 + C * 32 + D * 16 + E * 8 + F * 4 + G * 2 + H) ≡ a ∷ b ∷ c ∷ d ∷ e ∷ f ∷ g ∷ h ∷ []
    all A B C D E F G H p1 q1 r1 s1 t1 u1 v1 w1 p q r s t u v w =
        let n = A * 128 + B * 64 + C * 32 + D * 16 + E * 8 + F * 4 + G * 2 + H in
        let n7 : n / 128 % 2 ≡ A = omega arith in
        let n6 : n / 64 % 2 ≡ B = omega arith in
        let n5 : n / 32 % 2 ≡ C = omega arith in
        let n4 : n / 16 % 2 ≡ D = omega arith in
        let n3 : n / 8 % 2 ≡ E = omega arith in
        let n2 : n / 4 % 2 ≡ F = omega arith in
        let n1 : n / 2 % 2 ≡ G = omega arith in
        let n0 : n % 2 ≡ H = omega arith in
        rw (bit_is (n / 128 % 2) a (n7 ∙ p), bit_is (n / 64 % 2) b (n6 ∙ q), bit_is (n / 32 % 2) c (n5 ∙ r), bit_is (n / 16 % 2) d (n4 ∙ s), bit_is (n / 8 % 2) e (n3 ∙ t), bit_is (n / 4 % 2) f (n2 ∙ u), bit_is (n / 2 % 2) g (n1 ∙ v), bit_is (n % 2) h (n0 ∙ w)) refl

-- Octets of some bits, with a number of unused bits at the end.
record HasOctetsOfBits (list : List Bool) : Type 0 where
  pub octets : List ℕ
  pub unused : ℕ
  pub same : bits_of_octets octets ≡ list ++ replicate unused false
  pub below_eight : unused < 8
  pub are_octets : AllBelowBase 256 octets

one_octet : (list : List Bool) (unused : ℕ) (a b c d e f g h : Bool) → unused < 8 → a ∷ b ∷ c ∷ d ∷ e ∷ f ∷ g ∷ h ∷ [] ≡ list ++ replicate unused false → HasOctetsOfBits list
one_octet list unused a b c d e f g h small same = record {
  octets = octet_of a b c d e f g h ∷ [];
  unused = unused;
  same = ap (λ l. l ++ []) (octet_is a b c d e f g h) ∙ same;
  below_eight = small;
  are_octets = (octet_below a b c d e f g h, tt);
}

octets_of_bits : (list : List Bool) → HasOctetsOfBits list
octets_of_bits [] = record { octets = []; unused = 0; same = refl; below_eight = omega arith; are_octets = tt }
octets_of_bits (a ∷ []) = one_octet (a ∷ []) 7 a false false false false false false false (omega arith) refl
octets_of_bits (a ∷ b ∷ []) = one_octet (a ∷ b ∷ []) 6 a b false false false false false false (omega arith) refl
octets_of_bits (a ∷ b ∷ c ∷ []) = one_octet (a ∷ b ∷ c ∷ []) 5 a b c false false false false false (omega arith) refl
octets_of_bits (a ∷ b ∷ c ∷ d ∷ []) = one_octet (a ∷ b ∷ c ∷ d ∷ []) 4 a b c d false false false false (omega arith) refl
octets_of_bits (a ∷ b ∷ c ∷ d ∷ e ∷ []) = one_octet (a ∷ b ∷ c ∷ d ∷ e ∷ []) 3 a b c d e false false false (omega arith) refl
octets_of_bits (a ∷ b ∷ c ∷ d ∷ e ∷ f ∷ []) = one_octet (a ∷ b ∷ c ∷ d ∷ e ∷ f ∷ []) 2 a b c d e f false false (omega arith) refl
octets_of_bits (a ∷ b ∷ c ∷ d ∷ e ∷ f ∷ g ∷ []) = one_octet (a ∷ b ∷ c ∷ d ∷ e ∷ f ∷ g ∷ []) 1 a b c d e f g false (omega arith) refl
octets_of_bits (a ∷ b ∷ c ∷ d ∷ e ∷ f ∷ g ∷ h ∷ rest) =
    let later = octets_of_bits rest in
    record {
      octets = octet_of a b c d e f g h ∷ later.octets;
      unused = later.unused;
      same = ap (λ l. l ++ bits_of_octets later.octets) (octet_is a b c d e f g h) ∙ ap (λ l. a ∷ b ∷ c ∷ d ∷ e ∷ f ∷ g ∷ h ∷ l) later.same;
      below_eight = later.below_eight;
      are_octets = (octet_below a b c d e f g h, later.are_octets);
    }

some_bits : (list : List Bool) → HasOctets (AreBits list)
some_bits list =
    let o = octets_of_bits list in
    record {
      octets = o.unused ∷ o.octets;
      are = record { unused = o.unused; octets = o.octets; are = refl; below_eight = o.below_eight; same = o.same };
      are_octets = (omega (arith, o.below_eight), o.are_octets);
    }

-- strings
some_teletex : (list : List ℕ) → All (λ unit. unit < 256) list ⊎ SomeIsWide list
some_teletex [] = inl (All-nil (λ unit. unit < 256))
some_teletex (u ∷ us) = by (cases_lt u 256) (some_teletex us)
  where
    by : (u < 256) ⊎ (256 ≤ u) → All (λ unit. unit < 256) us ⊎ SomeIsWide us → All (λ unit. unit < 256) (u ∷ us) ⊎ SomeIsWide (u ∷ us)
    by (inr wide) later = inr (record { unit = u; among = Contains-get_or (u ∷ us) 0 0 (omega arith); above = wide })
    by (inl small) (inl fit) = inl (All-cons (λ unit. unit < 256) u us small fit)
    by (inl small) (inr wide) = inr (record { unit = wide.unit; among = (suc wide.among.0, omega (arith, wide.among.1), wide.among.2); above = wide.above })

twos_below : (list : List ℕ) → AllBelowBase 256 (flat_map (λ n. two_bytes n) list)
twos_below [] = tt
twos_below (n ∷ list) = below_both (two_bytes n) (flat_map (λ n. two_bytes n) list) (bytes_below 2 n) (twos_below list)

octets_are : (list : List ℕ) → All (λ unit. unit < 256) list → HasOctets (λ octets. octets ≡ list)
octets_are list fit = record { octets = list; are = refl; are_octets = recursion_from_All (λ unit. unit < 256) list fit }

some_units : (kind : StringKind) (list : List ℕ) → AreUnitsInRange kind list → HasOctets (AreUnits kind list) ⊎ HasNoContents (units kind list)
some_units octet list fit = inl (octets_are list fit)
some_units utf8 list fit = inl (octets_are list fit)
some_units visible list fit = inl (octets_are list fit)
some_units general list fit = inl (octets_are list fit)
some_units graphic list fit = inl (octets_are list fit)
some_units ia5 list fit = inl (octets_are list fit)
some_units printable list fit = inl (octets_are list fit)
some_units numeric list fit = inl (octets_are list fit)
some_units bmp list fit = inl (record { octets = flat_map (λ n. two_bytes n) list; are = record { are = refl; fit = fit }; are_octets = twos_below list })
some_units teletex list fit = by (some_teletex list)
  where
    by : All (λ unit. unit < 256) list ⊎ SomeIsWide list → HasOctets (AreUnits teletex list) ⊎ SomeIsWide list
    by (inl small) = inl (record { octets = list; are = record { are = refl; fit = small }; are_octets = recursion_from_All (λ unit. unit < 256) list small })
    by (inr wide) = inr wide

pub some_contents : (x : Content) → IsContentInRange x → HasOctets (HasContents x) ⊎ HasNoContents x
some_contents null fits = inl (record { octets = []; are = refl; are_octets = tt })
some_contents (boolean true) fits = inl (record { octets = 255 ∷ []; are = refl; are_octets = (omega arith, tt) })
some_contents (boolean false) fits = inl (record { octets = 0 ∷ []; are = refl; are_octets = (omega arith, tt) })
some_contents (number z) fits = inl (some_integer z)
some_contents (discriminant labels z) fits = let i = some_integer z in inl (record { octets = i.octets; are = (i.are, fits); are_octets = i.are_octets })
some_contents (arcs list) fits = some_arcs list fits
some_contents (bits list) fits = inl (some_bits list)
some_contents (units kind list) fits = some_units kind list fits
