-- The symbol that an error of base64 is about is one of those that were decoded.
use Rattle.std.proofs.Common.{◌≡◌, ℕ, zero, suc, ◌+◌, ◌-◌, ◌*◌, ◌%◌, ◌==◌, ◌<◌, ◌≤◌, nat_lt, not, ◌&&◌, Bool, true, false, List, [], ◌∷◌, length, drop, slice_index, refl, subst, arith, length-drop, if◌then◌else◌}
use Rattle.std.specs.declared.option.Option.{Option}
use Rattle.std.specs.declared.option.Option.TheVariants.{None, Some}
use Rattle.std.specs.declared.result.Result.{Result}
use Rattle.std.specs.declared.result.Result.TheVariants.{Ok, Err}
use Rattle.base64.specs.Decode.{decode_error, decode_outcome, decoded_bytes, group_error, groups_before_last, groups_error, leftover_error, lone_error, no_leftover, or_else, padding_error, push_leftover, scan_error, scan_last, scan_steps, symbol_error, trailing_bits}
use Rattle.base64.specs.Engines.{standard}
use Rattle.base64.specs.GeneralPurpose.{decode_of}
use Rattle.base64.specs.declared.decode.DecodeError.{DecodeError}
use Rattle.base64.specs.declared.decode.DecodeError.TheVariants.{InvalidByte, InvalidLength, InvalidLastSymbol, InvalidPadding}
use Rattle.base64.specs.declared.engine.DecodePaddingMode.{DecodePaddingMode}
use Rattle.base64.specs.declared.engine.DecodePaddingMode.TheVariants.{Indifferent, RequireCanonical, RequireNone}
use Rattle.asn1_certificate_text.specs.PemRefusals.{symbol_of}

abbrev type_of : {A : Type 0} → A → Type 0
type_of {A} a = A

-- the state of a scan, whose own name is not for other crates
abbrev Leftover : Type 0
Leftover = type_of no_leftover

-- the symbol that an error is about is one of the first n, if it is about one
abbrev IsInside : ℕ → DecodeError → Type 0
IsInside n (InvalidByte k byte) = k < n
IsInside n (InvalidLength end) = Unit {0}
IsInside n (InvalidLastSymbol k byte value) = k < n
IsInside n InvalidPadding = Unit {0}

-- the same of an error that there may be
abbrev IsInsideIfAny : ℕ → Option DecodeError → Type 0
IsInsideIfAny n None = Unit {0}
IsInsideIfAny n (Some e) = IsInside n e

-- the same of a scan, which counts no more than the i symbols that it has passed
abbrev IsInsideOrCounted : ℕ → ℕ → Result Leftover DecodeError → Type 0
IsInsideOrCounted n i (Ok st) = (st.morsels_count ≤ i) × (st.first_padding_offset ≤ i)
IsInsideOrCounted n i (Err e) = IsInside n e

choice : (n : ℕ) (b : Bool) (x y : Option DecodeError) → (b ≡ true → IsInsideIfAny n x) → IsInsideIfAny n y → IsInsideIfAny n (if b then x else y)
choice n true x y h k = h refl
choice n false x y h k = k

first_of_two : (n : ℕ) (x y : Option DecodeError) → IsInsideIfAny n x → IsInsideIfAny n y → IsInsideIfAny n (or_else x y)
first_of_two n None y h k = k
first_of_two n (Some e) y h k = h

one_symbol : (dec s : List ℕ) (i n : ℕ) → i < n → IsInsideIfAny n (symbol_error dec s i)
one_symbol dec s i n lt = choice n (slice_index dec (slice_index s i) == 255) _ None (λ _. lt) tt

one_group : (dec s : List ℕ) (i n : ℕ) → i + 4 ≤ n → IsInsideIfAny n (group_error dec s i)
one_group dec s i n le =
    first_of_two n _ _ (one_symbol dec s i n (omega arith))
    (first_of_two n _ _ (one_symbol dec s (i + 1) n (omega arith))
    (first_of_two n _ _ (one_symbol dec s (i + 2) n (omega arith)) (one_symbol dec s (i + 3) n (omega arith))))

all_groups : (dec s : List ℕ) (q n : ℕ) → 4 * q ≤ n → IsInsideIfAny n (groups_error dec s q)
unfolding groups_error
all_groups dec s zero n le = tt
all_groups dec s (suc q) n le =
    first_of_two n (groups_error dec s q) (group_error dec s (4 * q)) (all_groups dec s q n (omega arith)) (one_group dec s (4 * q) n (omega arith))

lone_symbol : (dec : List ℕ) (pad : ℕ) (s : List ℕ) → 0 < length s → IsInsideIfAny (length s) (lone_error dec pad s)
lone_symbol dec pad s some = choice (length s) _ (Some (InvalidByte (length s - 1) (slice_index s (length s - 1)))) None (λ _. omega arith) tt

result_choice : (n i : ℕ) (b : Bool) (x y : Result Leftover DecodeError) → IsInsideOrCounted n i x → IsInsideOrCounted n i y → IsInsideOrCounted n i (if b then x else y)
result_choice n i true x y h k = h
result_choice n i false x y h k = k

number_choice : (b : Bool) (i j m : ℕ) → i ≤ m → j ≤ m → (if b then i else j) ≤ m
number_choice true i j m h k = h
number_choice false i j m h k = k

one_step : (dec : List ℕ) (pad at : ℕ) (st : Leftover) (i b n : ℕ) → at + i < n → IsInsideOrCounted n i (Ok st)
    → IsInsideOrCounted n (i + 1) (push_leftover dec pad at st i b)
one_step dec pad at st i b n lt counted =
    result_choice n (i + 1) (b == pad) _ _
    (result_choice n (i + 1) (nat_lt i 2) _ _ lt
    (omega (arith, counted.0), number_choice (st.padding_count == 0) i st.first_padding_offset (i + 1) (omega arith) (omega (arith, counted.1))))
    (result_choice n (i + 1) (nat_lt 0 st.padding_count) _ _ (omega (arith, counted.1))
    (result_choice n (i + 1) (slice_index dec b == 255) _ _ lt (omega (arith, counted.0), omega (arith, counted.1))))

all_steps : (dec : List ℕ) (pad at : ℕ) (r : Result Leftover DecodeError) (i : ℕ) (bs : List ℕ) (n : ℕ) → at + i + length bs ≤ n
    → IsInsideOrCounted n i r → IsInsideOrCounted n (i + length bs) (scan_steps dec pad at r i bs)
unfolding scan_steps
all_steps dec pad at (Err e) i bs n le h = h
all_steps dec pad at (Ok st) i [] n le h = (omega (arith, h.0), omega (arith, h.1))
all_steps dec pad at (Ok st) i (b ∷ bs) n le h =
    let next = all_steps dec pad at (push_leftover dec pad at st i b) (i + 1) bs n (omega arith) (one_step dec pad at st i b n (omega arith) h) in
    subst (λ (m : ℕ). IsInsideOrCounted n m (scan_steps dec pad at (push_leftover dec pad at st i b) (i + 1) bs)) (omega arith) next

padding : (n : ℕ) (mode : DecodePaddingMode) (st : Leftover) → IsInsideIfAny n (padding_error mode st)
padding n Indifferent st = tt
padding n RequireCanonical st = choice n ((st.padding_count + st.morsels_count) % 4 == 0) None (Some InvalidPadding) (λ _. tt) tt
padding n RequireNone st = choice n (st.padding_count == 0) None (Some InvalidPadding) (λ _. tt) tt

leftover : (empty : Bool) (at : ℕ) (allow : Bool) (mode : DecodePaddingMode) (st : Leftover) (i n : ℕ) → 0 < n → at + i ≤ n
    → IsInsideOrCounted n i (Ok st) → IsInsideIfAny n (leftover_error empty at allow mode st)
leftover empty at allow mode st i n some le counted =
    choice n (not empty && nat_lt st.morsels_count 2) _ _ (λ _. tt)
    (first_of_two n _ _ (padding n mode st)
    (choice n (not allow && not (trailing_bits st == 0)) (Some (InvalidLastSymbol (at + st.morsels_count - 1) st.last_symbol st.last_symbol_value)) None
    (λ _. omega (arith, counted.0)) tt))

scanned : (empty : Bool) (at : ℕ) (allow : Bool) (mode : DecodePaddingMode) (r : Result Leftover DecodeError) (i n : ℕ) → 0 < n → at + i ≤ n
    → IsInsideOrCounted n i r → IsInsideIfAny n (scan_error empty at allow mode r)
scanned empty at allow mode (Ok st) i n some le h = leftover empty at allow mode st i n some le h
scanned empty at allow mode (Err e) i n some le h = h

whole : (dec : List ℕ) (pad : ℕ) (allow : Bool) (mode : DecodePaddingMode) (s : List ℕ) → 0 < length s
    → IsInsideIfAny (length s) (decode_error dec pad allow mode s)
whole dec pad allow mode s some =
    let at = 4 * groups_before_last (length s) in
    let low : at ≤ length s = omega arith in
    let left : at + length (drop at s) ≤ length s = omega (arith, length-drop at s) in
    first_of_two (length s) _ _ (lone_symbol dec pad s some)
    (first_of_two (length s) _ _ (all_groups dec s (groups_before_last (length s)) (length s) low)
    (scanned (length s == 0) at allow mode (scan_last dec pad at s) (length (drop at s)) (length s) some left
    (subst (λ (m : ℕ). IsInsideOrCounted (length s) m (scan_last dec pad at s)) (omega arith)
    (all_steps dec pad at (Ok no_leftover) 0 (drop at s) (length s) (omega (arith, left)) (omega arith, omega arith)))))

outcome : (n : ℕ) (r : Option DecodeError) (b : List ℕ) (error : DecodeError) → IsInsideIfAny n r → decode_outcome r b ≡ Err error → IsInside n error
outcome n None b error h is = cc
outcome n (Some e) b error h is = let same : e ≡ error = cc in subst (IsInside n) same h

about : (n : ℕ) (error : DecodeError) (symbol : ℕ) → IsInside n error → symbol_of error ≡ Some symbol → symbol < n
about n (InvalidByte k byte) symbol h is = let same : k ≡ symbol = cc in subst (λ (m : ℕ). m < n) same h
about n (InvalidLength end) symbol h is = cc
about n (InvalidLastSymbol k byte value) symbol h is = let same : k ≡ symbol = cc in subst (λ (m : ℕ). m < n) same h
about n InvalidPadding symbol h is = cc

-- the symbol that an error is about is one of those that were decoded
pub symbol_is_inside : (s : List ℕ) (error : DecodeError) (symbol : ℕ) → decode_of standard s ≡ Err error → symbol_of error ≡ Some symbol → symbol < length s
unfolding groups_error scan_steps
symbol_is_inside [] error symbol refused is = cc
symbol_is_inside (x ∷ xs) error symbol refused is =
    let inside = whole standard.decode_table standard.padding.value standard.config.decode_allow_trailing_bits standard.config.decode_padding_mode
    (x ∷ xs) (omega arith) in
    about (length (x ∷ xs)) error symbol
    (outcome (length (x ∷ xs)) _ (decoded_bytes standard.decode_table standard.padding.value (x ∷ xs)) error inside refused) is
