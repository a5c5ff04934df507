-- Facts on the dotted texts of object identifiers: what is written is read, and what is read is as it would be written.
use Rattle.std.proofs.Common.{◌≡◌, ℕ, zero, suc, ◌+◌, ◌^◌, ◌<◌, Bool, true, false, not, ◌&&◌, ◌==◌, cond, List, [], ◌∷◌, ◌++◌, length, get_or, drop, map, Result, Ok, Err, refl, sym, ap, ◌∙◌, append_assoc, append-nil, MatchResult, arith, lit<}
use Rattle.std.specs.Char.{is_ascii_digit}
use Rattle.std.specs.Fmt.{decimal}
use Rattle.std.specs.List.{All, join_with_byte, list_all, slice_split}
use Rattle.std.specs.Str.{all_ascii_digits}
use Rattle.std.specs.Result.{OkIff}
use Rattle.std.specs.Str.Parse.{digits_value, ParsesUnsigned}
use Rattle.std.proofs.lemmas.Bool.Decides.{nat_tests}
use Rattle.std.proofs.lemmas.Fmt.{decimal-digits_value, decimal_digit, decimal_nonempty, digits_decimal, digits_value-decimal, first_decimal}
use Rattle.std.specs.Str.Iter.{split_has_more, split_pattern, split_steps, split_text}
use Rattle.std.specs.Str.Pattern.{FindsChar}
use Rattle.std.specs.declared.str.Split.{Split}
use Rattle.std.proofs.lemmas.Iterator.{YieldsList}
use Rattle.std.proofs.lemmas.Iterator.Splits.{YieldsList-from_str_split}
use Rattle.std.proofs.lemmas.List.{at_drop_all, at_drop_more}
use Rattle.std.proofs.lemmas.List.Elements.{All-cons, All-head, All-nil, All-tail}
use Rattle.std.proofs.lemmas.List.Splits.{join_with_byte-slice_split, slice_split_at, slice_split_none}
use Rattle.std.proofs.lemmas.Str.Parse.{IsNumeralModel, numerals_by_value, parse_digits, tells_all_ascii_digits}
use Rattle.asn1_strings.specs.declared.error.ArcError.{ArcError}
use Rattle.asn1_strings.specs.declared.error.ArcError.TheVariants.{Empty, NotADigit, LeadingZero, TooGreat}
use Rattle.asn1_strings.specs.declared.error.ObjectIdentifierError.{ObjectIdentifierError}
use Rattle.asn1_strings.specs.declared.error.ObjectIdentifierError.TheVariants.{Arc}
use Rattle.asn1_strings.specs.Dotted.{after_arc, arc_of, arc_of_digits, arcs_after, arcs_of, dotted, has_leading_zero}

-- texts of digits, and their numbers
pub digit_texts : IsNumeralModel (λ ds. all_ascii_digits ds ≡ true) (digits_value 10)
digit_texts = numerals_by_value _ tells_all_ascii_digits

-- the test of all bytes, in the library's other word
pub all_ascii_digits-is : (bs : List ℕ) → list_all is_ascii_digit bs ≡ all_ascii_digits bs
all_ascii_digits-is [] = refl
all_ascii_digits-is (b ∷ bs) = ap (λ rest. is_ascii_digit b && rest) (all_ascii_digits-is bs)

-- ---- one arc

-- the tests of a text that is an arc
arc_of-tests : (empty digits leads fits : Bool) (n arc : ℕ) → cond empty (Err Empty) (cond (not digits) (Err NotADigit) (cond leads (Err LeadingZero) (cond fits (Ok n) (Err TooGreat)))) ≡ Ok arc → (empty ≡ false) × (digits ≡ true) × (leads ≡ false) × (fits ≡ true) × (n ≡ arc)
arc_of-tests true digits leads fits n arc e = absurd cc
arc_of-tests false false leads fits n arc e = absurd cc
arc_of-tests false true true fits n arc e = absurd cc
arc_of-tests false true false false n arc e = absurd cc
arc_of-tests false true false true n arc e = (refl, refl, refl, refl, cc)

-- and what they make it
arc_of-passed : (empty digits leads fits : Bool) (n : ℕ) → empty ≡ false → digits ≡ true → leads ≡ false → fits ≡ true → cond empty (Err Empty) (cond (not digits) (Err NotADigit) (cond leads (Err LeadingZero) (cond fits (Ok n) (Err TooGreat)))) ≡ Ok n
arc_of-passed empty digits leads fits n p q r s = rw (p, q, r, s) refl

-- a text that is an arc is what is written of it
pub decimal-arc_of : (text : List ℕ) (arc : ℕ) → arc_of text ≡ Ok arc → decimal arc ≡ text
decimal-arc_of text arc e =
    let t = arc_of-tests _ _ _ _ _ arc e in
    let empty = t.0 in
    let leading = t.2 in
    let fits = t.3 in
    let some : 0 < length text = grind (arith, nat_tests) in
    let first : get_or text 0 0 ≡ 48 → length text ≡ 1 = λ zero. grind (arith, nat_tests) in
    let small : digits_value 10 text < 2 ^ 64 = grind (arith, nat_tests) in
    ap decimal (sym t.4) ∙ decimal-digits_value digit_texts text t.1 some first small

-- no number is written with a leading zero
has_leading_zero-one : (bs : List ℕ) → length bs ≡ 1 → has_leading_zero bs ≡ false
has_leading_zero-one bs one = grind (arith, nat_tests)

has_leading_zero-above : (bs : List ℕ) → 48 < get_or bs 0 0 → has_leading_zero bs ≡ false
has_leading_zero-above bs above = grind (arith, nat_tests)

has_leading_zero-decimal : (arc : ℕ) → arc < 2 ^ 32 → has_leading_zero (decimal arc) ≡ false
has_leading_zero-decimal zero small = has_leading_zero-one (decimal 0) (ap length (decimal_digit 0 (omega arith)))
has_leading_zero-decimal (suc arc) small = has_leading_zero-above (decimal (suc arc)) (first_decimal (suc arc) (omega arith) (omega arith))

-- the text of an arc is read as that arc
pub arc_of-decimal : (arc : ℕ) → arc < 2 ^ 32 → arc_of (decimal arc) ≡ Ok arc
arc_of-decimal arc small =
    let some = decimal_nonempty arc (omega arith) in
    let digits = digits_decimal digit_texts arc (omega arith) in
    let value = digits_value-decimal digit_texts arc (omega arith) in
    arc_of-passed _ _ _ _ _ (grind (arith, nat_tests)) digits (has_leading_zero-decimal arc small) (rw value (grind (arith, nat_tests))) ∙ ap Ok value

-- the answer of `parse` for digits
pub arc_of_digits-parsed : {E : Type 0} (digits : List ℕ) (r : Result ℕ E) → ParsesUnsigned 32 10 digits r → 0 < length digits → all_ascii_digits digits ≡ true → MatchResult r (λ arc. Ok arc ≡ arc_of_digits digits) (λ _. Err TooGreat ≡ arc_of_digits digits)
arc_of_digits-parsed {E = E} digits r parsed some all = by r (parse_digits digit_texts 32 digits r parsed all)
  where
    by : (r : Result ℕ E) → OkIff r ((0 < length digits) × (digits_value 10 digits < 2 ^ 32)) (digits_value 10 digits) → MatchResult r (λ arc. Ok arc ≡ arc_of_digits digits) (λ _. Err TooGreat ≡ arc_of_digits digits)
    by (Ok arc) h = let small = h.0.1 in let same = h.1 in rw same (grind (arith, nat_tests))
    by (Err e) h = let big : ¬ (digits_value 10 digits < 2 ^ 32) = λ small. h (some, small) in grind (arith, nat_tests)

-- and has no dot
no_dot : (bs : List ℕ) → all_ascii_digits bs ≡ true → All (λ b. (b == 46) ≡ false) bs
no_dot [] e = All-nil (λ b. (b == 46) ≡ false)
no_dot (b ∷ bs) e = All-cons (λ b. (b == 46) ≡ false) b bs (grind (arith, nat_tests)) (no_dot bs (grind (arith, nat_tests)))

-- ---- all arcs

-- the text of the arcs, in the library's other word
dotted-joined : (arcs : List ℕ) → dotted arcs ≡ join_with_byte 46 (map decimal arcs)
dotted-joined [] = refl
dotted-joined (arc ∷ []) = append-nil (decimal arc)
dotted-joined (arc ∷ next ∷ arcs) = ap (λ rest. decimal arc ++ 46 ∷ rest) (dotted-joined (next ∷ arcs))

-- an arc's text has no dot
no_dot-decimal : (arc : ℕ) (arcs : List ℕ) → All (λ a. a < 2 ^ 32) (arc ∷ arcs) → All (λ b. (b == 46) ≡ false) (decimal arc)
no_dot-decimal arc arcs small =
    let fits : arc < 2 ^ 32 = All-head (λ a. a < 2 ^ 32) arc arcs small in
    no_dot (decimal arc) (digits_decimal digit_texts arc (omega arith))

-- the text is cut into those of the arcs
split-dotted : (arc : ℕ) (arcs : List ℕ) → All (λ a. a < 2 ^ 32) (arc ∷ arcs) → slice_split (λ c. c == 46) (dotted (arc ∷ arcs)) ≡ map decimal (arc ∷ arcs)
split-dotted arc [] small = ap (slice_split (λ c. c == 46)) (append-nil (decimal arc)) ∙ slice_split_none (λ c. c == 46) (decimal arc) (no_dot-decimal arc [] small)
split-dotted arc (next ∷ arcs) small =
    slice_split_at (λ c. c == 46) (decimal arc) 46 (dotted (next ∷ arcs)) (no_dot-decimal arc (next ∷ arcs) small) refl ∙ ap (λ texts. decimal arc ∷ texts) (split-dotted next arcs (All-tail (λ a. a < 2 ^ 32) arc (next ∷ arcs) small))

-- the arcs of texts that were written
arcs_after-decimals : (done arcs : List ℕ) → All (λ a. a < 2 ^ 32) arcs → arcs_after done (map decimal arcs) ≡ Ok (done ++ arcs)
arcs_after-decimals done [] small = ap Ok (sym (append-nil done))
arcs_after-decimals done (arc ∷ arcs) small =
    let fits = All-head (λ a. a < 2 ^ 32) arc arcs small in
    ap (λ r. after_arc r (length done) (λ a. arcs_after (done ++ a ∷ []) (map decimal arcs))) (arc_of-decimal arc fits) ∙ arcs_after-decimals (done ++ arc ∷ []) arcs (All-tail (λ a. a < 2 ^ 32) arc arcs small) ∙ ap Ok (append_assoc done (arc ∷ []) arcs)

-- the text of arcs is read as these arcs
pub arcs_of-dotted : (arcs : List ℕ) → 0 < length arcs → All (λ a. a < 2 ^ 32) arcs → arcs_of (dotted arcs) ≡ Ok arcs
arcs_of-dotted [] some small = absurd (omega arith)
arcs_of-dotted (arc ∷ arcs) some small = ap (arcs_after []) (split-dotted arc arcs small) ∙ arcs_after-decimals [] (arc ∷ arcs) small

-- the arcs that were read after others, and their texts
record Written (done : List ℕ) (texts : List (List ℕ)) (all : List ℕ) : Type 0 where
  arcs : List ℕ
  added : all ≡ done ++ arcs
  texts_of : map decimal arcs ≡ texts

Written-step : (done all : List ℕ) (text : List ℕ) (texts : List (List ℕ)) (r : Result ℕ ArcError) → arc_of text ≡ r → after_arc r (length done) (λ arc. arcs_after (done ++ arc ∷ []) texts) ≡ Ok all → ((so_far : List ℕ) → arcs_after so_far texts ≡ Ok all → Written so_far texts all) → Written done (text ∷ texts) all
Written-step done all text texts (Ok arc) is e rest =
    let w = rest (done ++ arc ∷ []) e in
    record { arcs = arc ∷ w.arcs; added = w.added ∙ append_assoc done (arc ∷ []) w.arcs; texts_of = ap (λ t. t ∷ map decimal w.arcs) (decimal-arc_of text arc is) ∙ ap (λ ts. text ∷ ts) w.texts_of }
Written-step done all text texts (Err why) is e rest = absurd cc

written : (done all : List ℕ) (texts : List (List ℕ)) → arcs_after done texts ≡ Ok all → Written done texts all
written done all [] e = let same : done ≡ all = cc in record { arcs = []; added = sym same ∙ sym (append-nil done); texts_of = refl }
written done all (text ∷ texts) e = Written-step done all text texts (arc_of text) refl e (λ so_far. written so_far all texts)

-- a text that was read is what is written of its arcs
pub dotted-arcs_of : (text name : List ℕ) → arcs_of text ≡ Ok name → dotted name ≡ text
dotted-arcs_of text name e =
    let w = written [] name (slice_split (λ c. c == 46) text) e in
    ap dotted w.added ∙ dotted-joined w.arcs ∙ ap (join_with_byte 46) w.texts_of ∙ join_with_byte-slice_split 46 text

-- ---- a loop over the texts

-- the texts that cutting at dots yields
pub yields_parts : {s t : Split ℕ} (text : List ℕ) → t ≡ s → split_text s ≡ text → split_has_more s ≡ true → split_pattern s ≡ 46 → YieldsList (split_steps FindsChar (λ a b. b ≡ a)) (λ x. x.now) t (slice_split (λ c. c == 46) text)
yields_parts {t = t} text same cut more pattern =
    YieldsList-from_str_split {s = t} 46 text (lit< tt) (ap split_text same ∙ cut) (ap split_has_more same ∙ more) (ap split_pattern same ∙ pattern)

-- an arc is read
pub arcs_after-more : (arcs more : List ℕ) (texts : List (List ℕ)) (n m arc : ℕ) (text : List ℕ) (all : Result (List ℕ) ObjectIdentifierError) → arcs_after arcs (drop n texts) ≡ all → (n < length texts) × (text ≡ get_or texts n text) → Ok arc ≡ arc_of text → more ≡ arcs ++ arc ∷ [] → m ≡ n + 1 → arcs_after more (drop m texts) ≡ all
arcs_after-more arcs more texts n m arc text all e at is pushed next =
    let step = at_drop_more (arcs_after arcs) texts n text at.0 in
    rw (pushed, next) (ap (λ r. after_arc r (length arcs) (λ a. arcs_after (arcs ++ a ∷ []) (drop (n + 1) texts))) is ∙ ap (λ t. after_arc (arc_of t) (length arcs) (λ a. arcs_after (arcs ++ a ∷ []) (drop (n + 1) texts))) at.1 ∙ sym step ∙ e)

-- a text is no arc
pub arcs_after-refused : (arcs : List ℕ) (texts : List (List ℕ)) (n : ℕ) (text : List ℕ) (why : ArcError) (all : Result (List ℕ) ObjectIdentifierError) → arcs_after arcs (drop n texts) ≡ all → (n < length texts) × (text ≡ get_or texts n text) → Err why ≡ arc_of text → all ≡ Err (Arc (length arcs) why)
arcs_after-refused arcs texts n text why all e at is =
    let step = at_drop_more (arcs_after arcs) texts n text at.0 in
    sym e ∙ step ∙ sym (ap (λ t. after_arc (arc_of t) (length arcs) (λ a. arcs_after (arcs ++ a ∷ []) (drop (n + 1) texts))) at.1) ∙ sym (ap (λ r. after_arc r (length arcs) (λ a. arcs_after (arcs ++ a ∷ []) (drop (n + 1) texts))) is)

-- all are read
pub arcs_after-all : (arcs : List ℕ) (texts : List (List ℕ)) (n : ℕ) (all : Result (List ℕ) ObjectIdentifierError) → arcs_after arcs (drop n texts) ≡ all → n ≡ length texts → all ≡ Ok arcs
arcs_after-all arcs texts n all e ended = sym e ∙ at_drop_all (arcs_after arcs) texts n (omega arith)
