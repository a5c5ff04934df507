-- The arcs of an OBJECT IDENTIFIER, number by number.
use Rattle.std.proofs.Common.{◌≡◌, ℕ, ◌+◌, ◌*◌, ◌≤◌, ◌<◌, ◌^◌, List, [], ◌∷◌, ◌++◌, Some, append_assoc, append-nil, length, length-append, refl, sym, ap, subst, ◌∙◌, arith}
use Rattle.std.specs.Prelude.{All, map}
use Rattle.std.proofs.lemmas.List.Elements.{All-cons, All-head, All-nil, All-tail}
use Rattle.asn1_der_items.proofs.Septets.{base128-found}
use Rattle.asn1_der_items.specs.Arcs.{AreArcs, AreNumbers}
use Rattle.asn1_der_items.specs.Base128.{BeginWithNumber, Front, IsBase128, base128_at}

-- The arcs that were read, and the octets left: the numbers of the others.
pub record ArcsRead (list read left : List ℕ) : Type 0 where
  pub others : List ℕ
  pub split : list ≡ read ++ others
  pub numbers : AreNumbers others left
  pub fit : All (λ arc. arc < 2 ^ 32) others

-- The first number, which is two arcs.
pub record FirstNumber (list octets : List ℕ) : Type 0 where
  pub first : ℕ
  pub second : ℕ
  pub left : List ℕ
  pub at : base128_at octets ≡ Some (record { number = first * 40 + second; rest = left })
  pub first_of_three : first ≤ 2
  pub second_below : first < 2 → second < 40
  pub fits : second < 2 ^ 32
  pub after : (read : List ℕ) → read ≡ ([] ++ first ∷ []) ++ second ∷ [] → ArcsRead list read left

pub first_number : (list octets : List ℕ) → AreArcs list octets → FirstNumber list octets
first_number list octets a =
    let fit = subst (All (λ arc. arc < 2 ^ 32)) a.are a.fit in
    let later = All-tail (λ arc. arc < 2 ^ 32) a.first (a.second ∷ a.rest) fit in
    record {
      first = a.first;
      second = a.second;
      left = a.numbers.others;
      at = ap base128_at a.numbers.are ∙ base128-found (a.first * 40 + a.second) a.numbers.first a.numbers.others a.numbers.is_first;
      first_of_three = a.first_of_three;
      second_below = a.second_below;
      fits = All-head (λ arc. arc < 2 ^ 32) a.second a.rest later;
      after = λ read is. record {
        others = a.rest;
        split = a.are ∙ ap (λ l. l ++ a.rest) (sym is);
        numbers = a.numbers.are_others;
        fit = All-tail (λ arc. arc < 2 ^ 32) a.second a.rest later;
      };
    }

-- The next number, which is an arc.
pub record NextArc (list read left : List ℕ) : Type 0 where
  pub arc : ℕ
  pub rest : List ℕ
  pub at : base128_at left ≡ Some (record { number = arc; rest = rest })
  pub fits : arc < 2 ^ 32
  pub after : (new : List ℕ) → new ≡ read ++ arc ∷ [] → ArcsRead list new rest

pub next_arc : (list read left : List ℕ) → ArcsRead list read left → (left ≡ [] → ⊥) → NextArc list read left
next_arc list read left a some = by a.others a.split a.numbers a.fit
  where
    by : (others : List ℕ) → list ≡ read ++ others → AreNumbers others left → All (λ arc. arc < 2 ^ 32) others → NextArc list read left
    by [] split numbers fit = absurd (some numbers)
    by (arc ∷ others) split numbers fit = record {
      arc = arc;
      rest = numbers.others;
      at = ap base128_at numbers.are ∙ base128-found arc numbers.first numbers.others numbers.is_first;
      fits = All-head (λ arc. arc < 2 ^ 32) arc others fit;
      after = λ new is. record {
        others = others;
        split = split ∙ sym (append_assoc read (arc ∷ []) others) ∙ ap (λ l. l ++ others) (sym is);
        numbers = numbers.are_others;
        fit = All-tail (λ arc. arc < 2 ^ 32) arc others fit;
      };
    }

-- a number is not nothing
number_long : (n : ℕ) (octets : List ℕ) → IsBase128 n octets → 1 ≤ length octets
number_long n octets is = omega (arith, ap length is.are, length-append (map (λ d. d + 128) is.leading) (is.last ∷ []))

-- where nothing is left, all arcs were read
pub all_read : (list read left : List ℕ) → left ≡ [] → ArcsRead list read left → read ≡ list
all_read list read left none a = by a.others a.split a.numbers
  where
    by : (others : List ℕ) → list ≡ read ++ others → AreNumbers others left → read ≡ list
    by [] split numbers = sym (split ∙ append-nil read)
    by (arc ∷ others) split numbers =
        absurd (omega (arith, number_long arc numbers.first numbers.is_first, ap length none, ap length numbers.are, length-append numbers.first numbers.others))

-- The octets begin with those of the arcs that were read: with numbers of others behind them they are those of all.
pub record IsBegunWith (octets read left : List ℕ) : Type 0 where
  pub completed : (others : List ℕ) → AreNumbers others left → All (λ arc. arc < 2 ^ 32) others → AreArcs (read ++ others) octets

-- the first number is two arcs
pub two_arcs : (first second : ℕ) (octets : List ℕ) (f : Front) → BeginWithNumber f octets → f.number ≡ first * 40 + second → first ≤ 2 → (first < 2 → second < 40) → first < 2 ^ 32 → second < 2 ^ 32 →
    IsBegunWith octets (([] ++ first ∷ []) ++ second ∷ []) f.rest
two_arcs first second octets f begin sum small low first_fits second_fits = record {
  completed = λ others numbers fit. record {
    first = first;
    second = second;
    rest = others;
    are = refl;
    numbers = record { first = begin.octets; others = f.rest; is_first = subst (λ n. IsBase128 n begin.octets) sum begin.number; are_others = numbers; are = begin.are };
    first_of_three = small;
    second_below = low;
    fit = All-cons (λ arc. arc < 2 ^ 32) first (second ∷ others) first_fits (All-cons (λ arc. arc < 2 ^ 32) second others second_fits fit);
  };
}

-- each that follows is one
pub one_arc : (octets read left : List ℕ) (f : Front) → BeginWithNumber f left → f.number < 2 ^ 32 → IsBegunWith octets read left → IsBegunWith octets (read ++ f.number ∷ []) f.rest
one_arc octets read left f begin fits begun = record {
  completed = λ others numbers fit.
      subst (λ list. AreArcs list octets) (sym (append_assoc read (f.number ∷ []) others))
      (begun.completed (f.number ∷ others) (record { first = begin.octets; others = f.rest; is_first = begin.number; are_others = numbers; are = begin.are })
      (All-cons (λ arc. arc < 2 ^ 32) f.number others fits fit));
}

-- where nothing is left, the octets are those of the arcs
pub arcs_are : (octets read left : List ℕ) → left ≡ [] → IsBegunWith octets read left → AreArcs read octets
arcs_are octets read left none begun = subst (λ list. AreArcs list octets) (append-nil read) (begun.completed [] none (All-nil (λ arc. arc < 2 ^ 32)))
