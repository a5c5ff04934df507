-- The laws of constraint sets: intersection associates, and the set of a list is the intersection of its constraints'.
use Rattle.std.proofs.Common.{◌≡◌, ◌↔◌, ◌∙◌, sym, ap, ℕ, ◌+◌, ◌<◌, ℤ, cond, List, [], ◌∷◌, ◌++◌, length, take, get_or, Option, Some, None, refl}
use Rattle.std.specs.Prelude.{⊤, All, MatchOption, IsNone, is_some}
use Rattle.std.proofs.Math.Bool.{or_assoc, or-false}
use Rattle.std.proofs.lemmas.List.{take_more}
use Rattle.std.proofs.lemmas.List.Elements.{All-nil, All-cons, All-head, All-tail, All-take}
use Rattle.asn1_bounds.specs.Admitted.{HasValue, HasLength, IsPermitted, common_characters}
use Rattle.asn1_bounds.specs.ConstraintKind.{alphabet_of}
use Rattle.asn1_bounds.specs.Sets.{common_values, common_sizes, part_intersection, parts_intersection, set_intersection, no_constraints, set_of_one, set_of_all, AdmitsValue, AdmitsLength, AdmitsCharacter}
use Rattle.asn1_bounds.specs.declared.alphabet.PermittedAlphabet.{PermittedAlphabet}
use Rattle.asn1_bounds.specs.declared.constraint.Constraint.{Constraint}
use Rattle.asn1_bounds.specs.declared.constraint.Constraint.TheVariants as constraint
use Rattle.asn1_bounds.specs.declared.constraints.Constraints.{Constraints}
use Rattle.asn1_bounds.specs.declared.extensible.Extensible.{Extensible}
use Rattle.asn1_bounds.specs.declared.size.Size.{Size}
use Rattle.asn1_bounds.specs.declared.value.Value.{Value}
use Rattle.asn1_bounds.proofs.AlphabetLaws.{common_characters-assoc, common_characters-members}
use Rattle.asn1_bounds.proofs.KindLaws.{value_intersection-assoc, value_intersection-members, size_intersection-assoc, size_intersection-members}

-- the intersection of three parts is extensible if and only if all three are
kept_assoc : {X : Type 0} (a b c : Option X) → cond (is_some c) (cond (is_some b) a None) None ≡ cond (is_some (cond (is_some c) b None)) a None
kept_assoc a b None = refl
kept_assoc a b (Some z) = refl

module _ {T : Type 0} (both : T → T → T) where
  parts_intersection-none : (a : Option (Extensible T)) → parts_intersection both a None ≡ a
  parts_intersection-none None = refl
  parts_intersection-none (Some part) = refl

  module _ (assoc : (a b c : T) → both (both a b) c ≡ both a (both b c)) where
    part_intersection-assoc : (a b c : Extensible T) → part_intersection both (part_intersection both a b) c ≡ part_intersection both a (part_intersection both b c)
    part_intersection-assoc a b c = rw (assoc a.constraint b.constraint c.constraint, kept_assoc a.extensible b.extensible c.extensible) refl

    parts_intersection-assoc : (a b c : Option (Extensible T)) → parts_intersection both (parts_intersection both a b) c ≡ parts_intersection both a (parts_intersection both b c)
    parts_intersection-assoc None b c = refl
    parts_intersection-assoc (Some a) None c = refl
    parts_intersection-assoc (Some a) (Some b) None = refl
    parts_intersection-assoc (Some a) (Some b) (Some c) = ap Some (part_intersection-assoc a b c)

common_values-assoc : (a b c : Value) → common_values (common_values a b) c ≡ common_values a (common_values b c)
common_values-assoc a b c = rw (value_intersection-assoc a.bound b.bound c.bound) refl

common_sizes-assoc : (a b c : Size) → common_sizes (common_sizes a b) c ≡ common_sizes a (common_sizes b c)
common_sizes-assoc a b c = rw (size_intersection-assoc a.bound b.bound c.bound) refl

pub set_intersection-assoc : (a b c : Constraints) → set_intersection (set_intersection a b) c ≡ set_intersection a (set_intersection b c)
set_intersection-assoc a b c =
    rw (
      parts_intersection-assoc common_values common_values-assoc a.value b.value c.value,
      parts_intersection-assoc common_sizes common_sizes-assoc a.size b.size c.size,
      parts_intersection-assoc common_characters common_characters-assoc a.permitted_alphabet b.permitted_alphabet c.permitted_alphabet,
      or_assoc a.extensible b.extensible c.extensible,
    ) refl

pub set_intersection-none : (a : Constraints) → set_intersection a no_constraints ≡ a
set_intersection-none a =
    rw (parts_intersection-none common_values a.value, parts_intersection-none common_sizes a.size, parts_intersection-none common_characters a.permitted_alphabet, or-false a.extensible) refl

-- the set of one list followed by another
pub set_of_all-append : (xs ys : List Constraint) → set_of_all (xs ++ ys) ≡ set_intersection (set_of_all xs) (set_of_all ys)
set_of_all-append [] ys = refl
set_of_all-append (x ∷ xs) ys =
    ap (set_intersection (set_of_one x)) (set_of_all-append xs ys) ∙ sym (set_intersection-assoc (set_of_one x) (set_of_all xs) (set_of_all ys))

-- one more constraint of a list
set_of_all-take : (xs : List Constraint) (i : ℕ) (d : Constraint) → i < length xs →
    set_intersection (set_of_all (take i xs)) (set_of_one (get_or xs i d)) ≡ set_of_all (take (i + 1) xs)
set_of_all-take xs i d h =
    rw (take_more xs i d h)
    (sym (set_of_all-append (take i xs) (get_or xs i d ∷ []) ∙ ap (set_intersection (set_of_all (take i xs))) (set_intersection-none (set_of_one (get_or xs i d)))))

-- the step of a loop over the list
pub set_of_all-step : (xs : List Constraint) (i : ℕ) (d : Constraint) (set one new : Constraints) → i < length xs →
    one ≡ set_of_one (get_or xs i d) → new ≡ set_intersection set one → set ≡ set_of_all (take i xs) → new ≡ set_of_all (take (i + 1) xs)
set_of_all-step xs i d set one new h p q r = rw (q, p, r) (set_of_all-take xs i d h)

-- the parts of one kind of two sets
parts-values : (a b : Option (Extensible Value)) (n : ℤ) → MatchOption (parts_intersection common_values a b) ⊤ (λ part. HasValue part.constraint.bound n)
    ↔ (MatchOption a ⊤ (λ part. HasValue part.constraint.bound n) × MatchOption b ⊤ (λ part. HasValue part.constraint.bound n))
parts-values None b n = (λ h. (tt, h), λ h. h.1)
parts-values (Some a) None n = (λ h. (h, tt), λ h. h.0)
parts-values (Some a) (Some b) n = value_intersection-members a.constraint.bound b.constraint.bound n

parts-lengths : (a b : Option (Extensible Size)) (n : ℕ) → MatchOption (parts_intersection common_sizes a b) ⊤ (λ part. HasLength part.constraint.bound n)
    ↔ (MatchOption a ⊤ (λ part. HasLength part.constraint.bound n) × MatchOption b ⊤ (λ part. HasLength part.constraint.bound n))
parts-lengths None b n = (λ h. (tt, h), λ h. h.1)
parts-lengths (Some a) None n = (λ h. (h, tt), λ h. h.0)
parts-lengths (Some a) (Some b) n = size_intersection-members a.constraint.bound b.constraint.bound n

parts-characters : (a b : Option (Extensible PermittedAlphabet)) (n : ℕ) → MatchOption (parts_intersection common_characters a b) ⊤ (λ part. IsPermitted part.constraint n)
    ↔ (MatchOption a ⊤ (λ part. IsPermitted part.constraint n) × MatchOption b ⊤ (λ part. IsPermitted part.constraint n))
parts-characters None b n = (λ h. (tt, h), λ h. h.1)
parts-characters (Some a) None n = (λ h. (h, tt), λ h. h.0)
parts-characters (Some a) (Some b) n = common_characters-members a.constraint b.constraint n

pub set_intersection-values : (a b : Constraints) (n : ℤ) → AdmitsValue (set_intersection a b) n ↔ (AdmitsValue a n × AdmitsValue b n)
set_intersection-values a b n = parts-values a.value b.value n

pub set_intersection-lengths : (a b : Constraints) (n : ℕ) → AdmitsLength (set_intersection a b) n ↔ (AdmitsLength a n × AdmitsLength b n)
set_intersection-lengths a b n = parts-lengths a.size b.size n

pub set_intersection-characters : (a b : Constraints) (n : ℕ) → AdmitsCharacter (set_intersection a b) n ↔ (AdmitsCharacter a n × AdmitsCharacter b n)
set_intersection-characters a b n = parts-characters a.permitted_alphabet b.permitted_alphabet n

-- the set of a list admits whatever each of its constraints admits
module _ (Admits : Constraints → Type 0) (none : Admits no_constraints) (both : (a b : Constraints) → Admits (set_intersection a b) ↔ (Admits a × Admits b)) where
  all-admit : (cs : List Constraint) → Admits (set_of_all cs) ↔ All (λ c. Admits (set_of_one c)) cs
  all-admit [] = (λ _. All-nil (λ c. Admits (set_of_one c)), λ _. none)
  all-admit (c ∷ cs) =
      let first = both (set_of_one c) (set_of_all cs) in
      let others = all-admit cs in (
        λ h. All-cons (λ c. Admits (set_of_one c)) c cs (first.0 h).0 (others.0 (first.0 h).1),
        λ h. first.1 (All-head (λ c. Admits (set_of_one c)) c cs h, others.1 (All-tail (λ c. Admits (set_of_one c)) c cs h)),
      )

pub set_of_all-values : (cs : List Constraint) (n : ℤ) → AdmitsValue (set_of_all cs) n ↔ All (λ c. AdmitsValue (set_of_one c) n) cs
set_of_all-values cs n = all-admit (λ set. AdmitsValue set n) tt (λ a b. set_intersection-values a b n) cs

pub set_of_all-lengths : (cs : List Constraint) (n : ℕ) → AdmitsLength (set_of_all cs) n ↔ All (λ c. AdmitsLength (set_of_one c) n) cs
set_of_all-lengths cs n = all-admit (λ set. AdmitsLength set n) tt (λ a b. set_intersection-lengths a b n) cs

pub set_of_all-characters : (cs : List Constraint) (n : ℕ) → AdmitsCharacter (set_of_all cs) n ↔ All (λ c. AdmitsCharacter (set_of_one c) n) cs
set_of_all-characters cs n = all-admit (λ set. AdmitsCharacter set n) tt (λ a b. set_intersection-characters a b n) cs

-- constraints without a permitted alphabet come to a set without one
pub set_of_one-without_alphabet : (c : Constraint) → IsNone (alphabet_of c) → IsNone (set_of_one c).permitted_alphabet
set_of_one-without_alphabet (constraint.Value part) h = refl
set_of_one-without_alphabet (constraint.Size part) h = refl
set_of_one-without_alphabet (constraint.PermittedAlphabet part) h = h
set_of_one-without_alphabet constraint.Extensible h = refl

parts-without_alphabet : (a b : Option (Extensible PermittedAlphabet)) → IsNone a → IsNone b → IsNone (parts_intersection common_characters a b)
parts-without_alphabet None b p q = q
parts-without_alphabet (Some a) None p q = p
parts-without_alphabet (Some a) (Some b) p q = p

set_of_all-without_alphabet : (cs : List Constraint) → All (λ c. IsNone (alphabet_of c)) cs → IsNone (set_of_all cs).permitted_alphabet
set_of_all-without_alphabet [] h = refl
set_of_all-without_alphabet (c ∷ cs) h =
    parts-without_alphabet (set_of_one c).permitted_alphabet (set_of_all cs).permitted_alphabet
    (set_of_one-without_alphabet c (All-head (λ c. IsNone (alphabet_of c)) c cs h))
    (set_of_all-without_alphabet cs (All-tail (λ c. IsNone (alphabet_of c)) c cs h))

pub set_of_some-without_alphabet : (cs : List Constraint) (i : ℕ) → All (λ c. IsNone (alphabet_of c)) cs → IsNone (set_of_all (take i cs)).permitted_alphabet
set_of_some-without_alphabet cs i h = set_of_all-without_alphabet (take i cs) (All-take (λ c. IsNone (alphabet_of c)) i cs h)

-- consequences for a set that is the intersection of two
pub record IsIntersection (a b set : Constraints) : Type 0 where
  pub values : (n : ℤ) → AdmitsValue set n ↔ (AdmitsValue a n × AdmitsValue b n)
  pub lengths : (n : ℕ) → AdmitsLength set n ↔ (AdmitsLength a n × AdmitsLength b n)
  pub characters : (n : ℕ) → AdmitsCharacter set n ↔ (AdmitsCharacter a n × AdmitsCharacter b n)
  pub composes : (xs ys : List Constraint) → a ≡ set_of_all xs → b ≡ set_of_all ys → set ≡ set_of_all (xs ++ ys)

pub is-intersection : (a b set : Constraints) → set ≡ set_intersection a b → IsIntersection a b set
is-intersection a b set e =
    rw e (record {
      values = set_intersection-values a b;
      lengths = set_intersection-lengths a b;
      characters = set_intersection-characters a b;
      composes = λ xs ys p q. rw (p, q) (sym (set_of_all-append xs ys));
    })
