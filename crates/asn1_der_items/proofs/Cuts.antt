-- Octets that end too early for one reading, and so for another.
use Rattle.std.proofs.Common.{◌≡◌, ℕ, Bool, List, [], ◌∷◌, ◌++◌, Option, None, Some, refl, ap, sym, subst, ◌∙◌}
use Rattle.std.specs.Prelude.{◌↔◌}
use Rattle.asn1_tags.specs.declared.tags.Tag.{Tag}
use Rattle.asn1_items.proofs.Fronts.{IsReadOf}
use Rattle.asn1_der_items.proofs.ElementFronts.{identifier_leaves, identifier_read}
use Rattle.asn1_der_items.specs.Cuts.{EndEarly}
use Rattle.asn1_der_items.specs.Identifiers.{identifier_at}

-- the octets behind the first one
pub early_behind : {A : Type 0} (read other : List ℕ → Option A) (o : ℕ) (rest : List ℕ) → ((l : List ℕ) → read (o ∷ l) ≡ other l) → EndEarly other rest ↔ EndEarly read (o ∷ rest)
early_behind read other o rest is = (
  λ early. record { none = is rest ∙ early.none; more = early.more; whole = early.whole; completed = is (rest ++ early.more) ∙ early.completed },
  λ early. record { none = sym (is rest) ∙ early.none; more = early.more; whole = early.whole; completed = sym (is (rest ++ early.more)) ∙ early.completed },
)

-- the same octets
pub early_same : {A : Type 0} (read other : List ℕ → Option A) (octets : List ℕ) → ((l : List ℕ) → read l ≡ other l) → EndEarly other octets ↔ EndEarly read octets
early_same read other octets is = (
  λ early. record { none = is octets ∙ early.none; more = early.more; whole = early.whole; completed = is (octets ++ early.more) ∙ early.completed },
  λ early. record { none = sym (is octets) ∙ early.none; more = early.more; whole = early.whole; completed = sym (is (octets ++ early.more)) ∙ early.completed },
)

-- Of two ways to take a list apart, one has the longer front.
pub record IsLonger (short long : List ℕ) : Type 0 where
  pub by : List ℕ
  pub are : long ≡ short ++ by

data Longer (a c : List ℕ) : Type 0 where
  first : IsLonger c a → Longer a c
  second : IsLonger a c → Longer a c

one_more : (o : ℕ) (a c : List ℕ) → Longer a c → Longer (o ∷ a) (o ∷ c)
one_more o a c (first l) = first (record { by = l.by; are = ap (λ x. o ∷ x) l.are })
one_more o a c (second l) = second (record { by = l.by; are = ap (λ x. o ∷ x) l.are })

heads : (o p : ℕ) (a c : List ℕ) → o ∷ a ≡ p ∷ c → o ≡ p
heads o p a c e = cc

tails : (o p : ℕ) (a c : List ℕ) → o ∷ a ≡ p ∷ c → a ≡ c
tails o p a c e = cc

longer : (a b c d : List ℕ) → a ++ b ≡ c ++ d → Longer a c
longer [] b c d e = second (record { by = c; are = refl })
longer (o ∷ a) b [] d e = first (record { by = o ∷ a; are = refl })
longer (o ∷ a) b (p ∷ c) d e = subst (λ q. Longer (o ∷ a) (q ∷ c)) (heads o p (a ++ b) (c ++ d) e) (one_more o a c (longer a b c d (tails o p (a ++ b) (c ++ d) e)))

not_both : {A : Type 0} {o : Option A} {x : A} → o ≡ None → o ≡ Some x → ⊥
not_both none some = cc

-- The octets are completed to an identifier by these, whatever follows.
pub record IsCompleted (bytes : List ℕ) : Type 0 where
  pub more : List ℕ
  pub tag : Tag
  pub constructed : Bool
  pub whatever : (back : List ℕ) → identifier_at ((bytes ++ more) ++ back) ≡ Some (record { tag = tag; constructed = constructed; rest = back })

pub completed : (bytes : List ℕ) → EndEarly identifier_at bytes → IsCompleted bytes
completed bytes early = by (longer bytes early.more r.front early.whole.rest r.are)
  where
    r : IsReadOf identifier_leaves identifier_at (bytes ++ early.more) early.whole
    r = identifier_read (bytes ++ early.more) early.whole early.completed

    by : Longer bytes r.front → IsCompleted bytes
    by (first l) = absurd (not_both early.none (ap identifier_at l.are ∙ r.whatever l.by))
    by (second l) = record {
      more = l.by;
      tag = early.whole.tag;
      constructed = early.whole.constructed;
      whatever = λ back. ap (λ x. identifier_at (x ++ back)) (sym l.are) ∙ r.whatever back;
    }
