-- The members of a bound: the whole numbers that it allows (X.680, 51.2 and 51.4).
-- `number` says which whole number a value of the bound's type is.
use Rattle.std.specs.Prelude.{◌≡◌, ◌↔◌, ℕ, ℤ, pos, ◌≤ℤ◌, ⊤, Option, MatchOption}
use Rattle.std.specs.Int.{int_min}
use Rattle.asn1_ranges.specs.Count.{HasCount}
use Rattle.asn1_ranges.specs.declared.bounded.Bounded.{Bounded}
use Rattle.asn1_ranges.specs.declared.bounded.Bounded.TheVariants.{None, Single, Range}
use Rattle.asn1_ranges.specs.Ends.{start_of, end_of}

module _ {T : Type 0} (number : T → ℤ) where
  -- not below the start, if there is one
  abbrev pub IsFrom : Option T → ℤ → Type 0
  IsFrom start n = MatchOption start ⊤ (λ s. number s ≤ℤ n)

  -- not above the end, if there is one
  abbrev pub IsUpTo : Option T → ℤ → Type 0
  IsUpTo end n = MatchOption end ⊤ (λ e. n ≤ℤ number e)

  -- a single has one member, a range those between its ends, and no bound has all whole numbers
  abbrev pub IsMember : Bounded T → ℤ → Type 0
  IsMember None n = ⊤
  IsMember (Single v) n = n ≡ number v
  IsMember (Range start end) n = IsFrom start n × IsUpTo end n

  -- the value is a member of the bound
  abbrev pub Holds : Bounded T → T → Type 0
  Holds b v = IsMember b (number v)

  -- some whole number is a member
  abbrev pub HasMember : Bounded T → Type 0
  HasMember b = (n : ℤ) × IsMember b n

  -- the members of the third bound are the common ones of the first two
  abbrev pub HasCommonMembers : Bounded T → Bounded T → Bounded T → Type 0
  HasCommonMembers a b both = (n : ℤ) → IsMember both n ↔ (IsMember a n × IsMember b n)

  -- the two bounds have no member in common
  abbrev pub AreDisjoint : Bounded T → Bounded T → Type 0
  AreDisjoint a b = (n : ℤ) → IsMember a n → IsMember b n → ⊥

  -- the start is not above the end, where there are both; otherwise the bound is inverted
  abbrev pub IsOrdered : Bounded T → Type 0
  IsOrdered b = MatchOption (start_of b) ⊤ (λ s. MatchOption (end_of b) ⊤ (λ e. number s ≤ℤ number e))

  -- the answer is how many members the bound has, or the greatest number where there are more
  abbrev pub CountsMembers : ℤ → Bounded T → ℤ → Type 0
  CountsMembers greatest b answer = (count : ℕ) × HasCount (IsMember b) count × (answer ≡ int_min (pos count) greatest)
