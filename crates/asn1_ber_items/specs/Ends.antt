-- The end of the first element, and octets that end inside it (X.690, 8.1).
use Rattle.std.specs.Prelude.{◌≡◌, ◌≢◌, ◌↔◌, ⊤, ℕ, zero, suc, ◌+◌, ◌<◌, true, None, Some, List, ◌∷◌, ◌++◌, length}
use Rattle.asn1_ber_items.specs.Headers.{Header, end_of_contents, header_at}
use Rattle.asn1_ber_items.specs.Spellings.{BeginWith, IsDefinite, Spells, SpellsOne}
use Rattle.asn1_ber_items.specs.declared.ahead.Ahead.{Ahead}
use Rattle.asn1_der_items.specs.Cuts.{EndEarly, IsMissing}
use Rattle.asn1_items.specs.declared.error.ItemError.{ItemError}

-- The bytes begin with the header of an element of a definite length, with these contents octets, and others follow.
pub record BeginDefinite (bytes contents back : List ℕ) : Type 0 where
  pub header : Header
  pub at : header_at bytes ≡ Some header
  pub is_element : header.tag ≢ end_of_contents
  pub is : IsDefinite header contents back

-- The bytes begin with the header of an element of an indefinite length, and others follow.
pub record BeginIndefinite (bytes inside : List ℕ) : Type 0 where
  pub header : Header
  pub begin : BeginWith true header bytes
  pub size : header.size ≡ None
  pub are : header.rest ≡ inside

-- The bytes begin with the header of an element of a definite length, and end in its contents octets.
pub record IsCutContents (bytes : List ℕ) : Type 0 where
  pub header : Header
  pub long : ℕ
  pub at : header_at bytes ≡ Some header
  pub is_element : header.tag ≢ end_of_contents
  pub size : header.size ≡ Some long
  pub few : length header.rest < long

-- The octets end inside this many open elements of indefinite lengths: in a header that others complete, in contents octets, or before
-- end-of-contents octets. With none open they end inside the first element.
pub data EndsInside : ℕ → List ℕ → Type 0 where
  in_header : (n : ℕ) (octets : List ℕ) → EndEarly header_at octets → EndsInside n octets
  in_contents : (n : ℕ) (octets : List ℕ) → IsCutContents octets → EndsInside n octets
  -- behind an element of a definite length
  behind_definite : (n : ℕ) (octets contents back : List ℕ) → BeginDefinite octets contents back → EndsInside (suc n) back → EndsInside (suc n) octets
  -- behind the header of one of an indefinite length
  in_indefinite : (n : ℕ) (octets inside : List ℕ) → BeginIndefinite octets inside → EndsInside (suc n) inside → EndsInside n octets
  -- behind end-of-contents octets
  behind_end : (n : ℕ) (back : List ℕ) → EndsInside (suc n) back → EndsInside (suc (suc n)) (0 ∷ 0 ∷ back)

-- The bytes begin with elements and end-of-contents octets, and this holds of what follows.
pub record IsClosed (Later : List ℕ → Type 0) (left : List ℕ) : Type 0 where
  pub others : List ℕ
  pub back : List ℕ
  pub spell : Spells left others (0 ∷ 0 ∷ back)
  pub later : Later back

-- The bytes begin with the octets that close this many open elements of indefinite lengths.
abbrev pub Close : ℕ → List ℕ → Type 0
Close zero left = ⊤
Close (suc n) left = IsClosed (Close n) left

-- The bytes begin with one element.
pub record BeginWithOne (bytes : List ℕ) : Type 0 where
  pub normal : List ℕ
  pub rest : List ℕ
  pub one : SpellsOne bytes normal rest

-- The bytes begin with the octets that close the open elements; or with one element, if none is open.
abbrev pub IsAhead : ℕ → List ℕ → Type 0
IsAhead zero left = BeginWithOne left
IsAhead (suc n) left = Close (suc n) left

-- The bytes begin with end-of-contents octets, and an element is open.
abbrev pub IsOver : ℕ → List ℕ → Type 0
IsOver zero left = ⊥
IsOver (suc n) left = (back : List ℕ) × (left ≡ 0 ∷ 0 ∷ back)

-- The search passes octets: what was ahead before, whatever follows, is ahead then; and octets end there if and only if they ended before.
pub record Passes (old new : Ahead) : Type 0 where
  pub front : List ℕ
  pub are : old.left.now ≡ front ++ new.left.now
  pub some : 0 < length front
  pub few : new.levels < old.levels + 2
  pub ahead : (behind : List ℕ) → IsAhead old.levels (old.left.now ++ behind) → IsAhead new.levels (new.left.now ++ behind)
  pub inside : (behind : List ℕ) → EndsInside new.levels (new.left.now ++ behind) ↔ EndsInside old.levels (old.left.now ++ behind)

-- The first element ends behind what is next: octets do not end inside it, whatever follows.
abbrev pub IsAtEnd : Ahead → Type 0
IsAtEnd old = (behind : List ℕ) → ¬ EndsInside old.levels (old.left.now ++ behind)

-- The search stops: nothing is ahead that it looks for, and octets are missing if and only if they end inside what is open.
pub record StopsAt (old : Ahead) (e : ItemError) : Type 0 where
  pub none : ¬ IsAhead old.levels old.left.now
  pub missing : IsMissing e ↔ EndsInside old.levels old.left.now
