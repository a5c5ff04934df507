-- How the elements of a choice grow, byte by byte, and how lists of texts do.
use Rattle.std.proofs.Common.{◌≡◌, ℕ, Bool, true, false, cond, ◌&&◌, ◌==◌, List, [], ◌∷◌, ◌++◌, refl, sym, ap, append_assoc}
use Rattle.std.specs.List.{onto_first}
use Rattle.asn1_report.specs.Elements.{depth_after, elements_at}

-- the bytes go before the first of the texts
abbrev pub before_first : List ℕ → List (List ℕ) → List (List ℕ)
before_first bytes [] = bytes ∷ []
before_first bytes (text ∷ texts) = (bytes ++ text) ∷ texts

pub before_first-onto_first : (bytes : List ℕ) (byte : ℕ) (texts : List (List ℕ)) →
    before_first bytes (onto_first byte texts) ≡ before_first (bytes ++ byte ∷ []) texts
before_first-onto_first bytes byte [] = refl
before_first-onto_first bytes byte (text ∷ texts) = ap (λ first. first ∷ texts) (sym (append_assoc bytes (byte ∷ []) text))

no_bytes_before : (texts : List (List ℕ)) (byte : ℕ) → before_first [] (onto_first byte texts) ≡ onto_first byte texts
no_bytes_before [] byte = refl
no_bytes_before (text ∷ texts) byte = refl

-- no bytes before them
pub elements_start : (text : List ℕ) (depth : ℕ) → before_first [] (elements_at depth text) ≡ elements_at depth text
elements_start [] depth = refl
elements_start (byte ∷ bytes) depth = by_test ((depth == 0) && (byte == 32))
  where
    by_test : (b : Bool) → before_first [] (cond b ([] ∷ elements_at 0 bytes) (onto_first byte (elements_at (depth_after depth byte) bytes)))
        ≡ cond b ([] ∷ elements_at 0 bytes) (onto_first byte (elements_at (depth_after depth byte) bytes))
    by_test true = refl
    by_test false = no_bytes_before (elements_at (depth_after depth byte) bytes) byte

-- some text, and texts after it
abbrev pub IsNonempty : List (List ℕ) → Type 0
IsNonempty [] = ⊥
IsNonempty (text ∷ texts) = Unit {0}

pub nonempty-onto_first : (byte : ℕ) (texts : List (List ℕ)) → IsNonempty (onto_first byte texts)
nonempty-onto_first byte [] = tt
nonempty-onto_first byte (text ∷ texts) = tt

-- some element
pub nonempty-elements_at : (depth : ℕ) (text : List ℕ) → IsNonempty (elements_at depth text)
nonempty-elements_at depth [] = tt
nonempty-elements_at depth (byte ∷ bytes) = by_test ((depth == 0) && (byte == 32))
  where
    by_test : (b : Bool) → IsNonempty (cond b ([] ∷ elements_at 0 bytes) (onto_first byte (elements_at (depth_after depth byte) bytes)))
    by_test true = tt
    by_test false = nonempty-onto_first byte (elements_at (depth_after depth byte) bytes)
