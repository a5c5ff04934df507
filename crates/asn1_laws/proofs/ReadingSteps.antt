-- How steps of reading follow one another.
pub use Rattle.asn1_laws.proofs.Heights.{highest-append, highest-holding}
use Rattle.std.proofs.Common.{◌≡◌, Bool, true, ℕ, suc, ◌≤◌, ◌+◌, List, [], ◌∷◌, ◌++◌, inl, inr, arith, sym, subst, append-nil, Result, Ok, Err}
use Rattle.std.specs.Cmp.{IsEquivalence}
use Rattle.asn1_model.specs.Records.{Record, Head, height, highest, holding}
use Rattle.asn1_laws.specs.declared.decode_error.DecodeError.{DecodeError}
use Rattle.asn1_laws.specs.declared.decode_error.DecodeError.TheVariants.{Memory}
use Rattle.asn1_laws.specs.Reading.{Remaining, Reader, MayFail, HasAdvanced, Advances, Outside}
use Rattle.std.specs.Prelude.{MatchResult, OnOk}

-- what is the same is equal
pub same_is_equal : {V : Type 0} {eq : V → V → Bool} → IsEquivalence eq → (w v : V) → w ≡ v → eq w v ≡ true
same_is_equal {eq = eq} law w v is = subst (λ x. eq x v ≡ true) (sym is) (law.refl v)

-- a failure before records of no height is one before any others
pub flat_failure : {a : ℕ} (b h : ℕ) (e : DecodeError) → MayFail a 0 e → MayFail b h e
flat_failure b h e (inl memory) = inl memory
flat_failure b h e (inr deep) = absurd (omega (arith, deep.1))

-- a failure to open a scope
pub not_opened : {e : DecodeError} (h : Head) (rs : List Record) (a : ℕ) → MayFail a 1 e → MayFail a (highest (holding h rs ∷ [])) e
not_opened h rs a (inl memory) = inl memory
not_opened h rs a (inr deep) = inr (deep.0, omega (arith, deep.1, highest-holding h rs))

-- a failure inside a scope
pub fails_inside : {e : DecodeError} (h : Head) (rs : List Record) (a b : ℕ) → a ≡ suc b → MayFail b (highest rs) e → MayFail a (highest (holding h rs ∷ [])) e
fails_inside h rs a b less (inl memory) = inl memory
fails_inside h rs a b less (inr deep) = inr (deep.0, omega (arith, deep.1, less, highest-holding h rs))

-- what is low enough inside a scope is so outside
pub within_scope : (h : Head) (rs : List Record) (a b : ℕ) → a ≡ suc b → highest rs ≤ b → highest (holding h rs ∷ []) ≤ a
within_scope h rs a b less low = omega (arith, low, less, highest-holding h rs)

-- a failure after part of the records were read
pub fails_below : {e : DecodeError} {a : ℕ} (b g h : ℕ) → b ≡ a → g ≤ h → MayFail a g e → MayFail b h e
fails_below b g h same low (inl memory) = inl memory
fails_below b g h same low (inr deep) = inr (deep.0, omega (arith, deep.1, same, low))

-- a failure this many scopes inside
pub fails_deeper : {e : DecodeError} {a g : ℕ} (b h scopes : ℕ) → b ≡ a + scopes → g + scopes ≤ h → MayFail a g e → MayFail b h e
fails_deeper b h scopes deeper low (inl memory) = inl memory
fails_deeper b h scopes deeper low (inr deep) = inr (deep.0, omega (arith, deep.1, deeper, low))

module _ {D : Type 0} (R : Reader D) where
  -- what is left in a scope, with nothing after it
  pub to_end : (d : D) (rs : List Record) (outer : Outside) → R.remains d (rs, outer) → R.remains d (rs ++ [], outer)
  to_end d rs outer at = subst (λ l. R.remains d (l, outer)) (sym (append-nil rs)) at

  -- a relation on an answer may be replaced by one that follows from it
  pub moved_as : {old new : D} {height : ℕ} {after : Remaining} {Is As : Type 0} → HasAdvanced R old new height after Is → (Is → As) → HasAdvanced R old new height after As
  moved_as m f = record { answer = f m.answer; at = m.at; within_depth_left = m.within_depth_left }

  -- and the relation on each
  pub in_other_words : {V : Type 0} (old new : D) (height : ℕ) (before after : Remaining) {Is As : V → Type 0} (result : Result V DecodeError) →
      ((w : V) → Is w → As w) → Advances R old new height before after Is result → Advances R old new height before after As result
  in_other_words old new height before after (Ok w) f moves = λ at. moved_as (moves at) (f w)
  in_other_words old new height before after (Err e) f moves = moves

  -- what was found is answered, by a call that opens nothing
  pub answered : {V : Type 0} (old mid new : D) (after : Remaining) (Is : V → Type 0) (result : Result V DecodeError) →
      MatchResult result Is (λ e. e ≡ Memory) → OnOk result (new ≡ mid) → R.remains mid after → MatchResult result (λ w. HasAdvanced R old new 0 after (Is w)) (MayFail (R.depth_left old) 0)
  answered old mid new after Is (Ok w) found kept at = record { answer = found; at = subst (λ d. R.remains d after) (sym kept) at; within_depth_left = omega arith }
  answered old mid new after Is (Err e) found kept at = inl found
