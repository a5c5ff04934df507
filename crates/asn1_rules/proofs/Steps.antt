-- The facts of the answer of `next`.
use Rattle.std.proofs.Common.{◌≡◌, ◌∙◌, ℕ, List, [], ◌∷◌, ◌++◌, ap, append_assoc, append-nil, sym, subst, take, take-append-drop, inl, inr}
use Rattle.std.specs.Prelude.{Option, Some, Result, Ok, Err}
use Rattle.asn1_laws.specs.declared.decode_error.DecodeError.{DecodeError}
use Rattle.asn1_rules.specs.Fronts.{Fronts, IsFront, IsLawful, IsSteady}
use Rattle.asn1_rules.specs.Progress.{Kept, Steps, Took}
use Rattle.asn1_rules.specs.Pieces.{AreReadOf, one_and}
use Rattle.asn1_rules.specs.UnreadBytes.{AddsRead, Remains}
use Rattle.asn1_rules.specs.States.{State}
use Rattle.asn1_rules.proofs.UnreadBytes.{one_came}

module _ {R V : Type 0} (F : Fronts R V) (old new : State R) where
  pub took : (item : Option (Result V DecodeError)) (v : V) → item ≡ Some (Ok v) → Steps F old item new → Took F old new v
  took item v is (inl (w, came, t)) = let e : w ≡ v = cc in subst (Took F old new) e t
  took item v is (inr (e, failed, k)) = cc

  pub kept : (item : Option (Result V DecodeError)) (e : DecodeError) → item ≡ Some (Err e) → Steps F old item new → Kept F old new e
  kept item e is (inl (w, came, t)) = cc
  kept item e is (inr (d, failed, k)) = let same : d ≡ e = cc in subst (Kept F old new) same k

  -- A value came: what remains begins after it.
  pub remains_behind : (law : IsLawful F) (first : R) (ws vs : List V) (v : V) (behind : List ℕ) → old.reader ≡ first → IsSteady F first →
      Took F old new v → Remains F first ws vs (old.unread ++ behind) → Remains F first (ws ++ v ∷ []) vs (new.unread ++ behind)
  remains_behind law first ws vs v behind same steady t before =
      subst (λ l. Remains F first (ws ++ v ∷ []) vs (l ++ behind)) (sym t.taken.unread)
      (one_came F first law steady ws vs v old.unread behind t.n (subst (λ r. IsFront F r old.unread (v, t.n)) same t.front) before)

  -- and it was read of the bytes that it took
  pub one_more_read : (first : State R) (came ws now : List V) (v : V) → now ≡ ws ++ v ∷ [] → old.reader ≡ first.reader → Took F old new v →
      AddsRead F first old came ws → AddsRead F first new came now
  one_more_read first came ws now v is same t before = record {
    taken = before.taken ++ v ∷ [];
    are = is ∙ ap (λ l. l ++ v ∷ []) before.are ∙ append_assoc came before.taken (v ∷ []);
    read = λ others behind are.
        let own = take t.n old.unread in
        let whole : own ++ (new.unread ++ behind) ≡ old.unread ++ behind =
        sym (append_assoc own new.unread behind) ∙ ap (λ l. l ++ behind) (ap (λ l. own ++ l) t.taken.unread ∙ take-append-drop t.n old.unread) in
        let one : AreReadOf F first.reader (v ∷ others) (own ++ (new.unread ++ behind)) = one_and own (subst (λ r. F.read_as r own v) same t.front.is_read) are in
        subst (λ l. AreReadOf F first.reader l (first.unread ++ behind)) (sym (append_assoc before.taken (v ∷ []) others))
        (before.read (v ∷ others) behind (subst (AreReadOf F first.reader (v ∷ others)) whole one));
  }

-- no value came yet
pub none_read : {R V : Type 0} (F : Fronts R V) (first : State R) (came : List V) → AddsRead F first first came came
none_read F first came = record { taken = []; are = sym (append-nil came); read = λ others behind are. are }
