-- The pieces that are left, and what a call that takes as many values as it can leaves for them.
use Rattle.std.proofs.Common.{◌≡◌, ℕ, ◌+◌, ◌<◌, ◌≤◌, List, [], ◌++◌, length, drop, get_or, sym, ap, subst, ◌∙◌, append_assoc, append-nil, refl, arith}
use Rattle.std.specs.Borrow.{Bor}
use Rattle.std.specs.Prelude.{Bool, MatchOption, Option, None, Some, false, not, true}
use Rattle.std.specs.Option.{is_some}
use Rattle.std.proofs.lemmas.List.{drop_all, drop_more}
use Rattle.std.proofs.lemmas.List.Concat.{flat_map-cons}
use Rattle.asn1_laws.specs.declared.decode_error.DecodeError.{DecodeError}
use Rattle.asn1_rules.specs.Fronts.{Fronts, IsNoFront, IsSteady}
use Rattle.asn1_rules.specs.Pieces.{AreReadOf, ComeBack, joined, rest}
use Rattle.asn1_rules.specs.UnreadBytes.{AddsRead, Remains}
use Rattle.asn1_rules.specs.States.{State, appended}
use Rattle.asn1_rules.proofs.UnreadBytes.{all_came, one_failed}

-- The next piece is put after what is unread.
next_piece : (pieces : List (Bor (List ℕ))) (i : ℕ) (d : Bor (List ℕ)) (unread : List ℕ) → i < length pieces →
    unread ++ joined (drop i pieces) ≡ (unread ++ (get_or pieces i d).now) ++ joined (drop (i + 1) pieces)
next_piece pieces i d unread lt =
    let piece = get_or pieces i d in
    let others = drop (i + 1) pieces in
    ap (λ l. unread ++ joined l) (drop_more pieces i d lt)
    ∙ ap (λ l. unread ++ l) (flat_map-cons (λ p. p.now) piece others)
    ∙ sym (append_assoc unread piece.now (joined others))

-- After the last piece there is nothing.
pub no_piece_left : (pieces : List (Bor (List ℕ))) (i : ℕ) (unread : List ℕ) → length pieces ≤ i → unread ++ joined (drop i pieces) ≡ unread
no_piece_left pieces i unread all = ap (λ l. unread ++ joined l) (drop_all i pieces all) ∙ append-nil unread

-- The facts of the test of an answer.
pub none_if : {T : Type 0} (o : Option T) (b : Bool) → is_some o ≡ not b → b ≡ true → o ≡ None
none_if None b known yes_none = refl
none_if (Some x) b known yes_none = let f : true ≡ not true = subst (λ v. true ≡ not v) yes_none known in cc

pub at_most_of : (last : Option DecodeError) (k n : ℕ) (P : DecodeError → Type 0) → MatchOption last (k ≡ n) (λ e. (k < n) × P e) → k ≤ n
at_most_of None k n P ended = omega arith
at_most_of (Some e) k n P ended = let less : k < n = ended.0 in omega arith

module _ {R V : Type 0} (F : Fronts R V) (reader : R) where
  -- A piece was put after what was unread, and values were taken.
  pub piece_read : (old new : State R) (pieces : List (Bor (List ℕ))) (i : ℕ) (d : Bor (List ℕ)) (ws more vs : List V) (unread : List ℕ) →
      old.reader ≡ reader → new ≡ appended (get_or pieces i d).now old → i < length pieces → IsSteady F reader →
      ((us : List V) (behind : List ℕ) → IsSteady F new.reader → Remains F new.reader ws us (new.unread ++ behind) → Remains F new.reader more us (unread ++ behind)) →
      Remains F reader ws vs (old.unread ++ joined (drop i pieces)) → Remains F reader more vs (unread ++ joined (drop (i + 1) pieces))
  piece_read old new pieces i d ws more vs unread same is_appended lt steady step before =
      let others = joined (drop (i + 1) pieces) in
      let r : new.reader ≡ reader = ap (λ s. s.reader) is_appended ∙ same in
      let u : new.unread ≡ old.unread ++ (get_or pieces i d).now = ap (λ s. s.unread) is_appended in
      subst (λ w. (us : List V) (behind : List ℕ) → IsSteady F w → Remains F w ws us (new.unread ++ behind) → Remains F w more us (unread ++ behind)) r step
      vs others steady
      (subst (Remains F reader ws vs) (next_piece pieces i d old.unread lt ∙ ap (λ l. l ++ others) (sym u)) before)

  -- An error was the last answer.
  pub still_failing : (last : Option DecodeError) (b : Bool) (A Z : Type 0) (first : R) (unread : List ℕ) (i k n : ℕ) → is_some last ≡ not b → b ≡ false → first ≡ reader →
      MatchOption last A (λ e. (k < n) × IsNoFront F first unread e) → MatchOption last Z (λ e. (0 < i + 1) × (k < n) × IsNoFront F reader unread e)
  still_failing None b A Z first unread i k n known some same ended = let f : false ≡ not false = subst (λ v. false ≡ not v) some known in cc
  still_failing (Some e) b A Z first unread i k n known some same ended =
      let above : 0 < i + 1 = omega arith in (above, ended.0, subst (λ r. IsNoFront F r unread e) same ended.1)

  -- After the last piece.
  pub come_back_at_end : (last : Option DecodeError) (Z : Type 0) (pieces : List (Bor (List ℕ))) (i k n : ℕ) (ws vs : List V) (unread : List ℕ) → IsSteady F reader →
      length pieces ≤ i → MatchOption last Z (λ e. (0 < i) × (k < n) × IsNoFront F reader unread e) →
      Remains F reader ws vs (unread ++ joined (drop i pieces)) → ComeBack F.same F.height (F.depth reader) ws vs last
  come_back_at_end None Z pieces i k n ws vs unread steady all ended before = all_came F reader ws vs (unread ++ joined (drop i pieces)) before
  come_back_at_end (Some e) Z pieces i k n ws vs unread steady all ended before =
      one_failed F reader ws vs unread e steady ended.2 (subst (Remains F reader ws vs) (no_piece_left pieces i unread all) before)

  -- Wherever others are read of what is unread, these values and the others are read of the whole.
  abbrev pub ReadSoFar : List V → List ℕ → List ℕ → Type 0
  ReadSoFar ws unread whole = (others : List V) → AreReadOf F reader others unread → AreReadOf F reader (ws ++ others) whole

  -- so these are
  pub all_read : (ws : List V) (unread whole : List ℕ) → ReadSoFar ws unread whole → AreReadOf F reader ws whole
  all_read ws unread whole so_far = subst (λ l. AreReadOf F reader l whole) (append-nil ws) (so_far [] rest)

  -- A piece was put after what was unread, and values were read of it.
  pub piece_was_read : (old new after : State R) (pieces : List (Bor (List ℕ))) (i : ℕ) (d : Bor (List ℕ)) (ws more : List V) (whole : List ℕ) →
      old.reader ≡ reader → new ≡ appended (get_or pieces i d).now old → i < length pieces → AddsRead F new after ws more →
      ReadSoFar ws (old.unread ++ joined (drop i pieces)) whole → ReadSoFar more (after.unread ++ joined (drop (i + 1) pieces)) whole
  piece_was_read old new after pieces i d ws more whole same is_appended lt adds so_far others are =
      let behind = joined (drop (i + 1) pieces) in
      let r : new.reader ≡ reader = ap (λ s. s.reader) is_appended ∙ same in
      let u : new.unread ≡ old.unread ++ (get_or pieces i d).now = ap (λ s. s.unread) is_appended in
      let both : AreReadOf F reader (adds.taken ++ others) (new.unread ++ behind) =
      subst (λ w. AreReadOf F w (adds.taken ++ others) (new.unread ++ behind)) r
      (adds.read others behind (subst (λ w. AreReadOf F w others (after.unread ++ behind)) (sym r) are)) in
      subst (λ l. AreReadOf F reader l whole) (sym (ap (λ l. l ++ others) adds.are ∙ append_assoc ws adds.taken others))
      (so_far (adds.taken ++ others)
      (subst (AreReadOf F reader (adds.taken ++ others)) (ap (λ l. l ++ behind) u ∙ sym (next_piece pieces i d old.unread lt)) both))
