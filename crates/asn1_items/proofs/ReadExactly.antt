-- Exact reading, by the bytes that were taken.
use Rattle.std.proofs.Common.{◌≡◌, List, [], ◌∷◌, ◌++◌, ℕ, false, refl, sym, subst}
use Rattle.asn1_laws.specs.Reading.{Outside}
use Rattle.asn1_laws.specs.ReadingExactly.{HasClosed, HasOpened, HasRead}
use Rattle.asn1_items.specs.DecodeStates.{AllHave, IsClosed, ReadForm, RemainsExactly, exact_reader, lists_outside}
use Rattle.asn1_items.specs.Items.{IsJoined}
use Rattle.asn1_items.specs.Slices.{left_inside, left_outside}
use Rattle.asn1_items.specs.declared.decode_state.DecodeState.{DecodeState}
use Rattle.asn1_model.specs.Records.{Head, Record, holding}

-- The bytes of one record after another are those of both: the other direction of `joined`.
abbrev pub Joins : ReadForm → Type 0
Joins F = (r : Record) (rs : List Record) (bytes : List ℕ) → IsJoined (F.Has r) (F.Have rs) bytes → F.Have (r ∷ rs) bytes

module _ (F : ReadForm) (joins : Joins F) {D : Type 0} (state : D → DecodeState) where
  -- the bytes that were taken are those of a record
  pub record_taken : (old new : D) (r : Record) (own : List ℕ) → (state old).failed ≡ false → left_inside (state old).slices ≡ own ++ left_inside (state new).slices →
      left_outside (state new).slices ≡ left_outside (state old).slices → F.Has r own → HasRead (exact_reader F state) old new (r ∷ [])
  record_taken old new r own no_failure left kept has rest outer at = record {
    no_failure = no_failure;
    inside = joins r rest (left_inside (state old).slices) (record { first = own; others = left_inside (state new).slices; is_first = has; are_others = at.inside; are = left });
    outside = subst (AllHave F (lists_outside outer)) kept at.outside;
  }

  -- the bytes that were taken are those of a record that holds what is left inside now
  pub scope_taken : (old new : D) (h : Head) (own back : List ℕ) → (state old).failed ≡ false → left_inside (state old).slices ≡ own ++ back →
      left_outside (state new).slices ≡ back ∷ left_outside (state old).slices → ((items : List Record) → F.Have items (left_inside (state new).slices) → F.Has (holding h items) own) →
      HasOpened (exact_reader F state) old new h
  scope_taken old new h own back no_failure left opened has items rest outer at =
      let p = subst (AllHave F (rest ∷ lists_outside outer)) opened at.outside in
      record {
        no_failure = no_failure;
        inside = joins (holding h items) rest (left_inside (state old).slices) (record { first = own; others = back; is_first = has items at.inside; are_others = p.0; are = left });
        outside = p.1;
      }

  -- the innermost scope was closed, of which nothing was left
  pub scope_closed : F.Have [] [] → (old new : D) → (state old).failed ≡ false → IsClosed (state old) (state new) → HasClosed (exact_reader F state) old new
  scope_closed nothing old new no_failure closed h rest outer at = record {
    no_failure = no_failure;
    inside = subst (λ l. F.Have [] l) (sym closed.at_end) nothing;
    outside = subst (AllHave F (rest ∷ lists_outside outer)) (sym closed.outside) (at.inside, at.outside);
  }
