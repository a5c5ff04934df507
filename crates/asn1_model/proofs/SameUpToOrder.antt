-- Records that are the same up to order: the laws that codecs use.
use Rattle.std.specs.Prelude.{◌≡◌, ◌<◌, ℕ, zero, suc, Bool, true, false, ◌&&◌, List, [], ◌∷◌, ◌++◌, length, Some, IsPermutation, refl, if◌then◌else◌}
use Rattle.std.specs.List.{swap}
use Rattle.std.proofs.Common.{ap, sym, subst, ◌∙◌, get_or, set, arith}
use Rattle.std.proofs.lemmas.Bool.{false≢true}
use Rattle.std.proofs.lemmas.List.Sorted.{IsPermutation-refl, IsPermutation-sym, IsPermutation-trans, IsPermutation-swap, IsPermutation-keeps}
use Rattle.asn1_tags.specs.declared.tags.Tag.{Tag}
use Rattle.asn1_model.specs.Composites.{group_records}
use Rattle.asn1_model.specs.ConstraintSets.{ConstraintSet}
use Rattle.asn1_model.specs.Orders.{is_unordered, SameRecord, SameAll, SameRecords, equal, one_by_one, in_any_order, at_end, next}
use Rattle.asn1_model.specs.Records.{Name, Content, PresenceMark, Head, Record, Records, scalar, scope, open_type, presence_mark, none, more, held, listed, holding, highest, presence_marks_alone, is_presence_mark, group_start, group_absent, group_end, listed-held}
use Rattle.asn1_model.specs.RecordTables.{Row, Table}
use Rattle.asn1_model.specs.Tags.{first_tags, record_tags}
use Rattle.asn1_model.proofs.RecordLists.{held-listed, inner_height-held}
use Rattle.asn1_model.proofs.SameRecords.{same-mark, same-tags, same-inner_height}

-- each list is the same as itself
pub SameAll-refl : (rs : Records) → SameAll rs rs
SameAll-refl none = at_end
SameAll-refl (more r rs) = next (equal r) (SameAll-refl rs)

pub SameRecords-refl : (rs : List Record) → SameRecords rs rs
SameRecords-refl rs = SameAll-refl (held rs)

-- two lists that are the same are so element by element
pub SameAll-cons : {r s : Record} {rs ss : Records} → SameAll (more r rs) (more s ss) → SameRecord r s × SameAll rs ss
SameAll-cons (next same all) = (same, all)

-- and as long
pub same-length : (rs ss : List Record) → SameAll (held rs) (held ss) → length rs ≡ length ss
same-length [] [] all = refl
same-length [] (s ∷ ss) all = elim all [ ]
same-length (r ∷ rs) [] all = elim all [ ]
same-length (r ∷ rs) (s ∷ ss) all = ap suc (same-length rs ss ((SameAll-cons all).1))

-- one list after another
pub SameAll-append : (rs ss us vs : List Record) → SameAll (held rs) (held ss) → SameAll (held us) (held vs) → SameAll (held (rs ++ us)) (held (ss ++ vs))
SameAll-append [] [] us vs all after = after
SameAll-append [] (s ∷ ss) us vs all after = elim all [ ]
SameAll-append (r ∷ rs) [] us vs all after = elim all [ ]
SameAll-append (r ∷ rs) (s ∷ ss) us vs all after = let both = SameAll-cons all in next both.0 (SameAll-append rs ss us vs both.1 after)

-- The record at an index, and a list with another record there.
same_at : (rs ss : List Record) (i : ℕ) {d e : Record} → SameRecord d e → SameAll (held rs) (held ss) → SameRecord (get_or rs i d) (get_or ss i e)
same_at [] [] i past all = past
same_at [] (s ∷ ss) i past all = elim all [ ]
same_at (r ∷ rs) [] i past all = elim all [ ]
same_at (r ∷ rs) (s ∷ ss) zero past all = (SameAll-cons all).0
same_at (r ∷ rs) (s ∷ ss) (suc i) past all = same_at rs ss i past ((SameAll-cons all).1)

same_set : (rs ss : List Record) (i : ℕ) {d e : Record} → SameRecord d e → SameAll (held rs) (held ss) → SameAll (held (set rs i d)) (held (set ss i e))
same_set [] [] i put all = at_end
same_set [] (s ∷ ss) i put all = elim all [ ]
same_set (r ∷ rs) [] i put all = elim all [ ]
same_set (r ∷ rs) (s ∷ ss) zero put all = next put ((SameAll-cons all).1)
same_set (r ∷ rs) (s ∷ ss) (suc i) put all = next ((SameAll-cons all).0) (same_set rs ss i put ((SameAll-cons all).1))

-- after an exchange of two indices in both
same_swap : (rs ss : List Record) (i j : ℕ) → SameAll (held rs) (held ss) → SameAll (held (swap rs i j)) (held (swap ss i j))
same_swap [] [] i j all = at_end
same_swap [] (s ∷ ss) i j all = elim all [ ]
same_swap (r ∷ rs) [] i j all = elim all [ ]
same_swap (r ∷ rs) (s ∷ ss) i j all =
    let first = (SameAll-cons all).0 in
    let once = same_set (r ∷ rs) (s ∷ ss) i (same_at (r ∷ rs) (s ∷ ss) j first all) all in
    same_set (set (r ∷ rs) i (get_or (r ∷ rs) j r)) (set (s ∷ ss) i (get_or (s ∷ ss) j s)) j (same_at (r ∷ rs) (s ∷ ss) i first all) once

-- The first list is the same as some rearrangement of the second.
pub record SameAfterMoves (rs ss : List Record) : Type 0 where
  pub between : List Record
  pub same : SameAll (held rs) (held between)
  pub moved : IsPermutation between ss

-- a rearrangement carries over to lists that are the same
pub carried : (rs qs ss : List Record) → IsPermutation rs qs → SameAll (held qs) (held ss) → SameAfterMoves rs ss
carried rs qs ss moved all =
    IsPermutation-keeps
    qs
    (λ l. SameAfterMoves l ss)
    (record { between = ss; same = all; moved = IsPermutation-refl ss })
    (λ l i j in_i in_j h. record {
      between = swap h.between i j;
      same = same_swap l h.between i j h.same;
      moved = IsPermutation-trans (swap h.between i j) h.between ss (undone l h.between i j in_i in_j h.same) h.moved;
    })
    rs
    (IsPermutation-sym rs qs moved)
  where
    undone : (l ms : List Record) (i j : ℕ) → i < length l → j < length l → SameAll (held l) (held ms) → IsPermutation (swap ms i j) ms
    undone l ms i j in_i in_j same =
        let long = same-length l ms same in
        IsPermutation-sym ms (swap ms i j) (IsPermutation-swap ms (swap ms i j) i j (omega (arith, in_i, long)) (omega (arith, in_j, long)) refl)

-- The same of what two records hold.
record HeldAfterMoves (rs ss : Records) : Type 0 where
  between : Records
  same : SameAll rs between
  moved : IsPermutation (listed between) (listed ss)

held_carried : (rs qs ss : Records) → IsPermutation (listed rs) (listed qs) → SameAll qs ss → HeldAfterMoves rs ss
held_carried rs qs ss moved all =
    let h = carried (listed rs) (listed qs) (listed ss) moved
    (subst (λ l. SameAll l (held (listed ss))) (sym (held-listed qs)) (subst (λ l. SameAll qs l) (sym (held-listed ss)) all)) in
    record {
      between = held h.between;
      same = subst (λ l. SameAll l (held h.between)) (held-listed rs) h.same;
      moved = subst (λ l. IsPermutation l (listed ss)) (sym (listed-held h.between)) h.moved;
    }

-- sameness is transitive
mutual
  pub SameRecord-trans : {r s t : Record} → SameRecord r s → SameRecord s t → SameRecord r t
  SameRecord-trans (equal r) q = q
  SameRecord-trans (one_by_one h a) (equal _) = one_by_one h a
  SameRecord-trans (one_by_one h a) (one_by_one _ b) = one_by_one h (SameAll-trans a b)
  SameRecord-trans (one_by_one h a) (in_any_order _ unordered b m) = in_any_order h unordered (SameAll-trans a b) m
  SameRecord-trans (in_any_order h unordered a m) (equal _) = in_any_order h unordered a m
  SameRecord-trans (in_any_order h {qs = qs} {ss = ss} unordered a m) (one_by_one _ {ss = ts} b) =
      let w = held_carried qs ss ts m b in
      in_any_order h unordered (SameAll-trans a w.same) w.moved
  SameRecord-trans (in_any_order h {qs = qs} {ss = ss} unordered a m) (in_any_order _ {qs = ps} {ss = ts} _ b k) =
      let w = held_carried qs ss ps m b in
      in_any_order h unordered (SameAll-trans a w.same) (IsPermutation-trans (listed w.between) (listed ps) (listed ts) w.moved k)

  pub SameAll-trans : {rs ss ts : Records} → SameAll rs ss → SameAll ss ts → SameAll rs ts
  SameAll-trans at_end q = q
  SameAll-trans (next same all) (next same' all') = next (SameRecord-trans same same') (SameAll-trans all all')

-- and the other way round
mutual
  pub SameRecord-sym : {r s : Record} → SameRecord r s → SameRecord s r
  SameRecord-sym (equal r) = equal r
  SameRecord-sym (one_by_one h a) = one_by_one h (SameAll-sym a)
  SameRecord-sym (in_any_order h {rs = rs} {qs = qs} {ss = ss} unordered a m) =
      let w = held_carried ss qs rs (IsPermutation-sym (listed qs) (listed ss) m) (SameAll-sym a) in
      in_any_order h unordered w.same w.moved

  pub SameAll-sym : {rs ss : Records} → SameAll rs ss → SameAll ss rs
  SameAll-sym at_end = at_end
  SameAll-sym (next same all) = next (SameRecord-sym same) (SameAll-sym all)

-- they are marks alone alike, and nested as deep
pub same-marks_alone : (rs ss : List Record) → SameAll (held rs) (held ss) → presence_marks_alone rs ≡ presence_marks_alone ss
same-marks_alone [] [] all = refl
same-marks_alone [] (s ∷ ss) all = elim all [ ]
same-marks_alone (r ∷ rs) [] all = elim all [ ]
same-marks_alone (r ∷ rs) (s ∷ ss) all =
    let both = SameAll-cons all in
    ap (λ b. b && presence_marks_alone rs) (same-mark both.0) ∙ ap (λ b. is_presence_mark s && b) (same-marks_alone rs ss both.1)

-- and begin with the same tags
pub same-first_tags : (rs ss : List Record) → SameRecords rs ss → first_tags rs ≡ first_tags ss
same-first_tags [] [] all = refl
same-first_tags [] (s ∷ ss) all = elim all [ ]
same-first_tags (r ∷ rs) [] all = elim all [ ]
same-first_tags (r ∷ rs) (s ∷ ss) all =
    let both = SameAll-cons all in
    ap (λ b. if b then first_tags rs else record_tags r) (same-mark both.0)
    ∙ ap (λ ts. if is_presence_mark s then ts else record_tags r) (same-first_tags rs ss both.1)
    ∙ ap (λ ts. if is_presence_mark s then first_tags ss else ts) (same-tags both.0)

-- records of one head that hold the same are the same
pub same_holding : (h : Head) (rs ss : List Record) → SameAll (held rs) (held ss) → SameAll (held (holding h rs ∷ [])) (held (holding h ss ∷ []))
same_holding h rs ss all = next (one_by_one h all) at_end

-- and also those that hold the same after a rearrangement, where the order means nothing
pub same_rearranged : (h : Head) (rs qs ss : List Record) → is_unordered h ≡ true → SameAll (held rs) (held qs) → IsPermutation qs ss → SameRecord (holding h rs) (holding h ss)
same_rearranged h rs qs ss unordered all moved =
    in_any_order h unordered all (subst (λ l. IsPermutation l (listed (held ss))) (sym (listed-held qs)) (subst (λ l. IsPermutation qs l) (sym (listed-held ss)) moved))

-- a group, which is absent where the other is
pub same_group_records : (table : Table Row) (rs ss : List Record) → SameAll (held rs) (held ss) → SameAll (held (group_records table (Some rs))) (held (group_records table (Some ss)))
same_group_records table rs ss all = by_marks (presence_marks_alone rs) (presence_marks_alone ss) (same-marks_alone rs ss all)
  where
    by_marks : (a b : Bool) → a ≡ b →
        SameAll (held (if a then presence_mark (group_absent table) ∷ [] else presence_mark (group_start table) ∷ rs ++ presence_mark group_end ∷ [])) (held (if b then presence_mark (group_absent table) ∷ [] else presence_mark (group_start table) ∷ ss ++ presence_mark group_end ∷ []))
    by_marks true true e = SameAll-refl (held (presence_mark (group_absent table) ∷ []))
    by_marks true false e = cc
    by_marks false true e = cc
    by_marks false false e =
        next (equal (presence_mark (group_start table))) (SameAll-append rs ss (presence_mark group_end ∷ []) (presence_mark group_end ∷ []) all (SameAll-refl (held (presence_mark group_end ∷ []))))

-- A record that holds no others is the same as itself alone.
pub same_as_scalar : {q : Record} {t : Tag} {c : ConstraintSet} {n : Name} {x : Content} → SameRecord q (scalar t c n x) → q ≡ scalar t c n x
same_as_scalar (equal r) = refl

pub same_as_raw : {q : Record} {n : Name} {bytes : List ℕ} → SameRecord q (open_type n bytes) → q ≡ open_type n bytes
same_as_raw (equal r) = refl

pub same_as_mark : {q : Record} {m : PresenceMark} → SameRecord q (presence_mark m) → q ≡ presence_mark m
same_as_mark (equal r) = refl

-- A record that is the same as one that holds others: it has the same head, and holds lists that are the same after a
-- rearrangement, or element by element where the order means something.
pub record HoldsTheSame (q : Record) (h : Head) (ss : List Record) : Type 0 where
  pub inner : List Record
  pub is : q ≡ holding h inner
  pub order : List Record
  pub same : SameAll (held inner) (held order)
  pub moved : IsPermutation order ss
  pub unmoved : is_unordered h ≡ false → order ≡ ss

holds_as_it_is : (h : Head) (rs : Records) (ss : List Record) → SameAll rs (held ss) → HoldsTheSame (scope h rs) h ss
holds_as_it_is h rs ss all = record {
  inner = listed rs;
  is = ap (scope h) (sym (held-listed rs));
  order = ss;
  same = subst (λ l. SameAll l (held ss)) (sym (held-listed rs)) all;
  moved = IsPermutation-refl ss;
  unmoved = λ _. refl;
}

pub same_as_holding : (q : Record) (h : Head) (ss : List Record) → SameRecord q (holding h ss) → HoldsTheSame q h ss
same_as_holding q h ss (equal r) = holds_as_it_is h (held ss) ss (SameAll-refl (held ss))
same_as_holding q h ss (one_by_one _ {rs = rs} all) = holds_as_it_is h rs ss all
same_as_holding q h ss (in_any_order _ {rs = rs} {qs = qs} unordered all moved) = record {
  inner = listed rs;
  is = ap (scope h) (sym (held-listed rs));
  order = listed qs;
  same = subst (λ l. SameAll l (held (listed qs))) (sym (held-listed rs)) (subst (λ l. SameAll rs l) (sym (held-listed qs)) all);
  moved = subst (λ l. IsPermutation (listed qs) l) (listed-held ss) moved;
  unmoved = λ ordered. absurd (false≢true (sym ordered ∙ unordered));
}

-- A list that is the same as a list: the first records are the same, and so are the others.
pub record BeginsTheSame (qs : List Record) (r : Record) (rs : List Record) : Type 0 where
  pub first : Record
  pub others : List Record
  pub is : qs ≡ first ∷ others
  pub same_first : SameRecord first r
  pub same_others : SameAll (held others) (held rs)

pub same_as_cons : (qs : List Record) (r : Record) (rs : List Record) → SameAll (held qs) (held (r ∷ rs)) → BeginsTheSame qs r rs
same_as_cons [] r rs all = elim all [ ]
same_as_cons (q ∷ qs) r rs all = let both = SameAll-cons all in record { first = q; others = qs; is = refl; same_first = both.0; same_others = both.1 }

pub same_as_none : (qs : List Record) → SameAll (held qs) (held []) → qs ≡ []
same_as_none [] all = refl
same_as_none (q ∷ qs) all = elim all [ ]

-- the lemmas for the laws of sameness
pub ruleset sameness = (equal, SameRecord-sym, SameRecord-trans, SameAll-refl, SameAll-sym, SameAll-trans)
