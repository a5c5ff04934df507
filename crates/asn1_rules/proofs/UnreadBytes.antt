-- The unread bytes of a stream of values, once a value came.
use Rattle.std.proofs.Common.{◌≡◌, ℕ, ◌≤◌, List, [], ◌∷◌, ◌++◌, length, take, drop, sym, ap, subst, ◌∙◌, refl}
use Rattle.std.specs.Prelude.{None, Some}
use Rattle.std.proofs.Math.Seq.{take-append_seam, drop-append_seam}
use Rattle.std.proofs.lemmas.List.{take-append-le, drop-append-le, take-append-drop}
use Rattle.asn1_laws.specs.declared.decode_error.DecodeError.{DecodeError}
use Rattle.asn1_rules.specs.Fronts.{Fronts, IsFront, IsLawful, IsNoFront, IsSteady}
use Rattle.asn1_rules.specs.Pieces.{AreFronts, ComeBack, one_and}
use Rattle.asn1_rules.specs.UnreadBytes.{Remains}

module _ {R V : Type 0} (F : Fronts R V) (reader : R) where
  -- The first of the fronts, and the others.
  record Opened (v : V) (vs : List V) (bytes : List ℕ) : Type 0 where
    first : List ℕ
    behind : List ℕ
    is : first ++ behind ≡ bytes
    front : F.front reader first v (length first)
    others : AreFronts F reader vs behind

  opened : {v : V} {vs : List V} {bytes : List ℕ} → AreFronts F reader (v ∷ vs) bytes → Opened v vs bytes
  opened (one_and {bytes = behind} first front others) = record { first = first; behind = behind; is = refl; front = front; others = others }

  module _ (law : IsLawful F) (steady : IsSteady F reader) where
    -- A cut of the unread bytes is the first front, which is also one of the unread bytes alone.
    record Cut (v : V) (vs : List V) (unread behind : List ℕ) (n : ℕ) : Type 0 where
      front : F.front reader unread v n
      others : AreFronts F reader vs (drop n unread ++ behind)

    first_is_cut : (v : V) (vs : List V) (unread behind : List ℕ) (n : ℕ) → F.cut reader unread n →
        AreFronts F reader (v ∷ vs) (unread ++ behind) → Cut v vs unread behind n
    first_is_cut v vs unread behind n cut fronts =
        let o = opened fronts in
        let f : F.front reader (unread ++ behind) v (length o.first) =
        subst (λ l. F.front reader l v (length o.first)) o.is (steady.front_remains o.first o.behind v (length o.first) o.front) in
        let e : n ≡ length o.first = steady.one_cut (unread ++ behind) n (length o.first)
        (steady.cut_remains unread behind n cut) (law.is_cut reader (unread ++ behind) v (length o.first) f) in
        let within : n ≤ length unread = law.within reader unread n cut in
        let t : take n unread ≡ o.first =
        sym (take-append-le n unread behind within) ∙ ap (take n) (sym o.is)
        ∙ ap (λ k. take k (o.first ++ o.behind)) e ∙ take-append_seam o.first o.behind in
        let d : o.behind ≡ drop n unread ++ behind =
        sym (drop-append_seam o.first o.behind) ∙ ap (λ k. drop k (o.first ++ o.behind)) (sym e)
        ∙ ap (drop n) o.is ∙ drop-append-le n unread behind within in
        let w : o.first ++ drop n unread ≡ unread = ap (λ l. l ++ drop n unread) (sym t) ∙ take-append-drop n unread in
        record {
          front = subst (λ l. F.front reader l v n) w
              (subst (F.front reader (o.first ++ drop n unread) v) (sym e)
              (steady.front_remains o.first (drop n unread) v (length o.first) o.front));
          others = subst (AreFronts F reader vs) d o.others;
        }

    pub one_came : (ws vs : List V) (w : V) (unread behind : List ℕ) (n : ℕ) → IsFront F reader unread (w, n) →
        Remains F reader ws vs (unread ++ behind) → Remains F reader (ws ++ w ∷ []) vs (drop n unread ++ behind)
    one_came [] [] w unread behind n is before = tt
    one_came [] (v ∷ vs) w unread behind n is before =
        let c = first_is_cut v vs unread behind n is.cut before in
        ((is.as_written v n c.front).1, c.others)
    one_came (x ∷ ws) [] w unread behind n is before = tt
    one_came (x ∷ ws) (v ∷ vs) w unread behind n is before = (before.0, one_came ws vs w unread behind n is before.1)

  -- All came that were asked for.
  pub all_came : (ws vs : List V) (unread : List ℕ) → Remains F reader ws vs unread →
      ComeBack F.same F.height (F.depth reader) ws vs None
  all_came [] [] unread before = tt
  all_came [] (v ∷ vs) unread before = tt
  all_came (w ∷ ws) [] unread before = tt
  all_came (w ∷ ws) (v ∷ vs) unread before = (before.0, all_came ws vs unread before.1)

  -- No more came, since the front of what is unread was not read.
  pub one_failed : (ws vs : List V) (unread : List ℕ) (e : DecodeError) → IsSteady F reader → IsNoFront F reader unread e →
      Remains F reader ws vs unread → ComeBack F.same F.height (F.depth reader) ws vs (Some e)
  one_failed [] [] unread e steady refused before = tt
  one_failed [] (v ∷ vs) unread e steady refused before =
      let o = opened before in
      refused v (length o.first) (subst (λ l. F.front reader l v (length o.first)) o.is (steady.front_remains o.first o.behind v (length o.first) o.front))
  one_failed (w ∷ ws) [] unread e steady refused before = tt
  one_failed (w ∷ ws) (v ∷ vs) unread e steady refused before = (before.0, one_failed ws vs unread e steady refused before.1)
