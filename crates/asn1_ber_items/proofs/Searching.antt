-- The steps of the search for the end of the first element.
use Rattle.std.proofs.Common.{◌≡◌, ◌≢◌, ℕ, zero, suc, ◌+◌, ◌-◌, ◌<◌, ◌≤◌, true, List, [], ◌∷◌, ◌++◌, None, Some, Option, append-nil, append_assoc, length, length-append, length-drop, drop, take, refl, ap, sym, subst, ◌∙◌, arith}
use Rattle.std.proofs.Math.Seq.{drop-append_seam}
use Rattle.std.proofs.lemmas.List.{take-append-drop}
use Rattle.std.specs.Prelude.{MatchOption}
use Rattle.asn1_ber_items.specs.Ends.{BeginDefinite, BeginIndefinite, BeginWithOne, EndsInside, IsAhead, IsAtEnd, Passes, behind_definite, behind_end, in_indefinite}
use Rattle.asn1_ber_items.specs.Headers.{Header, end_of_contents, header_at}
use Rattle.asn1_ber_items.specs.Progress.{HasCome}
use Rattle.asn1_ber_items.specs.Spellings.{BeginWith, IsDefinite}
use Rattle.asn1_ber_items.specs.declared.ahead.Ahead.{Ahead}
use Rattle.asn1_ber_items.specs.declared.progress.Progress.{Progress}
use Rattle.asn1_ber_items.proofs.Ends.{ahead_behind, ahead_end, ahead_inside, definite_before, indefinite_before}
use Rattle.asn1_ber_items.proofs.Headers.{cut_shorter, header_shorter}
use Rattle.asn1_ber_items.proofs.Inside.{EndsOutside, later_definite, later_end, later_indefinite}
use Rattle.asn1_ber_items.proofs.Suffixes.{header_ends}

-- a property of an option, and a weaker one
pub option_weaker : {V : Type 0} (o : Option V) (N M : Type 0) (P Q : V → Type 0) → MatchOption o N P → (N → M) → ((v : V) → P v → Q v) → MatchOption o M Q
option_weaker None N M P Q is none some = none is
option_weaker (Some v) N M P Q is none some = some v is

-- behind an element of a definite length
definite_ahead : (n : ℕ) → 0 < n → (left contents back behind : List ℕ) → BeginDefinite left contents back → IsAhead n (left ++ behind) → IsAhead n (back ++ behind)
definite_ahead zero some left contents back behind d a = absurd (omega (arith, some))
definite_ahead (suc n) some left contents back behind d a = ahead_behind n (left ++ behind) contents (back ++ behind) (definite_before left contents back behind d) a

definite_inside : (n : ℕ) → 0 < n → (left contents back behind : List ℕ) → BeginDefinite left contents back → EndsInside n (back ++ behind) → EndsInside n (left ++ behind)
definite_inside zero some left contents back behind d e = absurd (omega (arith, some))
definite_inside (suc n) some left contents back behind d e = behind_definite n (left ++ behind) contents (back ++ behind) (definite_before left contents back behind d) e

pub passes_definite : (old new : Ahead) (h : Header) (contents back : List ℕ) → header_at old.left.now ≡ Some h → h.tag ≢ end_of_contents → IsDefinite h contents back → 0 < old.levels →
    new.levels ≡ old.levels → new.left.now ≡ back → Passes old new
passes_definite old new h contents back at some is held levels left =
    let d : BeginDefinite old.left.now contents back = record { header = h; at = at; is_element = some; is = is } in
    let e = header_ends old.left.now h at in
    let are : old.left.now ≡ (e.front ++ contents) ++ back = e.are ∙ ap (λ l. e.front ++ l) is.are ∙ sym (append_assoc e.front contents back) in
    record {
      front = e.front ++ contents;
      are = are ∙ ap (λ l. (e.front ++ contents) ++ l) (sym left);
      some = omega (arith, ap length are, length-append (e.front ++ contents) back, cut_shorter old.left.now h contents back at is);
      few = omega (arith, levels);
      ahead = λ behind a. rw (levels, left) (definite_ahead old.levels held old.left.now contents back behind d a);
      inside = λ behind. (
        λ ends. definite_inside old.levels held old.left.now contents back behind d (rw (levels, left) at ends),
        λ ends. rw (levels, left) (later_definite old.levels (old.left.now ++ behind) contents (back ++ behind) ends (definite_before old.left.now contents back behind d)).ends,
      );
    }

-- inside an element of an indefinite length
pub passes_indefinite : (old new : Ahead) (h : Header) → BeginWith true h old.left.now → h.size ≡ None → new.levels ≡ suc old.levels → new.left.now ≡ h.rest → Passes old new
passes_indefinite old new h begin size levels left =
    let b : BeginIndefinite old.left.now h.rest = record { header = h; begin = begin; size = size; are = refl } in
    let e = header_ends old.left.now h begin.at in
    record {
      front = e.front;
      are = e.are ∙ ap (λ l. e.front ++ l) (sym left);
      some = omega (arith, ap length e.are, length-append e.front h.rest, header_shorter old.left.now h begin.at);
      few = omega (arith, levels);
      ahead = λ behind a. rw (levels, left) (ahead_inside old.levels (old.left.now ++ behind) (h.rest ++ behind) (indefinite_before old.left.now h.rest behind b) a);
      inside = λ behind. (
        λ ends. in_indefinite old.levels (old.left.now ++ behind) (h.rest ++ behind) (indefinite_before old.left.now h.rest behind b) (rw (levels, left) at ends),
        λ ends. rw (levels, left) (later_indefinite old.levels (old.left.now ++ behind) (h.rest ++ behind) ends (indefinite_before old.left.now h.rest behind b)),
      );
    }

-- behind end-of-contents octets
end_ahead : (n : ℕ) → 0 < n → (back : List ℕ) → IsAhead (suc n) (0 ∷ 0 ∷ back) → IsAhead n back
end_ahead zero some back a = absurd (omega (arith, some))
end_ahead (suc n) some back a = ahead_end n back a

end_inside : (n : ℕ) → 0 < n → (back : List ℕ) → EndsInside n back → EndsInside (suc n) (0 ∷ 0 ∷ back)
end_inside zero some back e = absurd (omega (arith, some))
end_inside (suc n) some back e = behind_end n back e

outside : (n m : ℕ) (back : List ℕ) → m ≡ suc n → EndsOutside m back → EndsInside n back
outside n m back is o = subst (λ k. EndsInside k back) (let e : o.outer ≡ n = omega (arith, is, o.is) in e) o.ends

pub passes_end : (old new : Ahead) (back : List ℕ) → old.left.now ≡ 0 ∷ 0 ∷ back → 0 < new.levels → old.levels ≡ suc new.levels → new.left.now ≡ back → Passes old new
passes_end old new back are held levels left = record {
  front = 0 ∷ 0 ∷ [];
  are = are ∙ ap (λ l. 0 ∷ 0 ∷ l) (sym left);
  some = omega arith;
  few = omega (arith, levels);
  ahead = λ behind a. rw left (end_ahead new.levels held (back ++ behind) (rw (levels, are) at a));
  inside = λ behind. (
    λ ends. rw (levels, are) (end_inside new.levels held (back ++ behind) (rw left at ends)),
    λ ends. rw left (outside new.levels old.levels (back ++ behind) levels (later_end old.levels (old.left.now ++ behind) (back ++ behind) ends (ap (λ l. l ++ behind) are))),
  );
}

-- the first element ends behind contents octets, and behind end-of-contents octets
pub ends_definite : (old : Ahead) (h : Header) (contents back : List ℕ) → header_at old.left.now ≡ Some h → h.tag ≢ end_of_contents → IsDefinite h contents back → old.levels ≡ 0 → IsAtEnd old
ends_definite old h contents back at some is none behind ends =
    let d : BeginDefinite old.left.now contents back = record { header = h; at = at; is_element = some; is = is } in
    omega (arith, none, (later_definite old.levels (old.left.now ++ behind) contents (back ++ behind) ends (definite_before old.left.now contents back behind d)).some)

pub ends_last : (old : Ahead) (back : List ℕ) → old.left.now ≡ 0 ∷ 0 ∷ back → old.levels ≡ 1 → IsAtEnd old
ends_last old back are last behind ends =
    let o = later_end old.levels (old.left.now ++ behind) (back ++ behind) ends (ap (λ l. l ++ behind) are) in
    omega (arith, last, o.is, o.some)

-- what is ahead where a search came
pub come_ahead : (p : Progress) (octets : List ℕ) (a : Ahead) → HasCome p octets → a.left.now ≡ drop p.offset octets → a.levels ≡ p.levels → BeginWithOne octets → IsAhead a.levels a.left.now
come_ahead p octets a was left levels one =
    rw (levels, left) (subst (IsAhead p.levels) (append-nil (drop p.offset octets)) (was.ahead [] (subst BeginWithOne (sym (append-nil octets)) one)))

pub come_inside : (p : Progress) (octets : List ℕ) (a : Ahead) → HasCome p octets → a.left.now ≡ drop p.offset octets → a.levels ≡ p.levels → EndsInside a.levels a.left.now → EndsInside 0 octets
come_inside p octets a was left levels ends =
    let here : EndsInside p.levels (drop p.offset octets) = rw (levels, left) at ends in
    subst (EndsInside 0) (append-nil octets) ((was.inside []).0 (subst (EndsInside p.levels) (sym (append-nil (drop p.offset octets))) here))

pub come_ends : (p : Progress) (octets : List ℕ) (a : Ahead) → HasCome p octets → a.left.now ≡ drop p.offset octets → a.levels ≡ p.levels → EndsInside 0 octets → EndsInside a.levels a.left.now
come_ends p octets a was left levels ends =
    rw (levels, left) (subst (EndsInside p.levels) (append-nil (drop p.offset octets)) ((was.inside []).1 (subst (EndsInside 0) (sym (append-nil octets)) ends)))

-- how far it comes by a step
module _ (p : Progress) (octets : List ℕ) (old new : Ahead) (within : p.offset ≤ length octets) (left : old.left.now ≡ drop p.offset octets) (s : Passes old new) where
  pub whole : octets ≡ (take p.offset octets ++ s.front) ++ new.left.now
  whole = sym (take-append-drop p.offset octets) ∙ ap (λ l. take p.offset octets ++ l) (sym left ∙ s.are) ∙ sym (append_assoc (take p.offset octets) s.front new.left.now)

  pub longer : length octets ≡ (p.offset + length s.front) + length new.left.now
  longer = omega (arith, within, ap length left, length-drop p.offset octets, ap length s.are, length-append s.front new.left.now)

  pub dropped : new.left.now ≡ drop (length octets - length new.left.now) octets
  dropped =
      let front = take p.offset octets ++ s.front in
      let size : length front ≡ length octets - length new.left.now = omega (arith, ap length whole, length-append front new.left.now) in
      sym (drop-append_seam front new.left.now) ∙ ap (λ l. drop (length front) l) (sym whole) ∙ ap (λ k. drop k octets) size

  pub comes_further : (q : Progress) → q.offset ≡ length octets - length new.left.now → q.levels ≡ new.levels → old.levels ≡ p.levels → HasCome p octets → HasCome q octets
  comes_further q offset levels were was =
      let rest : drop q.offset octets ≡ new.left.now = ap (λ k. drop k octets) offset ∙ sym dropped in
      record {
        within = omega (arith, offset, longer);
        ahead = λ behind one. rw (levels, rest) (s.ahead behind (rw (were, left) (was.ahead behind one)));
        inside = λ behind. (
          λ ends. (was.inside behind).0 (rw (were, left) at ((s.inside behind).0 (rw (levels, rest) at ends))),
          λ ends. rw (levels, rest) ((s.inside behind).1 (rw (were, left) ((was.inside behind).1 ends))),
        );
      }
