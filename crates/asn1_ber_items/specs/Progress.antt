-- How far the search for the end of the first element came.
use Rattle.std.specs.Prelude.{◌≡◌, ◌↔◌, ℕ, ◌≤◌, List, ◌++◌, drop, length}
use Rattle.std.proofs.Common.{append_assoc, ap, sym, subst, ◌∙◌, arith, length-append}
use Rattle.std.proofs.lemmas.List.{drop-append-le}
use Rattle.asn1_ber_items.specs.Ends.{BeginWithOne, EndsInside, IsAhead}
use Rattle.asn1_ber_items.specs.declared.progress.Progress.{Progress}

-- The search came so far in these octets: if they begin with one element, whatever follows them, what is ahead is what closes the
-- open elements; and octets end ahead of the search if and only if they end inside the first element.
pub record HasCome (p : Progress) (octets : List ℕ) : Type 0 where
  pub within : p.offset ≤ length octets
  pub ahead : (behind : List ℕ) → BeginWithOne (octets ++ behind) → IsAhead p.levels (drop p.offset octets ++ behind)
  pub inside : (behind : List ℕ) → EndsInside p.levels (drop p.offset octets ++ behind) ↔ EndsInside 0 (octets ++ behind)

-- Trailing octets change nothing of how far the search came.
pub goes_on : (p : Progress) (octets more : List ℕ) → HasCome p octets → HasCome p (octets ++ more)
goes_on p octets more came = record {
  within = omega (arith, came.within, length-append octets more);
  ahead = λ behind one. subst (IsAhead p.levels) (same behind) (came.ahead (more ++ behind) (subst BeginWithOne (append_assoc octets more behind) one));
  inside = λ behind. (
    λ ends. subst (EndsInside 0) (sym (append_assoc octets more behind)) ((came.inside (more ++ behind)).0 (subst (EndsInside p.levels) (sym (same behind)) ends)),
    λ ends. subst (EndsInside p.levels) (same behind) ((came.inside (more ++ behind)).1 (subst (EndsInside 0) (append_assoc octets more behind) ends)),
  );
}
  where
    same : (behind : List ℕ) → drop p.offset octets ++ (more ++ behind) ≡ drop p.offset (octets ++ more) ++ behind
    same behind = sym (append_assoc (drop p.offset octets) more behind) ∙ ap (λ l. l ++ behind) (sym (drop-append-le p.offset octets more came.within))
