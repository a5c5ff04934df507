-- A list has no exception where each of its numbers passes the test.
use Rattle.std.proofs.Common.{◌≡◌, ◌↔◌, ℕ, ◌≤◌, Bool, true, false, not, IsNone, Some, None, List, length, get_or, refl, arith}
use Rattle.std.specs.List.{AllPass, position, position_or_len}
use Rattle.std.proofs.lemmas.Bool.{not-false, not-true}
use Rattle.std.proofs.lemmas.Bool.Decides.{nat_tests}
use Rattle.std.proofs.lemmas.Grind.{common_steps}
use Rattle.std.proofs.lemmas.List.Quantifiers.{position-Some}
use Rattle.std.proofs.lemmas.List.Sums.{fails_before_first}

module _ (test : ℕ → Bool) (ns : List ℕ) where
  passes : position (λ n. not (test n)) ns ≡ None → AllPass test ns
  passes none k d within =
      let past : length ns ≤ position_or_len (λ n. not (test n)) ns = grind (arith, nat_tests, common_steps) in
      not-false (test (get_or ns k d)) (fails_before_first (λ n. not (test n)) ns k d (omega arith))

  fails : (i : ℕ) → position (λ n. not (test n)) ns ≡ Some i → AllPass test ns → ⊥
  fails i some pass =
      let found = position-Some (λ n. not (test n)) ns i 0 some in
      let wrong : test (get_or ns i 0) ≡ false = not-true (test (get_or ns i 0)) found.1 in
      let right : test (get_or ns i 0) ≡ true = pass i 0 found.0 in
      cc

  pub none_where_all_pass : IsNone (position (λ n. not (test n)) ns) ↔ AllPass test ns
  none_where_all_pass = elim (position (λ n. not (test n)) ns) as (λ o. position (λ n. not (test n)) ns ≡ o → IsNone o ↔ AllPass test ns) [
    | None ↦ λ none. (λ _. passes none, λ _. refl)
    | Some i ↦ λ some. (λ none. absurd (let wrong : true ≡ false = none in cc), λ pass. absurd (fails i some pass))
  ] refl
