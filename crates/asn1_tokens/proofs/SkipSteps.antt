-- One step of skipping.
use Rattle.std.proofs.Common.{◌≡◌, ℕ, ◌-◌, Bool, true, false, List, length, take, drop, Some, sym, ap, ◌∙◌, subst}
use Rattle.std.proofs.lemmas.List.{take_rest}
use Rattle.asn1_tokens.specs.Characters.{is_white_space, first}
use Rattle.asn1_tokens.specs.Skipped.{Skips, white_space, no_break_space, line_comment, comment, after_hyphens, after_comment, begins_with_no_break_space, begins_with_hyphens, begins_with_comment}

pub skips_white_space : (text after : List ℕ) (r : ℕ) (b : Bool) → b ≡ is_white_space r → b ≡ true → r ≡ first text → after ≡ take (length text - 1) (drop 1 text) →
    (rest : List ℕ) → Skips after rest → Skips text rest
skips_white_space text after r b test passed value left rest skips =
    white_space text rest (ap is_white_space (sym value) ∙ sym test ∙ passed)
    (subst (λ t. Skips t rest) (left ∙ take_rest text 1) skips)

pub skips_no_break_space : (text after : List ℕ) (b : Bool) → b ≡ begins_with_no_break_space text → b ≡ true → after ≡ take (length text - 2) (drop 2 text) →
    (rest : List ℕ) → Skips after rest → Skips text rest
skips_no_break_space text after b test passed left rest skips =
    no_break_space text rest (sym test ∙ passed)
    (subst (λ t. Skips t rest) (left ∙ take_rest text 2) skips)

pub skips_line_comment : (text after : List ℕ) (b : Bool) → b ≡ begins_with_hyphens text → b ≡ true → after ≡ after_hyphens (take (length text - 2) (drop 2 text)) →
    (rest : List ℕ) → Skips after rest → Skips text rest
skips_line_comment text after b test passed left rest skips =
    line_comment text rest (sym test ∙ passed)
    (subst (λ t. Skips t rest) (left ∙ ap after_hyphens (take_rest text 2)) skips)

pub skips_comment : (text after : List ℕ) (b : Bool) → b ≡ begins_with_comment text → b ≡ true → Some after ≡ after_comment false 1 (take (length text - 2) (drop 2 text)) →
    (rest : List ℕ) → Skips after rest → Skips text rest
skips_comment text after b test passed left rest skips =
    comment text after rest (sym test ∙ passed)
    (ap (after_comment false 1) (sym (take_rest text 2)) ∙ sym left) skips
