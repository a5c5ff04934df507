-- Strings of an alphabet inside ASCII are texts.
use Rattle.std.proofs.Common.{◌≡◌, ℕ, ◌<◌, Bool, IsTrue, List, Result, Ok, Err, MatchResult, IsOk, true, rules}
use Rattle.std.specs.List.{AllPass}
use Rattle.std.specs.Str.{IsUtf8}
use Rattle.std.proofs.lemmas.List.Elements.{All-same, All-weaker}
use Rattle.std.proofs.lemmas.Str.{IsUtf8-from_ascii}
use Rattle.std.proofs.lemmas.Str.Ascii.{IsAscii-from_all}

-- units of such an alphabet are UTF-8
pub IsUtf8-from_alphabet : (allows : ℕ → Bool) → ((unit : ℕ) → IsTrue (allows unit) → unit < 128) → (units text : List ℕ) → text ≡ units → AllPass allows units → IsUtf8 text
IsUtf8-from_alphabet allows inside units text same all =
    let passes = All-same (λ u. allows u ≡ true) text units same all in
    IsUtf8-from_ascii text (IsAscii-from_all text (All-weaker (λ u. allows u ≡ true) (λ u. u < 128) inside text passes))

-- so reading them as a text succeeds
pub IsOk-from_utf8 : {T E : Type 0} (P : T → Type 0) (Q : E → Type 0) (bytes : List ℕ) (r : Result T E) → IsUtf8 bytes → MatchResult r P (λ e. ¬ IsUtf8 bytes × Q e) → IsOk r
IsOk-from_utf8 P Q bytes (Ok text) utf8 cases = search rules
IsOk-from_utf8 P Q bytes (Err e) utf8 cases = absurd (cases.0 utf8)
