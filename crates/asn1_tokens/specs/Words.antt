-- Tables of words and symbols.
use Rattle.std.specs.Prelude.{ℕ, Bool, List, map, nat_eq}
use Rattle.std.specs.List.{list_any, starts_with}
use Rattle.std.specs.Str.{bytes_eq}
use Rattle.asn1_tokens.specs.declared.reserved_words.TheConstants.{RESERVED_WORDS}
use Rattle.asn1_tokens.specs.declared.symbols.TheConstants.{SYMBOLS}

-- one of a table
abbrev pub is_among : List (List ℕ) → List ℕ → Bool
is_among table word = list_any (λ known. bytes_eq known word) table

-- a text that begins with one of a table
abbrev pub begins_with_any : List (List ℕ) → List ℕ → Bool
begins_with_any table text = list_any (λ known. starts_with nat_eq text known) table

unfoldable pub is_reserved : List ℕ → Bool
is_reserved word = is_among (map (λ k. k.now) RESERVED_WORDS) word

unfoldable pub is_symbol : List ℕ → Bool
is_symbol item = is_among (map (λ k. k.now) SYMBOLS) item

unfoldable pub begins_with_symbol : List ℕ → Bool
begins_with_symbol text = begins_with_any (map (λ k. k.now) SYMBOLS) text
