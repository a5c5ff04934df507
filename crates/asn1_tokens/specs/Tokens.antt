-- The tokens of a text.
use Rattle.std.specs.Prelude.{◌≡◌, ◌+◌, ℕ, true, List, [], ◌∷◌, ◌++◌, length}
use Rattle.asn1_tokens.specs.declared.token.Token.{Token}
use Rattle.asn1_tokens.specs.Items.{EndsItem, IsItem}
use Rattle.asn1_tokens.specs.Skipped.{Skips, is_unskipped}

-- What is skipped, the token, and the text after it are the text. All white space and all comments before the token are
-- skipped. The token is an item of its kind, which could not be longer, and begins at its offset in the whole text, which has
-- this size.
pub record TakesToken (size : ℕ) (text : List ℕ) (t : Token) (after : List ℕ) : Type 0 where
  pub gap : List ℕ
  pub parts : text ≡ gap ++ (t.text.now ++ after)
  pub skipped : Skips text (t.text.now ++ after)
  pub unskipped : is_unskipped (t.text.now ++ after) ≡ true
  pub item : IsItem t.kind t.text.now
  pub ends : EndsItem t.kind (t.text.now ++ after) after
  pub start : t.start + length (t.text.now ++ after) ≡ size

-- The tokens one after another, and the text after the last.
abbrev pub TakesTokens : ℕ → List ℕ → List Token → List ℕ → Type 0
TakesTokens size text [] rest = text ≡ rest
TakesTokens size text (t ∷ ts) rest = (after : List ℕ) × TakesToken size text t after × TakesTokens size after ts rest

-- All tokens of a text: after the last there are white space and comments alone.
abbrev pub AreTokens : List ℕ → List Token → Type 0
AreTokens text tokens = (rest : List ℕ) × TakesTokens (length text) text tokens rest × Skips rest []
