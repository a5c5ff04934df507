-- Function values that read types and constraints to a depth.
use Rattle.std.specs.Prelude.{ℕ}
use denote.Ref.{MutBor}
use Rattle.asn1_grammar.specs.declared.cursor.Cursor.{Cursor}

pub record Nests (depth : ℕ) (types constraints : MutBor Cursor → ℕ → Type 0) : Type 0 where
  pub types_callable : (cursor : MutBor Cursor) → types cursor depth
  pub constraints_callable : (cursor : MutBor Cursor) → constraints cursor depth
