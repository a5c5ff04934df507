-- Fronts of packed bytes: the item with which they begin.
use Rattle.std.specs.Prelude.{◌≡◌, ◌≤◌, ◌+◌, ℕ, Bool, List, Some, length}
use Rattle.std.proofs.Common.{arith}
use Rattle.asn1_bench.specs.declared.reader.BenchReader.{BenchReader}
use Rattle.asn1_items.specs.Headers.{Header, header_at, is_one_item}
use Rattle.asn1_model.specs.Meaning.{Meaning}
use Rattle.asn1_bench.specs.Carried.{Carries}
use Rattle.asn1_rules.specs.Fronts.{Fronts}
use Rattle.asn1_rules.specs.ItemFronts.{item_fronts}

-- The bytes begin with an item of n bytes: with a header, after which all bytes are there that it says are inside.
pub record IsCut (bytes : List ℕ) (n : ℕ) : Type 0 where
  pub header : Header
  pub at : header_at bytes ≡ Some header
  pub all_there : header.size ≤ length header.body
  pub long : n + length header.body ≡ length bytes + header.size

pub cut_within : (bytes : List ℕ) (n : ℕ) → IsCut bytes n → n ≤ length bytes
cut_within bytes n cut = omega (arith, cut.all_there, cut.long)

-- The description of a reader, for a type of this meaning and equality.
abbrev pub packed_fronts : {V : Type 0} → Meaning V → (V → V → Bool) → Fronts BenchReader V
packed_fronts m eq = item_fronts IsCut Carries (λ own. is_one_item own) (λ reader. reader.depth) m eq
