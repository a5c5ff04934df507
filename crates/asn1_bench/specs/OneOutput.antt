-- The records with one output in bytes of items, and the types whose values have one spelling.
use Rattle.std.specs.Prelude.{◌≡◌, ⊤, ℕ, Vec, false}
use Rattle.std.specs.declared.alloc.Global.{Global}
use Rattle.asn1_model.specs.Meaning.{Meaning, own_records}
use Rattle.asn1_model.specs.Orders.{is_unordered}
use Rattle.asn1_model.specs.Records.{Record, Records, scalar, scope, open_type, presence_mark, none, more, held}
use Rattle.asn1_rules.specs.Rules.{Format}

-- The order of what is inside means something, at any depth: there is no SET and no SET OF (X.680, 27 and 28).
abbrev mutual
  pub IsOrdered : Record → Type 0
  IsOrdered (scalar t c n x) = ⊤
  IsOrdered (scope h rs) = (is_unordered h ≡ false) × AreOrdered rs
  IsOrdered (open_type n own) = ⊤
  IsOrdered (presence_mark m) = ⊤

  pub AreOrdered : Records → Type 0
  AreOrdered none = ⊤
  AreOrdered (more r rs) = IsOrdered r × AreOrdered rs

module _ {V : Type 0} (m : Meaning V) where
  -- The same of the records of a value.
  abbrev pub HasOrderIn : V → Type 0
  HasOrderIn v = AreOrdered (held (own_records m v))

  module _ (F : Format (Vec ℕ Global)) where
    -- The same of each valid value of the type.
    abbrev pub HaveOrderInEach : Type 0
    HaveOrderInEach = (v : V) → m.IsOfType v → m.IsValid F.accepts v → HasOrderIn v
