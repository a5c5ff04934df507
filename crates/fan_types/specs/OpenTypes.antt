-- Open types that hold one element each.
use Rattle.std.specs.Prelude.{⊤, IsTrue, List}
use Rattle.asn1_der_items.specs.Series.{is_one_element}
use Rattle.asn1_model.specs.Records.{Record, Records, scalar, scope, open_type, presence_mark, held, none, more}

-- Each open type in a record, at any depth, holds one element of DER and nothing behind it, as the encoding of one value of another
-- type is (X.681, 14, and X.690, 8.15).
abbrev mutual
  pub HasWholeOpenTypes : Record → Type 0
  HasWholeOpenTypes (scalar t c n x) = ⊤
  HasWholeOpenTypes (scope h rs) = HaveWholeOpenTypes rs
  HasWholeOpenTypes (open_type n octets) = IsTrue (is_one_element octets)
  HasWholeOpenTypes (presence_mark m) = ⊤

  pub HaveWholeOpenTypes : Records → Type 0
  HaveWholeOpenTypes none = ⊤
  HaveWholeOpenTypes (more r rs) = HasWholeOpenTypes r × HaveWholeOpenTypes rs

-- the same of the records of a list
abbrev pub OpenTypesAreElements : List Record → Type 0
OpenTypesAreElements rs = HaveWholeOpenTypes (held rs)
