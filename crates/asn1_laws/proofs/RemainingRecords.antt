-- The records that remain to be read, up to the order inside sets.
use Rattle.std.specs.Prelude.{◌≡◌, List, [], ◌∷◌, refl}
use Rattle.std.proofs.Common.{ap}
use Rattle.asn1_model.specs.Orders.{SameRecord, SameRecords}
use Rattle.asn1_model.specs.Records.{Head, Record}
use Rattle.asn1_model.proofs.SameUpToOrder.{SameRecords-refl, SameAll-trans, same_as_cons, same_as_none}
use Rattle.asn1_laws.specs.Reading.{Remaining, Outside, SameRemaining, SameOutside, nothing, scope_and}

SameOutside-refl : (outer : Outside) → SameOutside outer outer
SameOutside-refl [] = nothing
SameOutside-refl ((h, rs) ∷ outer) = scope_and h (SameRecords-refl rs) (SameOutside-refl outer)

SameOutside-trans : {a b c : Outside} → SameOutside a b → SameOutside b c → SameOutside a c
SameOutside-trans nothing q = q
SameOutside-trans (scope_and h all outer) (scope_and _ all' outer') =
    scope_and h (SameAll-trans all all') (SameOutside-trans outer outer')

pub SameRemaining-refl : (left : Remaining) → SameRemaining left left
SameRemaining-refl left = record { here = SameRecords-refl left.0; outside = SameOutside-refl left.1 }

pub SameRemaining-trans : {a b c : Remaining} → SameRemaining a b → SameRemaining b c → SameRemaining a c
SameRemaining-trans one other = record {
  here = SameAll-trans one.here other.here;
  outside = SameOutside-trans one.outside other.outside;
}

-- The counterparts of a record, of the rest of its list, and of the lists outside it.
pub record RecordIsNext (a : Remaining) (r : Record) (rs : List Record) (outer : Outside) : Type 0 where
  pub first : Record
  pub rest : List Record
  pub others : Outside
  pub is : a ≡ (first ∷ rest, others)
  pub same : SameRecord first r
  pub same_rest : SameRecords rest rs
  pub same_outer : SameOutside others outer

pub same_as_record : {a : Remaining} {r : Record} {rs : List Record} {outer : Outside} → SameRemaining a (r ∷ rs, outer) → RecordIsNext a r rs outer
same_as_record {a = (qs, others)} {r = r} {rs = rs} same =
    let b = same_as_cons qs r rs same.here in
    record {
      first = b.first;
      rest = b.others;
      others = others;
      is = ap (λ l. (l, others)) b.is;
      same = b.same_first;
      same_rest = b.same_others;
      same_outer = same.outside;
    }

-- The counterparts of the end of a list, and of the lists outside it.
pub record EndIsNext (a : Remaining) (outer : Outside) : Type 0 where
  pub others : Outside
  pub is : a ≡ ([], others)
  pub same : SameOutside others outer

pub same_as_end : {a : Remaining} {outer : Outside} → SameRemaining a ([], outer) → EndIsNext a outer
same_as_end {a = (qs, others)} same =
    record { others = others; is = ap (λ l. (l, others)) (same_as_none qs same.here); same = same.outside }

-- The counterparts of a list inside a scope, of the rest after it, and of the lists outside both.
pub record ScopeIsNext (a : Remaining) (items : List Record) (h : Head) (rest : List Record) (outer : Outside) : Type 0 where
  pub inner : List Record
  pub around : List Record
  pub others : Outside
  pub is : a ≡ (inner, (h, around) ∷ others)
  pub same : SameRecords inner items
  pub same_around : SameRecords around rest
  pub same_outer : SameOutside others outer

pub same_as_scope : {a : Remaining} {items : List Record} {h : Head} {rest : List Record} {outer : Outside} → SameRemaining a (items, (h, rest) ∷ outer) → ScopeIsNext a items h rest outer
same_as_scope {a = (qs, outside)} {items = items} {h = h} {rest = rest} {outer = outer} same = in_scope qs outside same.here same.outside
  where
    in_scope : (inner : List Record) (outside : Outside) → SameRecords inner items → SameOutside outside ((h, rest) ∷ outer) → ScopeIsNext (inner, outside) items h rest outer
    in_scope inner _ same_inner (scope_and _ {rs = around} {outer = others} same_around same_outer) = record {
      inner = inner;
      around = around;
      others = others;
      is = refl;
      same = same_inner;
      same_around = same_around;
      same_outer = same_outer;
    }
