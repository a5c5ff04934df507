-- The records with DER, and those without.
use Rattle.std.specs.Prelude.{◌⊎◌, ◌<◌, ◌^◌, ⊤}
use Rattle.std.specs.Int.Digits.{AllBelowBase}
use Rattle.asn1_der_items.specs.Bytes.{HasDer, HasNoDer}
use Rattle.asn1_der_items.specs.Contents.{IsContentInRange}
use Rattle.asn1_der_items.specs.Series.{HasOctets}
use Rattle.asn1_model.specs.Orders.{SameRecord}
use Rattle.asn1_model.specs.Records.{Record, Records, scalar, scope, open_type, presence_mark, none, more}
use Rattle.asn1_model.specs.Tags.{head_tag}

-- All numbers in a record, and in those that it holds, are within the ranges of the types that hold them: the number of a tag is one of
-- 32 bits, and the bytes of an open type are octets.
abbrev mutual
  pub IsInRange : Record → Type 0
  IsInRange (scalar t c n x) = (t.value < 2 ^ 32) × IsContentInRange x
  IsInRange (scope h rs) = ((head_tag h).value < 2 ^ 32) × EachIsInRange rs
  IsInRange (open_type n own) = AllBelowBase 256 own
  IsInRange (presence_mark m) = ⊤

  pub EachIsInRange : Records → Type 0
  EachIsInRange none = ⊤
  EachIsInRange (more r rs) = IsInRange r × EachIsInRange rs

-- The record has DER, or it has none, in some order inside sets.
pub record HasDerOrNone (r : Record) : Type 0 where
  pub ordered : Record
  pub same : SameRecord r ordered
  pub either : HasOctets (HasDer ordered) ⊎ HasNoDer ordered
