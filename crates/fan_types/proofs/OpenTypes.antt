-- Open types in records of which octets are the DER.
use Rattle.std.proofs.Common.{ℕ, List}
use Rattle.std.proofs.lemmas.List.Elements.{All-nil, All-cons, All-head, All-tail}
use Rattle.std.proofs.lemmas.List.Sorted.{All-permutation}
use Rattle.std.specs.Prelude.{All}
use Rattle.asn1_der.specs.Format.{Carries}
use Rattle.asn1_der_items.specs.Bytes.{HasDer, HaveDer, HoldsInOrder, content_order_of}
use Rattle.asn1_der_items.specs.declared.content_order.ContentOrder.{ContentOrder}
use Rattle.asn1_der_items.specs.declared.content_order.ContentOrder.TheVariants.{AsDefined, ByTag, ByEncoding, Chosen}
use Rattle.asn1_model.specs.Orders.{SameRecord, SameAll, equal, one_by_one, in_any_order, at_end, next}
use Rattle.asn1_model.specs.Records.{Record, Records, scalar, scope, open_type, presence_mark, none, more, held, listed}
use Rattle.asn1_model.specs.Tags.{head_tag}
use Rattle.asn1_tags.specs.declared.tags.Tag.{Tag}
use Rattle.fan_types.specs.OpenTypes.{HasWholeOpenTypes, HaveWholeOpenTypes, OpenTypesAreElements}

-- what is inside the octets of a record that holds others
record Inside (IsInside : List ℕ → Type 0) : Type 0 where
  octets : List ℕ
  are : IsInside octets

inside : (order : ContentOrder) (t : Tag) (IsInside : List ℕ → Type 0) (octets : List ℕ) → HoldsInOrder order t IsInside octets → Inside IsInside
inside AsDefined t IsInside octets holds = record { octets = holds.contents; are = holds.are }
inside ByTag t IsInside octets holds = record { octets = holds.contents; are = holds.are.0 }
inside ByEncoding t IsInside octets holds = record { octets = holds.contents; are = holds.are.0 }
inside Chosen t IsInside octets holds = record { octets = octets; are = holds.0 }

-- an open type that has DER is one element
mutual
  of_der : (r : Record) (octets : List ℕ) → HasDer r octets → HasWholeOpenTypes r
  of_der (scalar t c n x) octets der = tt
  of_der (scope h rs) octets der =
      let within = inside (content_order_of h) (head_tag h) (HaveDer rs) octets der in
      of_all_der rs within.octets within.are
  of_der (open_type n own) octets der = der.1
  of_der (presence_mark m) octets der = tt

  of_all_der : (rs : Records) (octets : List ℕ) → HaveDer rs octets → HaveWholeOpenTypes rs
  of_all_der none octets der = tt
  of_all_der (more r rs) octets der = (of_der r der.first der.is_first, of_all_der rs der.others der.are_others)

-- the order of records means nothing for it
each : (rs : Records) → HaveWholeOpenTypes rs → All HasWholeOpenTypes (listed rs)
each none have = All-nil HasWholeOpenTypes
each (more r rs) have = All-cons HasWholeOpenTypes r (listed rs) have.0 (each rs have.1)

all : (rs : Records) → All HasWholeOpenTypes (listed rs) → HaveWholeOpenTypes rs
all none are = tt
all (more r rs) are = (All-head HasWholeOpenTypes r (listed rs) are, all rs (All-tail HasWholeOpenTypes r (listed rs) are))

mutual
  same : {r s : Record} → SameRecord r s → HasWholeOpenTypes r → HasWholeOpenTypes s
  same (equal r) has = has
  same (one_by_one h alike) have = all_same alike have
  same (in_any_order h {qs = qs} {ss = ss} unordered alike moved) have =
      all ss (All-permutation HasWholeOpenTypes (listed qs) (listed ss) moved (each qs (all_same alike have)))

  all_same : {rs ss : Records} → SameAll rs ss → HaveWholeOpenTypes rs → HaveWholeOpenTypes ss
  all_same at_end have = tt
  all_same (next first others) have = (same first have.0, all_same others have.1)

-- so the records that octets are the DER of have one element in each open type
pub are_elements : (octets : List ℕ) (rs : List Record) → Carries octets rs → OpenTypesAreElements rs
are_elements octets rs carried = all_same carried.same (of_all_der (held carried.exactly) octets carried.have_bytes)
