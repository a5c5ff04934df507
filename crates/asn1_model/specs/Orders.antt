-- The same records, up to the order of what a SET or a SET OF holds.
use Rattle.std.specs.Prelude.{◌≡◌, Bool, true, false, List, IsPermutation}
use Rattle.asn1_model.specs.Records.{Record, Records, scope, none, more, held, listed, Head, sequence, set, sequence_of, set_of, explicit_tag, alternative}

-- the order of what is in it means nothing: the components of a SET, the elements of a SET OF (X.680, 27 and 28)
abbrev pub is_unordered : Head → Bool
is_unordered (sequence t table n) = false
is_unordered (set t table n) = true
is_unordered (sequence_of t c n) = false
is_unordered (set_of t c n) = true
is_unordered (explicit_tag t n) = false
is_unordered (alternative t c table n) = false

-- Two records are the same up to order if they are equal, or if they have one head and hold lists whose elements are the
-- same up to order one by one, where the order means nothing after some rearrangement of the second.
mutual
  pub data SameRecord : Record → Record → Type 0 where
    equal : (r : Record) → SameRecord r r
    one_by_one : (h : Head) {rs ss : Records} → SameAll rs ss → SameRecord (scope h rs) (scope h ss)
    in_any_order : (h : Head) {rs qs ss : Records} → is_unordered h ≡ true → SameAll rs qs → IsPermutation (listed qs) (listed ss) → SameRecord (scope h rs) (scope h ss)

  pub data SameAll : Records → Records → Type 0 where
    at_end : SameAll none none
    next : {r s : Record} {rs ss : Records} → SameRecord r s → SameAll rs ss → SameAll (more r rs) (more s ss)

-- Lists of records that are the same up to the order inside sets.
abbrev pub SameRecords : List Record → List Record → Type 0
SameRecords rs ss = SameAll (held rs) (held ss)
