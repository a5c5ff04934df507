-- The fields of an iterator, as callers see them.
use Rattle.asn1_rules.specs.Sources.{kept_in, unread_in}
use Rattle.asn1_rules.specs.States.{State}
use Rattle.asn1_rules.specs.declared.iter.Iter.{Iter}

abbrev pub state : {D R : Type 0} {p : _} {g : _} → Iter D R p g → State R
state it = record {
  reader = it.reader;
  unread = unread_in it.source;
  kept = kept_in it.source;
  consumed = it.consumed;
  shifted = it.shifted;
}
