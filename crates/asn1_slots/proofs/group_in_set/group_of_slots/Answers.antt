use Rattle.std.proofs.Common.{◌∙◌, Some, ap, subst, sym}
use Rattle.asn1_slots.proofs.FilledGroups.{are_filled, equal_to_held}
use Rattle.asn1_slots.specs.GroupsInSets.{IsOfGroup, group_is_filled, holds_group}
use Rattle.asn1_slots.proofs.group_in_set.group_of_slots.Goals as goal

pub full-requires : goal.full-requires
full-requires g c =
    let hs = g.G.DecodeSetByIndex.layout in
    record { are_filled = are_filled hs c.in-Some.slots (sym (ap (group_is_filled hs) c.in-Some.is) ∙ c.requires.are_filled) }

pub returns-in_ok-full-in-Some-clause-made : goal.returns-in_ok-full-in-Some-clause-made
returns-in_ok-full-in-Some-clause-made g c = λ o held.
    let hs = g.G.DecodeSetByIndex.layout in
    equal_to_held g.G.PartialEq.eq hs c.in-Some.slots c.in_ok-full-in-Some.field-0 (λ w before. c.in_ok-full-in-Some.ensures.made w before) o
    (sym (ap (λ slot. holds_group hs slot o) c.in-Some.is) ∙ held)

pub returns-in_ok-full-in-Some-clause-only : goal.returns-in_ok-full-in-Some-clause-only
returns-in_ok-full-in-Some-clause-only g c =
    subst (λ slot. IsOfGroup g.G.DecodeSetByIndex.layout slot (Some c.in_ok-full-in-Some.field-0)) (sym c.in-Some.is) c.in_ok-full-in-Some.ensures.only
