use Rattle.std.proofs.Common.{◌∙◌, ap, sym}
use Rattle.asn1_slots.proofs.FilledGroups.{none_is_missing, one_is_missing}
use Rattle.asn1_slots.specs.GroupsInSets.{group_is_filled}
use Rattle.asn1_slots.specs.Slots.{name_unless}
use Rattle.asn1_slots.proofs.group_in_set.missing_in_group.Goals as goal

pub returns-in-Some-first_missing : goal.returns-in-Some-first_missing
returns-in-Some-first_missing g c =
    let hs = g.G.DecodeSetByIndex.layout in
    sym (ap (λ o. name_unless (group_is_filled hs o) c.args.name.now) c.in-Some.is
    ∙ ap (λ b. name_unless b c.args.name.now) (one_is_missing hs c.in-Some.slots _ (sym c.in-Some-first_missing.ensures.first)))

pub returns-in-None-first_missing : goal.returns-in-None-first_missing
returns-in-None-first_missing g c =
    let hs = g.G.DecodeSetByIndex.layout in
    sym (ap (λ o. name_unless (group_is_filled hs o) c.args.name.now) c.in-Some.is
    ∙ ap (λ b. name_unless b c.args.name.now) (none_is_missing hs c.in-Some.slots (sym c.in-None-first_missing.ensures.first)))
