-- There is an equal element if and only if there is a first index of one.
use Rattle.asn1_types.proofs.Positions.{list_any_by_position}
use Rattle.asn1_types.proofs.set_of.SetOf.remove.Goals as goal

pub returns-in-Some-clause-found : goal.returns-in-Some-clause-found
returns-in-Some-clause-found g c =
    rw (← c.self.view_is, ← c.deref.ensures.value, list_any_by_position, ← c.in-Some.ensures)

pub returns-in-None-clause-found : goal.returns-in-None-clause-found
returns-in-None-clause-found g c =
    rw (← c.self.view_is, ← c.deref.ensures.value, list_any_by_position, ← c.in-None.ensures)
