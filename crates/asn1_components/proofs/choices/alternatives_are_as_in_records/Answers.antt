use Rattle.asn1_components.proofs.AlternativeRows.{added_rows, always_there, names_in_order, root_rows}
use Rattle.asn1_components.proofs.choices.alternatives_are_as_in_records.Goals as goal

pub returns-clause-root : goal.returns-clause-root
returns-clause-root g c = root_rows g.T.Choice.alternatives

pub returns-clause-additions : goal.returns-clause-additions
returns-clause-additions g c = added_rows g.T.Choice.alternatives

pub returns-clause-names : goal.returns-clause-names
returns-clause-names g c = names_in_order g.T.Choice.alternatives

pub returns-clause-always_there : goal.returns-clause-always_there
returns-clause-always_there g c = always_there g.T.Choice.alternatives
