use Rattle.asn1_components.proofs.TableLengths.{rows_of_table}
use Rattle.asn1_components.proofs.TableOrder.{numbered, sequence_numbered, root_is_canonical, table_indices_differ, table_length, table_rearranges}
use Rattle.asn1_components.proofs.table_order.tables_are_in_order.Goals as goal

pub returns-clause-numbered : goal.returns-clause-numbered
returns-clause-numbered g c = numbered g.T.FieldTable.components

pub returns-clause-rearranged : goal.returns-clause-rearranged
returns-clause-rearranged g c = table_rearranges g.T.FieldTable.components

pub returns-clause-counted : goal.returns-clause-counted
returns-clause-counted g c = table_length g.T.FieldTable.components

pub returns-clause-indices_differ : goal.returns-clause-indices_differ
returns-clause-indices_differ g c = table_indices_differ g.T.FieldTable.components

pub returns-clause-definition_order : goal.returns-clause-definition_order
returns-clause-definition_order g c = sequence_numbered g.T.FieldTable.components

pub returns-clause-canonical : goal.returns-clause-canonical
returns-clause-canonical g c = root_is_canonical g.T.FieldTable.components

pub returns-clause-as_in_records : goal.returns-clause-as_in_records
returns-clause-as_in_records g c = rows_of_table g.T.FieldTable.components
