use Rattle.std.proofs.Common.{take}
use Rattle.asn1_rules.specs.Outputs.{AreOutputs}
use Rattle.asn1_rules.proofs.lists.write_list.Given as goal

abbrev pub invariant-loop-value : goal.invariant-loop-value
invariant-loop-value g l = AreOutputs g.R.Rules.format g.T.AsnType.meaning l.depth (take l.value-index l.values) l.bytes.items
