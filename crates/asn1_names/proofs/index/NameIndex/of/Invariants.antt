use Rattle.std.proofs.Common.{take}
use Rattle.asn1_names.specs.Index.{IsIndexOf}
use Rattle.asn1_names.proofs.index.NameIndex.of.Given as goal

abbrev pub invariant-loop-place : goal.invariant-loop-place
invariant-loop-place l = IsIndexOf (take l.place l.defined) l.index
