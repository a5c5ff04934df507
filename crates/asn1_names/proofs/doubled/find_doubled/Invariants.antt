use Rattle.std.proofs.Common.{◌≡◌, ◌++◌, [], take, drop}
use Rattle.asn1_names.specs.Distinct as spec
use Rattle.asn1_names.specs.Index.{IsIndexOf}
use Rattle.asn1_names.proofs.doubled.find_doubled.Given as goal

abbrev pub invariant-loop-index : goal.invariant-loop-index
invariant-loop-index l = record {
  so_far : l.found.items ++ spec.doubled (take l.index l.defined) (drop l.index l.defined) ≡ spec.doubled [] l.defined;
  names : IsIndexOf (take l.index l.defined) l.names;
}
