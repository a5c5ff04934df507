use Rattle.std.proofs.Common.{take}
use Rattle.std.specs.List.{AllZip}
use Rattle.asn1_certificate_reader.specs.Objects.{IsObjectOf}
use Rattle.asn1_certificate_reader.proofs.objects.objects_of.Given as goal

abbrev pub invariant-loop-object : goal.invariant-loop-object
invariant-loop-object l = AllZip IsObjectOf (take l.object-index l.objects) l.shown.items
