use Rattle.std.proofs.Common.{◌≡◌, List, take}
use Rattle.asn1_names.specs.Index.{IsIndexOf}
use Rattle.asn1_names.specs.References.{brought_in}
use Rattle.asn1_names.specs.declared.names.DefinedName.{DefinedName}
use Rattle.asn1_names.proofs.undefined.names_brought_in.Given as goal

abbrev pub invariant-loop-import : goal.invariant-loop-import
invariant-loop-import l = (defined : List DefinedName) → IsIndexOf defined l.index → l.names.items ≡ brought_in defined (take l.import-index l.imported)
