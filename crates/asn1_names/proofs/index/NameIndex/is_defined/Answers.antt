use Rattle.std.proofs.Common.{ap, ◌∙◌}
use Rattle.std.specs.Option.{is_some}
use Rattle.asn1_names.specs.Definitions.{has_name}
use Rattle.asn1_names.proofs.Found.{position_decides}
use Rattle.asn1_names.proofs.index.NameIndex.is_defined.Goals as goal

pub returns : goal.returns
returns c = λ defined whole.
    c.is_some.ensures ∙ (ap is_some (c.position.ensures defined whole)
    ∙ position_decides (has_name c.args.«module».now c.args.name.now) defined)
