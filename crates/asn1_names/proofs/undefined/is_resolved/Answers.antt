use Rattle.std.proofs.Common.{◌∙◌, arith}
use Rattle.std.proofs.lemmas.Grind.{common_steps}
use Rattle.asn1_names.specs.References.{brought_in}
use Rattle.asn1_names.proofs.Found.{brought}
use Rattle.asn1_names.proofs.undefined.is_resolved.Goals as goal

pub returns-else-is_defined : goal.returns-else-is_defined
returns-else-is_defined c = λ defined imported whole more.
    let own = c.is_defined-in-None.ensures defined whole in
    let other = c.is_defined-else-is_defined.ensures (brought_in defined imported) more ∙ brought defined c.args.used.now imported in
    grind (arith, common_steps, own, other)
