use Rattle.std.proofs.Common.{refl, arith}
use Rattle.asn1_model.specs.Records.{present, absent}
use Rattle.asn1_model.specs.Tags.{tree_tags}
use Rattle.asn1_tags.specs.Trees.{shape}
use Rattle.asn1_bench.proofs.marks.PresenceMarksPresence.component.Goals as goal

pub returns-clause-found : goal.returns-clause-found
returns-clause-found c = λ side t. c.tell.ensures.found (present side t) (absent side t) (tree_tags (shape c.args._tree)) refl refl (λ e. absurd (omega (arith, e)))
