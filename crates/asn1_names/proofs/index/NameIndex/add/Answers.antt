use Rattle.std.proofs.Common.{not, ap, ◌∙◌}
use Rattle.asn1_names.proofs.Indexed.{added, unchanged}
use Rattle.asn1_names.proofs.index.NameIndex.add.Goals as goal

pub returns-in_ok-insert : goal.returns-in_ok-insert
returns-in_ok-insert c = λ defined counted whole.
    added defined c.args.definition.now c.args.self.now _ c.args.count c.position.result counted whole (c.position.ensures defined whole)
    (c.is_none.ensures ∙ ap not c.if-is_none.true) (λ m n.
    c.in_ok-insert.ensures.updates.0 (record { ref_ptr = (0, 0); now = m }, record { ref_ptr = (0, 0); now = n }))

pub returns-else-is_none : goal.returns-else-is_none
returns-else-is_none c = λ defined counted whole.
    unchanged defined c.args.definition.now c.args.self.now c.position.result whole (c.position.ensures defined whole) c.if-is_none.ensures
