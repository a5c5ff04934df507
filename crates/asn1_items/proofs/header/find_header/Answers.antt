use Rattle.std.proofs.Common.{Some, sym, ap, ◌∙◌}
use Rattle.asn1_items.proofs.HeaderBytes.{with_kind}
use Rattle.asn1_items.proofs.Octets.{rest_is}
use Rattle.asn1_items.specs.declared.kinds.ItemKind.TheVariants as item
use Rattle.asn1_items.proofs.header.find_header.Goals as goal

pub returns-in-Some-Scope-clause-are : goal.returns-in-Some-Scope-clause-are
returns-in-Some-Scope-clause-are c = with_kind (item.Scope c.in-Some-Scope.kind) c.args.bytes.now _ c.scope_header.result c.in-len1-up.len_at_least (rest_is 1 c.args.bytes.now c.in-len1-up.len_at_least)
    (sym c.from_byte.ensures ∙ c.in-Some-Scope.is ∙ ap Some c.in-Some-Scope.field-0-is) c.scope_header.ensures.are
