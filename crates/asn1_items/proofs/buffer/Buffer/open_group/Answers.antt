use Rattle.std.proofs.Common.{◌≡◌, ◌++◌, [], length, refl, sym, ap, subst, ◌∙◌, arith}
use Rattle.asn1_laws.specs.Writing.{in_group}
use Rattle.asn1_items.specs.Buffers.{IsWrittenAsItems, inward}
use Rattle.asn1_items.specs.declared.group.Group.{Group}
use Rattle.asn1_items.proofs.Writing.{group_opened, innermost}
use Rattle.asn1_items.proofs.buffer.Buffer.open_group.Goals as goal

pub returns-clause-opened : goal.returns-clause-opened
returns-clause-opened c = λ marks table w is wrote.
    let old = c.args.self.now in
    let group : Group = record { start = c.len.result; outer_has_records = old.has_records } in
    let far = inward [] old.far_starts.items in
    let start : c.len.result ≡ length old.bytes.items = omega (arith, c.len.ensures, old.bytes.ok.0) in
    let marked = c.in_ok-push_mark.ensures ∙ ap (λ b. old.bytes.items ++ b) (sym is) in
    let opened = group_opened marks table w old.scope_start far (inward [] old.groups.items) group old.bytes.items c.push_mark.new.bytes.items start wrote.1 marked wrote.0 in (
      subst (λ groups. IsWrittenAsItems marks (in_group table [] w) old.scope_start far groups c.push_mark.new.bytes.items) (sym (innermost c.push.new.self.items old.groups.items group c.in_default.ensures.items)) opened,
      refl,
    )
