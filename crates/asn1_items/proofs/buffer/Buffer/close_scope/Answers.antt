use Rattle.std.proofs.Common.{[], ◌∷◌, refl, sym, subst, arith}
use Rattle.asn1_laws.specs.Writing.{followed_by}
use Rattle.asn1_items.specs.Buffers.{IsWrittenAsItems, inward}
use Rattle.asn1_model.specs.Records.{holding}
use Rattle.asn1_items.proofs.Writing.{not_in_scope, not_so, scope_closed, scope_is_innermost, tells_of_record}
use Rattle.asn1_items.proofs.buffer.Buffer.close_scope.Goals as goal

pub returns-then-self-lt-SCOPE_HEADER-clause-closed :
    goal.returns-then-self-lt-SCOPE_HEADER-clause-closed
returns-then-self-lt-SCOPE_HEADER-clause-closed c = λ marks h rs w wrote.
    absurd (omega (arith, wrote.0.starts, c.if-self-lt-SCOPE_HEADER.true))

pub returns-then-is_group_innermost-clause-closed :
    goal.returns-then-is_group_innermost-clause-closed
returns-then-is_group_innermost-clause-closed c = λ marks h rs w wrote.
    let old = c.args.self.now in
    absurd (scope_is_innermost marks h rs w old.scope_start (inward [] old.far_starts.items) (inward [] old.groups.items) old.bytes.items wrote.0 (c.is_group_innermost.ensures.0 c.if-is_group_innermost.true))

pub returns-in_err-link-clause-in_no_scope : goal.returns-in_err-link-clause-in_no_scope
returns-in_err-link-clause-in_no_scope c = λ marks w wrote outside.
    let old = c.args.self.now in
    absurd (not_in_scope marks w old.scope_start (inward [] old.far_starts.items) (inward [] old.groups.items) old.bytes.items wrote.0 outside c.if-self-lt-SCOPE_HEADER.false (not_so _ c.if-is_group_innermost.false c.is_group_innermost.ensures.1))

pub returns-clause-in_no_scope : goal.returns-clause-in_no_scope
returns-clause-in_no_scope c = λ marks w wrote outside.
    let old = c.args.self.now in
    absurd (not_in_scope marks w old.scope_start (inward [] old.far_starts.items) (inward [] old.groups.items) old.bytes.items wrote.0 outside c.if-self-lt-SCOPE_HEADER.false (not_so _ c.if-is_group_innermost.false c.is_group_innermost.ensures.1))

pub returns-clause-closed : goal.returns-clause-closed
returns-clause-closed c = λ marks h rs w wrote.
    let old = c.args.self.now in
    let back = c.take_outer_start-self.ensures in
    let start = c.take_outer_start-self.result in
    let far = inward [] c.take_outer_start-self.new.self.far_starts.items in
    let groups = inward [] old.groups.items in
    let patched = c.write_length.new.bytes.items in
    let rest = followed_by w (holding h rs ∷ []) in
    let closed = scope_closed marks h rs w old.scope_start c.in_ok-link.link (inward [] old.far_starts.items) groups old.bytes.items patched start far c.in_ok-link.ensures.written back.leads wrote.0 in (
      subst (λ g. IsWrittenAsItems marks rest start far (inward [] g.items) c.take_outer_start-self.new.self.bytes.items) (sym back.same_groups) (subst (λ b. IsWrittenAsItems marks rest start far groups b.items) (sym back.same_bytes) closed),
      tells_of_record w (holding h rs) refl,
    )
