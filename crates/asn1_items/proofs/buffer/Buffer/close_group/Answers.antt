use Rattle.std.proofs.Common.{[], subst}
use Rattle.asn1_laws.specs.Writing.{in_group}
use Rattle.asn1_items.specs.Buffers.{IsWrittenAsItems, inward}
use Rattle.asn1_items.proofs.Writing.{absent_group_closed, group_closed, group_is_innermost, innermost, not_in_group, not_so}
use Rattle.asn1_items.proofs.buffer.Buffer.close_group.Goals as goal

pub returns-then-self-clause-closed : goal.returns-then-self-clause-closed
returns-then-self-clause-closed c = λ marks table rs w ends absent wrote.
    let old = c.args.self.now in
    let far = inward [] old.far_starts.items in
    let outer = innermost old.groups.items c.pop.new.self.items c.in-Some.group c.in-Some.ensures.items in
    let was = subst (λ groups. IsWrittenAsItems marks (in_group table rs w) old.scope_start far groups old.bytes.items) outer wrote.0 in
    group_closed marks table rs w old.scope_start far (inward [] c.pop.new.self.items) c.in-Some.group old.bytes.items c.push_mark.new.bytes.items c.args.end_mark.now old.has_records c.if-self.true c.in_ok-push_mark.ensures ends was wrote.1

pub returns-clause-closed : goal.returns-clause-closed
returns-clause-closed c = λ marks table rs w ends absent wrote.
    let old = c.args.self.now in
    let far = inward [] old.far_starts.items in
    let outer = innermost old.groups.items c.pop.new.self.items c.in-Some.group c.in-Some.ensures.items in
    let was = subst (λ groups. IsWrittenAsItems marks (in_group table rs w) old.scope_start far groups old.bytes.items) outer wrote.0 in
    absent_group_closed marks table rs w old.scope_start far (inward [] c.pop.new.self.items) c.in-Some.group old.bytes.items c.truncate.new.self.items c.push_mark-2.new.bytes.items c.args.absent_mark.now old.has_records c.if-self.false
    c.truncate.ensures.items c.in_ok-push_mark-2.ensures absent was wrote.1

pub returns-then-not-is_group_innermost-clause-closed :
    goal.returns-then-not-is_group_innermost-clause-closed
returns-then-not-is_group_innermost-clause-closed c = λ marks table rs w ends absent wrote.
    let old = c.args.self.now in
    absurd (not_so _ c.if-not-is_group_innermost.true c.is_group_innermost.ensures.1 (group_is_innermost marks table rs w old.scope_start (inward [] old.far_starts.items) (inward [] old.groups.items) old.bytes.items wrote.0))

pub returns-in_err-push_mark-clause-in_no_group : goal.returns-in_err-push_mark-clause-in_no_group
returns-in_err-push_mark-clause-in_no_group c = λ marks w wrote outside.
    let old = c.args.self.now in
    absurd (not_in_group marks w old.scope_start (inward [] old.far_starts.items) (inward [] old.groups.items) old.bytes.items wrote.0 outside (c.is_group_innermost.ensures.0 c.if-not-is_group_innermost.false))

pub returns-then-self-clause-in_no_group : goal.returns-then-self-clause-in_no_group
returns-then-self-clause-in_no_group c = λ marks w wrote outside.
    let old = c.args.self.now in
    absurd (not_in_group marks w old.scope_start (inward [] old.far_starts.items) (inward [] old.groups.items) old.bytes.items wrote.0 outside (c.is_group_innermost.ensures.0 c.if-not-is_group_innermost.false))

pub returns-in_err-push_mark-2-clause-in_no_group : goal.returns-in_err-push_mark-2-clause-in_no_group
returns-in_err-push_mark-2-clause-in_no_group c = λ marks w wrote outside.
    let old = c.args.self.now in
    absurd (not_in_group marks w old.scope_start (inward [] old.far_starts.items) (inward [] old.groups.items) old.bytes.items wrote.0 outside (c.is_group_innermost.ensures.0 c.if-not-is_group_innermost.false))

pub returns-clause-in_no_group : goal.returns-clause-in_no_group
returns-clause-in_no_group c = λ marks w wrote outside.
    let old = c.args.self.now in
    absurd (not_in_group marks w old.scope_start (inward [] old.far_starts.items) (inward [] old.groups.items) old.bytes.items wrote.0 outside (c.is_group_innermost.ensures.0 c.if-not-is_group_innermost.false))
