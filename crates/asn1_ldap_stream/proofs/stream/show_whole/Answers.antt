use Rattle.std.proofs.Common.{subst, sym}
use Rattle.std.specs.Prelude.{[]}
use Rattle.std.specs.Io.KnownBytes.{Appends}
use Rattle.std.proofs.lemmas.Option.{MatchOption-at_some}
use Rattle.std.proofs.lemmas.Result.{err_from_is_err_and}
use Rattle.asn1_ldap_stream.specs.Showing.{Continues}
use Rattle.asn1_ldap_stream.proofs.Streams.{element_shown, goes, stays, stops_here}
use Rattle.asn1_rules.specs.Iters.{state}
use Rattle.asn1_ldap_stream.proofs.stream.show_whole.Goals.{then-all_understood, else-all_understood}
use Rattle.asn1_ldap_stream.proofs.stream.show_whole.Goals as goal

pub returns-in_err-shown-clause-stopped : goal.returns-in_err-shown-clause-stopped
returns-in_err-shown-clause-stopped g c =
    let p = err_from_is_err_and c.from_residual.result c.from_residual.ensures.1 in
    rw (p.1, p.2) (stops_here g.F.FrontReader.fronts _ g.M.Rules.format c.args.messages.now.depth c.in_err-shown.field-0.0 _
    (state c.loop.elements) _ _ _ c.loop.all_understood c.loop.invariant c.in_err-shown.ensures.stopped)

pub loop-preserved : goal.loop-preserved
loop-preserved g c =
    let F = g.F.FrontReader.fronts in
    let rules = g.M.Rules.format in
    let depth = c.args.messages.now.depth in
    let old = state c.args.elements.now in
    let mid = state c.loop.elements in
    let new = state c.next_text.new.elements in
    let shown = c.in-Some.shown in
    let text = g.W.Write.contents in
    let came = MatchOption-at_some _ _ shown c.in-Some.is c.in_ok-shown.ensures.came in
    let wrote = subst (Appends (text c.loop.writer) (text c.write_bytes.new.writer)) c.as_bytes.ensures.value c.in_ok-write_bytes-in-Some.ensures.written in
    let goes_on = element_shown F old.reader rules depth g.met.F.FrontReader.lawful old mid new _ shown.understood _ _ _ _ c.loop.all_understood
    c.loop.invariant came wrote in
    elim c.if-all_understood.branch [
      | then-all_understood w ↦ subst (Continues F old.reader rules depth [] old new (text c.args.writer.now) (text c.write_bytes.new.writer) c.args.all_understood.now)
          (sym (stays c.loop.all_understood shown.understood _ w.if-all_understood.true w.all_understood-is)) goes_on
      | else-all_understood w ↦ subst (Continues F old.reader rules depth [] old new (text c.args.writer.now) (text c.write_bytes.new.writer) c.args.all_understood.now)
          (sym (goes c.loop.all_understood shown.understood _ w.if-all_understood.false w.all_understood-is)) goes_on
    ]
