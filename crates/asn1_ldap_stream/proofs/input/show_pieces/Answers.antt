use Rattle.std.proofs.Common.{ap}
use Rattle.std.proofs.lemmas.Result.{err_from_is_err_and}
use Rattle.asn1_ldap_stream.proofs.Streams.{ends_in_piece, read_more, read_none, read_nothing, read_same}
use Rattle.asn1_rules.specs.Iters.{state}
use Rattle.asn1_ldap_stream.proofs.input.show_pieces.Goals.{in-Ok+in_ok-show_piece-in-Ok, in-Err+else-ne}
use Rattle.asn1_ldap_stream.proofs.input.show_pieces.Goals as goal

pub loop-init : goal.loop-init
loop-init g c = read_nothing g.F.FrontReader.fronts _ g.M.Rules.format _ _ _ _ c.requires.begun

pub returns-in_err-show_piece-in-Ok-clause-ended : goal.returns-in_err-show_piece-in-Ok-clause-ended
returns-in_err-show_piece-in-Ok-clause-ended g c =
    let r = c.from_residual-in_err-show_piece-in-Ok in
    let p = err_from_is_err_and r.result r.ensures.1 in
    rw (p.1, p.2) (ends_in_piece g.F.FrontReader.fronts _ g.M.Rules.format c.args.messages.now.depth c.in_err-show_piece-in-Ok.field-0.0 _ _ _
    (state c.loop.elements) _ _ _ _ c.loop.all_understood c.loop.invariant c.in-Ok.ensures.bytes.0 c.in_err-show_piece-in-Ok.ensures.stopped)

pub loop-preserved : goal.loop-preserved
loop-preserved g c =
    let F = g.F.FrontReader.fronts in
    let rules = g.M.Rules.format in
    let depth = c.args.messages.now.depth in
    elim c.match-read.branch [
      | in-Ok+in_ok-show_piece-in-Ok w ↦
          read_same F _ rules depth _ _ _ _ _ _ _ _ _ (ap (λ m. state m) w.elements-is) (ap g.W.Write.contents w.writer-is) w.all_understood-is
          (read_more F _ rules depth _ _ _ (state c.loop.elements) _ _ _ _ _ _ _ c.loop.invariant w.in-Ok.ensures.bytes.0
          w.in_ok-show_piece-in-Ok.ensures.shown w.in_ok-show_piece-in-Ok.ensures.no_more)
      | in-Err+else-ne w ↦
          read_same F _ rules depth _ _ _ _ _ _ _ _ _ (ap (λ m. state m) w.elements-is) (ap g.W.Write.contents w.writer-is) w.all_understood-is
          (read_none F _ rules depth _ _ _ _ _ _ _ c.loop.invariant w.in-Err.ensures.bytes)
    ]
