use Rattle.std.proofs.Common.{refl}
use Rattle.asn1_ldap_stream.proofs.Streams.{more_if_ok, piece_came, stops_if_err}
use Rattle.asn1_rules.specs.Iters.{state}
use Rattle.asn1_ldap_stream.proofs.input.show_piece.Goals as goal

pub returns-clause-shown : goal.returns-clause-shown
returns-clause-shown g c =
    let F = g.F.FrontReader.fronts in
    let rules = g.M.Rules.format in
    let depth = c.args.messages.now.depth in
    let old = state c.args.elements.now in
    let mid = state c.append_bytes.new.self in
    more_if_ok F old.reader rules depth c.show_whole.result c.args.piece.now old mid _ _ _ _ _ _ _
    (piece_came F old.reader rules depth old mid c.args.piece.now _ _ refl c.in_ok-append_bytes.ensures.appended) c.show_whole.ensures.shown

pub returns-clause-stopped : goal.returns-clause-stopped
returns-clause-stopped g c =
    let F = g.F.FrontReader.fronts in
    let rules = g.M.Rules.format in
    let depth = c.args.messages.now.depth in
    let old = state c.args.elements.now in
    let mid = state c.append_bytes.new.self in
    stops_if_err F old.reader rules depth c.show_whole.result c.args.piece.now old mid _ _ _ _ _
    (piece_came F old.reader rules depth old mid c.args.piece.now _ _ refl c.in_ok-append_bytes.ensures.appended) c.show_whole.ensures.stopped
