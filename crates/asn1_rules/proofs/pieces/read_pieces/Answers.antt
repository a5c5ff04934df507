use Rattle.std.proofs.Common.{◌∙◌, ℕ, List, [], ap, length, subst, sym}
use Rattle.std.specs.Borrow.{Bor}
use Rattle.asn1_rules.specs.Iters.{state}
use Rattle.asn1_rules.specs.Pieces.{ComeBack, joined}
use Rattle.asn1_rules.proofs.PiecesRead.{all_read, at_most_of, come_back_at_end, none_if, piece_read, piece_was_read, still_failing}
use Rattle.asn1_rules.proofs.UnreadBytes.{all_came}
use Rattle.asn1_rules.proofs.pieces.read_pieces.Goals as goal

pub returns-then-is_none-clause-come_back : goal.returns-then-is_none-clause-come_back
returns-then-is_none-clause-come_back g c = λ vs steady fronts.
    let F = g.R.FrontReader.fronts in
    let inv = c.loop-piece.invariant in
    let ws = c.read_more.new.values.items in
    let none : Bor (List ℕ) = record { ref_ptr = (0, 0); now = [] } in
    subst (ComeBack F.same F.height (F.depth c.args.reader) ws vs) (sym (none_if c.in_ok-last.last c.is_none.result c.is_none.ensures c.if-is_none.true))
    (all_came F c.args.reader ws vs _
    (piece_read F c.args.reader (state c.loop-piece.iter) (state c.append_bytes.new.self) c.args.pieces.now c.loop-piece.piece-index none
    c.loop-piece.values.items ws vs (state c.read_more.new.iter).unread inv.same_reader c.in_ok-append_bytes.ensures.appended
    c.loop-piece-test.true steady c.in_ok-last.ensures.remains (inv.remains vs steady fronts)))

pub loop-piece-preserved : goal.loop-piece-preserved
loop-piece-preserved g c =
    let F = g.R.FrontReader.fronts in
    let inv = c.loop-piece.invariant in
    let ws = c.read_more.new.values.items in
    let none : Bor (List ℕ) = record { ref_ptr = (0, 0); now = [] } in
    record {
      same_reader = c.in_ok-last.ensures.same_reader ∙ ap (λ s. s.reader) c.in_ok-append_bytes.ensures.appended ∙ inv.same_reader;
      at_most = at_most_of c.in_ok-last.last (length ws) c.args.n _ c.in_ok-last.ensures.ended;
      remains = λ vs steady fronts.
          piece_read F c.args.reader (state c.loop-piece.iter) (state c.append_bytes.new.self) c.args.pieces.now c.loop-piece.piece-index none
          c.loop-piece.values.items ws vs (state c.read_more.new.iter).unread inv.same_reader c.in_ok-append_bytes.ensures.appended
          c.loop-piece-test.true steady c.in_ok-last.ensures.remains (inv.remains vs steady fronts);
      read =
          piece_was_read F c.args.reader (state c.loop-piece.iter) (state c.append_bytes.new.self) (state c.read_more.new.iter) c.args.pieces.now c.loop-piece.piece-index none
          c.loop-piece.values.items ws (joined c.args.pieces.now) inv.same_reader c.in_ok-append_bytes.ensures.appended c.loop-piece-test.true c.in_ok-last.ensures.only inv.read;
      ended = still_failing F c.args.reader c.in_ok-last.last c.is_none.result _ _ (state c.read_more.new.iter).reader (state c.read_more.new.iter).unread
          c.loop-piece.piece-index (length ws) c.args.n c.is_none.ensures c.if-is_none.false
          (c.in_ok-last.ensures.same_reader ∙ ap (λ s. s.reader) c.in_ok-append_bytes.ensures.appended ∙ inv.same_reader) c.in_ok-last.ensures.ended;
    }

pub returns-clause-come_back : goal.returns-clause-come_back
returns-clause-come_back g c = λ vs steady fronts.
    let inv = c.loop-piece.invariant in
    come_back_at_end g.R.FrontReader.fronts c.args.reader c.loop-piece.last _ c.args.pieces.now c.loop-piece.piece-index (length c.loop-piece.values.items) c.args.n
    c.loop-piece.values.items vs (state c.loop-piece.iter).unread steady c.loop-piece-test.false inv.ended (inv.remains vs steady fronts)

pub returns-then-is_none-clause-only : goal.returns-then-is_none-clause-only
returns-then-is_none-clause-only g c =
    let F = g.R.FrontReader.fronts in
    let inv = c.loop-piece.invariant in
    let none : Bor (List ℕ) = record { ref_ptr = (0, 0); now = [] } in
    all_read F c.args.reader c.read_more.new.values.items _ _
    (piece_was_read F c.args.reader (state c.loop-piece.iter) (state c.append_bytes.new.self) (state c.read_more.new.iter) c.args.pieces.now c.loop-piece.piece-index none
    c.loop-piece.values.items _ (joined c.args.pieces.now) inv.same_reader c.in_ok-append_bytes.ensures.appended c.loop-piece-test.true c.in_ok-last.ensures.only inv.read)

pub returns-clause-only : goal.returns-clause-only
returns-clause-only g c = all_read g.R.FrontReader.fronts c.args.reader c.loop-piece.values.items _ _ c.loop-piece.invariant.read
