use Rattle.std.proofs.Common.{◌≡◌, ◌<◌, ◌≤◌, ◌++◌, List, [], drop, length}
use Rattle.std.specs.Prelude.{MatchOption}
use Rattle.asn1_rules.specs.Fronts.{IsNoFront, IsSteady}
use Rattle.asn1_rules.specs.Iters.{state}
use Rattle.asn1_rules.specs.Pieces.{AreFronts, joined}
use Rattle.asn1_rules.specs.UnreadBytes.{Remains}
use Rattle.asn1_rules.proofs.PiecesRead.{ReadSoFar}
use Rattle.asn1_rules.proofs.pieces.read_pieces.Given as goal

abbrev pub invariant-loop-piece : goal.invariant-loop-piece
invariant-loop-piece g l =
    let F = g.R.FrontReader.fronts in
    record {
      same_reader : (state l.iter).reader ≡ l.fn.reader;
      at_most : length l.values.items ≤ l.n;
      remains : (vs : List _) → IsSteady F l.fn.reader → AreFronts F l.fn.reader vs (joined l.pieces) →
          Remains F l.fn.reader l.values.items vs ((state l.iter).unread ++ joined (drop l.piece-index l.pieces));
      read : ReadSoFar F l.fn.reader l.values.items ((state l.iter).unread ++ joined (drop l.piece-index l.pieces)) (joined l.pieces);
      ended : MatchOption l.last ((l.piece-index ≡ 0) × (l.values.items ≡ []))
          (λ e. (0 < l.piece-index) × (length l.values.items < l.n) × IsNoFront F l.fn.reader (state l.iter).unread e);
    }
