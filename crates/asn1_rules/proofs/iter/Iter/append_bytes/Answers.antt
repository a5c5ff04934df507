use Rattle.std.proofs.Common.{◌≤◌, sym, subst}
use Rattle.asn1_rules.specs.Sources.{kept_in, unread_in}
use Rattle.asn1_rules.specs.States.{counted}
use Rattle.asn1_rules.proofs.Appending.{came_after, count_after}
use Rattle.asn1_rules.proofs.iter.Iter.append_bytes.Goals as goal

pub invariant_of-self : goal.invariant_of-self
invariant_of-self g c =
    let old = c.args.self.now in
    let e = c.append.ensures in
    record {
      moved = subst (λ n. counted old.shifted n ≤ old.consumed) (sym (count_after c.append.result (kept_in old.source) (kept_in c.append.new.self) e.kept e.kept_unchanged)) old.moved;
      came = came_after c.append.result (λ bytes. g.R.FrontReader.came old.reader old.progress bytes) (unread_in old.source) (unread_in c.append.new.self) c.args.piece.now e.appended e.unchanged
          (λ bytes behind is. g.met.R.FrontReader.goes_on old.reader old.progress bytes behind is) old.came;
    }
