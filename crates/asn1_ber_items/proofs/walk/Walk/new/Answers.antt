use Rattle.std.proofs.Common.{ap, subst, sym}
use Rattle.std.specs.Bool.{⊤}
use Rattle.asn1_ber_items.specs.Segments.{joined, segments_of, written_in}
use Rattle.asn1_ber_items.specs.Walks.{AreBegun, Comes, Remains}
use Rattle.asn1_ber_items.proofs.walk.Walk.new.Goals as goal

pub returns-clause-consistent : goal.returns-clause-consistent
returns-clause-consistent c = record {
  begun = subst (λ es. AreBegun es (λ _. ⊤) (segments_of c.new.result)) (sym c.new-2.ensures.items) tt;
  counted = c.new.ensures.counted;
}

pub returns-clause-ahead : goal.returns-clause-ahead
returns-clause-ahead c = λ outcome remains.
    subst (λ es. Comes es (Remains outcome) c.args.bytes.now (written_in c.new.result)) (sym c.new-2.ensures.items)
    (subst (Remains outcome c.args.bytes.now) (sym (ap joined c.new.ensures.none)) remains)

pub returns-clause-behind : goal.returns-clause-behind
returns-clause-behind c = λ outcome writes.
    subst (Remains outcome c.args.bytes.now) (ap joined c.new.ensures.none)
    (subst (λ es. Comes es (Remains outcome) c.args.bytes.now (written_in c.new.result)) c.new-2.ensures.items writes)
