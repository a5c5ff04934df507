use Rattle.std.proofs.Common.{◌≡◌, ◌≢◌, true}
use Rattle.std.proofs.lemmas.Bool.Decides.{Decides-eqb}
use Rattle.std.proofs.lemmas.List.Elements.{All-more}
use Rattle.std.proofs.lemmas.Slice.Eq.{slice_eq-Decides}
use Rattle.asn1_certificate_text.proofs.Rows.{Contains-row, found_nowhere, same_triple}
use Rattle.asn1_certificate_text.proofs.registry.curve_in.Goals as goal

pub returns-then-eq-clause-listed : goal.returns-then-eq-clause-listed
returns-then-eq-clause-listed c =
    let same = (slice_eq-Decides Decides-eqb _ _ _ c.eq.ensures).0 c.if-eq.true in
    Contains-row (λ row. (row.0.now, row.1.now, row.2)) c.args.table.now c.loop-known.known-index _ _ c.loop-known-test.true (same_triple _ _ _ _ same)

pub loop-known-preserved : goal.loop-known-preserved
loop-known-preserved c =
    All-more (λ row. row.0.now ≢ c.args.arcs.now) c.args.table.now c.loop-known.known-index _ c.loop-known-test.true c.loop-known.invariant
    (λ same. let found : c.eq.result ≡ true = (slice_eq-Decides Decides-eqb _ _ _ c.eq.ensures).1 same in cc)

pub returns-clause-missing : goal.returns-clause-missing
returns-clause-missing c =
    found_nowhere (λ row. row.0.now) c.args.table.now c.loop-known.known-index c.args.arcs.now c.loop-known-test.false c.loop-known.invariant
