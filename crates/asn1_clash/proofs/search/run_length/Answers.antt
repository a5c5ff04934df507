use Rattle.std.proofs.Common.{sym}
use Rattle.asn1_clash.proofs.Runs.{run_found, run_is_all}
use Rattle.asn1_clash.proofs.search.run_length.Goals as goal

pub returns-in-Some : goal.returns-in-Some
returns-in-Some c = run_found c.args.components.now c.in-Some.required (sym c.in-Some.ensures)

pub returns-in-None : goal.returns-in-None
returns-in-None c = run_is_all c.args.components.now (sym c.in-None.ensures)
