use Rattle.std.proofs.Common.{[], refl, subst, sym}
use Rattle.std.proofs.lemmas.Result.{err_from_is_err_and}
use Rattle.asn1_rules.specs.Outputs.{AreOutputs, no_output}
use Rattle.asn1_rules.proofs.Outputs.{no_memory, not_written, output_more}
use Rattle.asn1_rules.proofs.lists.write_list.Goals as goal

pub loop-value-init : goal.loop-value-init
loop-value-init g c = subst (AreOutputs g.R.Rules.format g.T.AsnType.meaning c.args.depth []) (sym c.new-bytes.ensures.items) no_output

pub returns-in_err-output-clause-not_written : goal.returns-in_err-output-clause-not_written
returns-in_err-output-clause-not_written g c =
    let p = err_from_is_err_and c.from_residual.result c.from_residual.ensures.1 in
    rw (p.1, p.2) (not_written g.R.Rules.format g.T.AsnType.meaning _ _ _ _ _ c.loop-value-test.true c.value-item.is c.in_err-output.ensures)

pub returns-in_err-append-clause-not_written : goal.returns-in_err-append-clause-not_written
returns-in_err-append-clause-not_written g c =
    let p = err_from_is_err_and c.from_residual-in_err-append.result c.from_residual-in_err-append.ensures.1 in
    rw (p.1, p.2)
    (not_written g.R.Rules.format g.T.AsnType.meaning _ _ _ _ _ c.loop-value-test.true c.value-item.is
    (no_memory g.R.Rules.format _ _ _ refl))

pub loop-value-preserved : goal.loop-value-preserved
loop-value-preserved g c =
    rw c.in_ok-append.ensures.items
    (output_more g.R.Rules.format g.T.AsnType.meaning _ _ _ _ _ c.loop-value-test.true c.value-item.is c.loop-value.invariant c.in_ok-output.ensures)
