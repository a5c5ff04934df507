use Rattle.std.proofs.Common.{IfOk, subst, sym}
use Rattle.asn1_convert.proofs.SomeType.{if_some_type}
use Rattle.asn1_convert.specs.SomeType.{IsAnswerOfSomeType}
use Rattle.asn1_convert.specs.declared.task.Action.TheVariants.{Convert}
use Rattle.asn1_convert.proofs.task.Task.perform.Goals as goal

pub returns-in-Convert-clause-of_some_type : goal.returns-in-Convert-clause-of_some_type
returns-in-Convert-clause-of_some_type g c =
    let self = c.args.self in
    subst (λ a. IfOk c.convert.result (IsAnswerOfSomeType self.input.now.items self.before a)) (sym c.in-Convert.is)
    (if_some_type g.T.AsnType.meaning g.T.PartialEq.eq g.T.Decode.refusals self.depth c.convert.result (Convert c.in-Convert.from c.in-Convert.to)
    self.before self.input.now c.convert.ensures)
