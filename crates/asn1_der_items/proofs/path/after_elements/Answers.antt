use Rattle.std.proofs.Common.{arith, sym, ◌∙◌}
use Rattle.asn1_der_items.specs.Elements.{element_of}
use Rattle.asn1_der_items.proofs.Reached.{behind_none, none_found, one_less, too_few}
use Rattle.asn1_der_items.proofs.path.after_elements.Goals as goal

pub returns-in_default : goal.returns-in_default
returns-in_default c =
    sym c.loop-before.invariant.same
    ∙ too_few c.loop-before.before c.loop-before.left.now (omega (arith, c.loop-before-test.true)) (none_found c.loop-before.left.now c.in_default.ensures.found)

pub loop-before-preserved : goal.loop-before-preserved
loop-before-preserved c = record {
  same =
      one_less c.loop-before.before c.loop-before.left.now (element_of c.in-Ok.element) (omega (arith, c.loop-before-test.true)) c.in-Ok.ensures.only
      ∙ c.loop-before.invariant.same;
}

pub returns : goal.returns
returns c =
    sym c.loop-before.invariant.same ∙ behind_none c.loop-before.before c.loop-before.left.now (omega (arith, c.loop-before-test.false))
