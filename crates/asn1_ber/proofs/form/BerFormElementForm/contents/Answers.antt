use Rattle.std.proofs.Common.{◌∙◌, sym}
use Rattle.asn1_ber.proofs.Contents.{carried_constructed, carried_primitive, constructed_has, primitive_has, with_contents}
use Rattle.asn1_ber.proofs.form.BerFormElementForm.contents.Goals as goal

pub returns-then-element-clause-found : goal.returns-then-element-clause-found
returns-then-element-clause-found c = λ t k n x e own kind alone parsed has.
    c.whole_string.ensures.found x kind (constructed_has t k n x e own c.args.element.contents.now alone parsed.contents (sym parsed.constructed ∙ c.if-element.true) has)

pub returns-else-element-clause-found : goal.returns-else-element-clause-found
returns-else-element-clause-found c = λ t k n x e own kind alone parsed has.
    c.strict_contents.ensures.found x kind (primitive_has t k n x e own c.args.element.contents.now alone parsed.contents (sym parsed.constructed ∙ c.if-element.false) has)

pub returns-then-element-clause-carried : goal.returns-then-element-clause-carried
returns-then-element-clause-carried c =
    with_contents c.args.kind c.args.element _ _ c.whole_string.result (λ made only. carried_constructed c.args.kind c.args.element made c.if-element.true only) c.whole_string.ensures.carried

pub returns-else-element-clause-carried : goal.returns-else-element-clause-carried
returns-else-element-clause-carried c =
    with_contents c.args.kind c.args.element _ _ c.strict_contents.result (λ made only. carried_primitive c.args.kind c.args.element made c.if-element.false only) c.strict_contents.ensures.only
