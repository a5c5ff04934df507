use Rattle.std.proofs.Common.{◌≡◌, ◌∙◌, false, true, ap, subst, sym}
use Rattle.asn1_der_items.proofs.OneElement.{element_alone, element_of}
use Rattle.asn1_der_items.specs.Contents.{HasContents}
use Rattle.asn1_der_items.specs.Elements.{Element, IsElement}
use Rattle.asn1_elements.proofs.ParsedElements.{one_element}
use Rattle.asn1_der.proofs.form.DerFormElementForm.contents.Goals as goal

pub returns-then-element-clause-found : goal.returns-then-element-clause-found
returns-then-element-clause-found c = λ t k n x e own kind alone parsed has.
    let same = one_element e (element_of t false has.contents) own alone (element_alone t false has.contents own has.element) in
    let primitive : true ≡ false = sym c.if-element.true ∙ parsed.constructed ∙ ap (λ (f : Element). f.constructed) same in
    cc

pub returns-clause-found : goal.returns-clause-found
returns-clause-found c = λ t k n x e own kind alone parsed has.
    let same = one_element e (element_of t false has.contents) own alone (element_alone t false has.contents own has.element) in
    subst (HasContents x) (sym (parsed.contents ∙ ap (λ (f : Element). f.contents) same)) has.are

pub returns-clause-carried : goal.returns-clause-carried
returns-clause-carried c = λ t k n x own kind element has.
    record { contents = c.args.element.contents.now; are = has; element = subst (λ b. IsElement t b c.args.element.contents.now own) c.if-element.false element }
