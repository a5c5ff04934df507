use Rattle.asn1_elements.proofs.ReadExactly.{carried_by}
use Rattle.std.proofs.Common.{sym, ◌∙◌, subst}
use Rattle.std.proofs.lemmas.Result.{err_from_is_err_and}
use Rattle.asn1_der_items.specs.Contents.{HasContents}
use Rattle.asn1_elements.proofs.decoder.value_in.Goals as goal

pub returns-in_err-contents-clause-read : goal.returns-in_err-contents-clause-read
returns-in_err-contents-clause-read g c = λ t k n x y e own same of_type alone parsed has.
    let p = err_from_is_err_and c.from_residual.result c.from_residual.ensures.1 in
    rw (p.1, p.2) (c.in_err-contents.ensures.found t k n x e own (same.kind ∙ g.met.V.FromContents.spelled_kind y ∙ sym c.kind.ensures) alone parsed has)

pub returns-clause-read : goal.returns-clause-read
returns-clause-read g c = λ t k n x y e own same of_type alone parsed has.
    c.from_contents.ensures.read y of_type (subst (HasContents (g.V.FromContents.spelled y)) (sym c.octets.ensures)
    (same.octets _ (c.in_ok-contents.ensures.found t k n x e own (same.kind ∙ g.met.V.FromContents.spelled_kind y ∙ sym c.kind.ensures) alone parsed has)))

pub returns-clause-carried : goal.returns-clause-carried
returns-clause-carried g c = carried_by g.F.ElementForm.form g.V.FromContents.spelled g.V.FromContents.IsReadOf _ _ c.args.element _ _ c.from_contents.result g.met.V.FromContents.spelled_kind (sym c.kind.ensures) c.octets.ensures c.in_ok-contents.ensures.carried c.from_contents.ensures.only
