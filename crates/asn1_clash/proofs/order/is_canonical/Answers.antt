use Rattle.std.proofs.Common.{sym, ap, ◌∙◌}
use Rattle.std.proofs.lemmas.List.Sorted.{answers_always}
use Rattle.asn1_fields.specs.CanonicalOrder.{canonical, in_order}
use Rattle.asn1_fields.proofs.CanonicalTest.{canonical-seen, IsCanonical-from_test, test-from_IsCanonical}
use Rattle.asn1_clash.specs.Views.{component_view, components_view}
use Rattle.asn1_clash.proofs.Flat.{canonical-flat}
use Rattle.asn1_clash.proofs.order.is_canonical.Goals as goal

pub returns : goal.returns
returns c =
    let seen = components_view c.args.components.now in
    let order = canonical-seen component_view c.args.components.now c.is_sorted_by.result
    (c.is_sorted_by.ensures.cases (λ f g. in_order (component_view f) (component_view g)) (answers_always _ _ _ (λ f a r g called. called.met))) in
    record {
      ordered = (λ holds. IsCanonical-from_test seen (sym order ∙ holds), λ canonical. order ∙ test-from_IsCanonical seen canonical);
      report = order;
      report_of_table = λ table flattened. order ∙ (ap canonical flattened ∙ canonical-flat table);
    }
