use Rattle.std.proofs.Common.{rules, ◌≡◌, ◌∙◌, sym}
use Rattle.std.proofs.lemmas.List.Sorted.{answers_always}
use Rattle.asn1_fields.specs.CanonicalOrder.{canonical}
use Rattle.asn1_fields.specs.FieldViews.{components}
use Rattle.asn1_fields.proofs.CanonicalTest.{IsCanonical-from_test, canonical-is, fields_in_order, test-from_IsCanonical}
use Rattle.asn1_fields.proofs.canonical_order.is_canonical.Goals as goal

pub returns : goal.returns
returns c =
    let fields = c.args.fields.now in
    let answer : c.is_sorted_by.result ≡ canonical (components fields) =
    canonical-is fields c.is_sorted_by.result (c.is_sorted_by.ensures.cases fields_in_order (answers_always _ _ _ (λ f a r q k. search rules))) in
    record {
      ordered = (λ e. IsCanonical-from_test (components fields) (sym answer ∙ e), λ h. answer ∙ test-from_IsCanonical (components fields) h);
      report = answer;
    }
