use Rattle.asn1_ber.proofs.Contents.{truth_only}
use Rattle.asn1_elements.specs.declared.contents.Contents.TheVariants.{AsParsed}
use Rattle.asn1_ber.proofs.form.truth_contents.Goals as goal

pub returns-clause-only : goal.returns-clause-only
returns-clause-only c = truth_only c.in_ok-value.value c.args.octets.now (AsParsed c.truth_octets.result) c.in_ok-value.ensures.only c.truth_octets.ensures
