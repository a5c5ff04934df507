use Rattle.std.proofs.Common.{◌∷◌, ◌++◌, [], ap, refl, ◌∙◌}
use Rattle.asn1_certificate_text.specs.declared.pem.PemCertificate.TheVariants.{Octets}
use Rattle.asn1_certificate_input.proofs.inputs.alone.Goals as goal

pub returns : goal.returns
returns c = record {
  octets = c.args.octets;
  only = c.in_ok-push.ensures.items ∙ ap (λ found. found ++ Octets c.args.octets ∷ []) c.new-certificates.ensures.items;
  are = refl;
}
