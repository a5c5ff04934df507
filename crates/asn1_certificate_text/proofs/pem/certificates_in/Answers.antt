use Rattle.std.proofs.Common.{[], ◌∷◌, ◌++◌, arith, subst, sym}
use Rattle.std.proofs.lemmas.List.{append_assoc}
use Rattle.asn1_certificate_text.proofs.Texts.{first_and_others, last, none_left}
use Rattle.asn1_certificate_text.specs.Pem.{AreCertificatesFrom}
use Rattle.asn1_certificate_text.proofs.pem.certificates_in.Goals as goal

pub returns-in_default-find : goal.returns-in_default-find
returns-in_default-find c =
    subst (AreCertificatesFrom 0 c.args.text.now) (sym c.in_ok-push.ensures.items)
    (c.loop-begin.invariant.ahead _ (last c.args.text.now c.loop-begin.start c.in-Some.begin c.in-Some.ensures c.in_default-find.ensures))

pub loop-begin-preserved : goal.loop-begin-preserved
loop-begin-preserved c = record {
  within = omega (arith, c.in-Some-find.ensures.1.fits);
  ahead = λ others rest.
      subst (λ found. AreCertificatesFrom 0 c.args.text.now (found ++ others)) (sym c.in_ok-push-2.ensures.items)
      (subst (AreCertificatesFrom 0 c.args.text.now) (sym (append_assoc c.loop-begin.found.items (c.in_ok-certificate_of.field-0 ∷ []) others))
      (c.loop-begin.invariant.ahead _
      (first_and_others c.args.text.now c.loop-begin.start c.in-Some.begin c.in-Some-find.size _ others c.in-Some.ensures c.in-Some-find.ensures c.in_ok-certificate_of.ensures rest)));
}

pub returns : goal.returns
returns c = none_left c.args.text.now c.loop-begin.start c.loop-begin.found.items c.in_default.ensures c.loop-begin.invariant.ahead
