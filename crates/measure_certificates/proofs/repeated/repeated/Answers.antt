use Rattle.std.proofs.lemmas.Result.{IfOk-weaker}
use Rattle.measure_certificates.proofs.repeated.repeated.Goals as goal

pub returns : goal.returns
returns c =
    IfOk-weaker c.written.result _ _ (λ _ carries. (c.in_ok-certificate.certificate, carries)) c.written.ensures
