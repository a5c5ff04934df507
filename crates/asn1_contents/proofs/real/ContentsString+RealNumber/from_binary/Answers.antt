use Rattle.std.proofs.Common.{inr, refl, subst, sym}
use Rattle.std.proofs.lemmas.Bool.{false≢true}
use Rattle.std.specs.Prelude.{IsTrue, List, ℕ}
use Rattle.asn1_contents.specs.Reals as spec
use Rattle.asn1_contents.proofs.real.ContentsString+RealNumber.from_binary.Goals as goal

-- octets that are refused are those of no REAL
pub returns-in-None-clause-refused : goal.returns-in-None-clause-refused
returns-in-None-clause-refused c = inr (
  refl,
  inr (λ real. false≢true (c.in-None.ensures.allowed.1 (subst (λ (octets : List ℕ). IsTrue (spec.is_real octets)) (sym c.in_ok-octets.ensures) real))),
)
