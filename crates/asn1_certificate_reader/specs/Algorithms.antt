-- The report of the algorithm of a signature.
use Rattle.std.specs.Prelude.{◌≡◌, ◌≢◌, MatchOption, Option, false, true}
use Rattle.asn1_certificate_reader.specs.Objects.{IsObjectOf}
use Rattle.asn1_certificate_text.specs.declared.key.AlgorithmDifference.{AlgorithmDifference}
use Rattle.asn1_certificate_text.specs.declared.key.AlgorithmDifference.TheVariants.{Algorithm, Parameters}
use Rattle.asn1_certificate_text.specs.declared.key.Signature.{Signature}
use Rattle.asn1_x509.specs.contracts.algorithm_identifier.AlgorithmIdentifierPartialEq.TheImpl.{ghosts as equality}
use Rattle.asn1_x509.specs.declared.algorithm_identifier.AlgorithmIdentifier.{AlgorithmIdentifier}

-- The second algorithm has the arcs of the first, so its parameters are others; or it has other arcs, and is shown.
abbrev pub IsOtherThan : AlgorithmIdentifier → AlgorithmIdentifier → AlgorithmDifference → Type 0
IsOtherThan first second Parameters = second.algorithm ≡ first.algorithm
IsOtherThan first second (Algorithm shown) = (second.algorithm ≢ first.algorithm) × IsObjectOf second.algorithm shown

-- A difference is shown if and only if two algorithms are not equal, parameters included.
abbrev pub IsDifferenceOf : AlgorithmIdentifier → AlgorithmIdentifier → Option AlgorithmDifference → Type 0
IsDifferenceOf first second shown = MatchOption shown (equality.eq first second ≡ true)
    (λ difference. (equality.eq first second ≡ false) × IsOtherThan first second difference)

-- A certificate has the algorithm of its signature twice: beside the signature and inside the signed part (RFC 5280, 4.1.1.2). The
-- first is shown, and how the second differs from it.
pub record IsSignatureOf (said_beside said_inside : AlgorithmIdentifier) (shown : Signature) : Type 0 where
  pub algorithm : IsObjectOf said_beside.algorithm shown.algorithm
  pub inside : IsDifferenceOf said_beside said_inside shown.inside
