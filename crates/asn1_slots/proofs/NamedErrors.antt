-- Errors that a name is given.
use Rattle.std.proofs.Common.{◌≡◌, ℕ, false, ap, inl, inr, ◌∙◌}
use Rattle.asn1_laws.specs.DecodeErrors.{lacks_name, reason}
use Rattle.asn1_laws.specs.Reading.{MayFail}
use Rattle.asn1_laws.specs.declared.decode_error.DecodeError.{DecodeError}

-- what is given to no error of memory or of depth changes nothing before records of a value
pub fails_alike : (depth_left height : ℕ) (e named : DecodeError) → (lacks_name (reason e) ≡ false → named ≡ e) →
    MayFail depth_left height e → MayFail depth_left height named
fails_alike depth_left height e named same (inl memory) = inl (same (ap (λ x. lacks_name (reason x)) memory) ∙ memory)
fails_alike depth_left height e named same (inr deep) = inr (same (ap (λ x. lacks_name (reason x)) deep.0) ∙ deep.0, deep.1)
