use Rattle.std.proofs.Common.{inl, inr, refl, subst, ℕ, List}
use Rattle.asn1_certificate_input.specs.Inputs.{BeginsNoSequence, BeginsSequence, IsNoText}
use Rattle.asn1_certificate_text.specs.PemLines.{HasNoBegin}
use Rattle.asn1_certificate_input.proofs.inputs.certificates_of.Goals as goal

-- an input that no SEQUENCE begins, and that is no text, has no line before a certificate
no_line : (input : List ℕ) → IsNoText input → BeginsNoSequence input → HasNoBegin input
no_line input (inl none) other = none
no_line input (inr (sequence, why)) other = absurd (other sequence)

pub returns-then-not-begins_sequence-clause-refused : goal.returns-then-not-begins_sequence-clause-refused
returns-then-not-begins_sequence-clause-refused c =
    let no_text = subst IsNoText c.as_slice.ensures.value (c.in_ok-is_text.ensures.no_text c.if-branch.false) in
    let other = subst BeginsNoSequence c.as_slice-2.ensures.value (c.if-not-begins_sequence.ensures.other refl) in
    (no_line c.args.input.items no_text other, other)

pub returns-clause-found : goal.returns-clause-found
returns-clause-found c = inr (
  subst IsNoText c.as_slice.ensures.value (c.in_ok-is_text.ensures.no_text c.if-branch.false),
  subst BeginsSequence c.as_slice-2.ensures.value (c.if-not-begins_sequence.ensures.sequence refl),
  c.in_ok-alone.ensures,
)
