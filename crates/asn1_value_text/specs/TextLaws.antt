-- The encoder of texts keeps the laws of a codec.
use Rattle.std.proofs.Common.{◌≡◌, ◌∙◌, suc, ap, refl, arith}
use Rattle.asn1_buffers.specs.Encoder.{scopes_in}
use Rattle.asn1_laws.specs.Writing.{IsLawful, SameWritten, Written, same_group, same_outermost, same_scope}
use Rattle.asn1_value_text.specs.Texts.{open_in, text_writer}

-- as many lists are open in another order inside sets
open_in-same : {w x : Written} → SameWritten w x → open_in w ≡ open_in x
open_in-same (same_outermost rs) = refl
open_in-same (same_scope h rs outside) = ap suc (open_in-same outside)
open_in-same (same_group table rs outside) = ap suc (open_in-same outside)

-- and as many of them are scopes
scopes_in-same : {w x : Written} → SameWritten w x → scopes_in w ≡ scopes_in x
scopes_in-same (same_outermost rs) = refl
scopes_in-same (same_scope h rs outside) = ap suc (scopes_in-same outside)
scopes_in-same (same_group table rs outside) = scopes_in-same outside

-- the laws
pub text_writer_is_lawful : {F : Type 0} (MayRefuse : Type 0) → IsLawful (text_writer {F = F} MayRefuse)
text_writer_is_lawful MayRefuse = record {
  part = λ before rs after refuses. refuses;
  inner = λ h rs refuses. refuses;
  marks = λ table rs alone refuses. refuses;
  wrote_in_any_order = λ e w x same wrote. (wrote.0 ∙ open_in-same same, omega (arith, wrote.1, scopes_in-same same));
  rejects_in_any_order = λ rs ss same refuses. refuses;
}
