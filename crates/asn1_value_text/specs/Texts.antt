-- The relations of an encoder of texts: how the open scopes are nested, and nothing of what is written.
use Rattle.std.specs.List.{All}
use Rattle.std.specs.Prelude.{◌≡◌, ◌+◌, ◌≤◌, ℕ, suc, false, length, List, ◌≢◌, ⊤, Result, Ok, Err}
use Rattle.asn1_buffers.specs.Encoder.{scopes_in}
use Rattle.asn1_laws.specs.Writing.{IsLawful, IsRejection, ScopeIsNotOpen, SameWritten, Writer, Written, in_group, in_scope, outermost, same_group, same_outermost, same_scope}
use Rattle.asn1_laws.specs.declared.encode_error.EncodeError.{EncodeError}
use Rattle.asn1_laws.specs.declared.encode_error.EncodeError.TheVariants.{Depth, Failed}
use Rattle.asn1_rules.specs.Rules.{Format}
use Rattle.asn1_value_text.specs.declared.encoder.TextEncoder.{TextEncoder}

-- how many lists are open in the outermost one: scopes and groups
abbrev pub open_in : Written → ℕ
open_in (outermost rs) = 0
open_in (in_scope h rs w) = suc (open_in w)
open_in (in_group table rs w) = suc (open_in w)

-- Records may be refused if this is so, whichever they are. As many scopes and groups are open in the text as in the records.
abbrev pub text_writer : {F : Type 0} → Type 0 → Writer (TextEncoder F)
text_writer MayRefuse = record {
  wrote = λ e w. (length e.layout.scopes.items ≡ open_in w) × (scopes_in w + e.depth_left ≡ e.limit);
  failed = λ e. e.failed;
  depth_left = λ e. e.depth_left;
  rejects = λ rs. MayRefuse;
}

-- A scope may be opened: the encoder has not failed, some depth is left, and nothing has changed.
pub record MayOpen {E : Type 0} (W : Writer E) (old new : E) : Type 0 where
  pub same : new ≡ old
  pub no_failure : W.failed old ≡ false
  pub some_depth : W.depth_left old ≢ 0

-- Finishing a text fails only if memory ran out, or if this is so.
abbrev pub MayNotBeFinished : Type 0 → {A : Type 0} → Result A EncodeError → Type 0
MayNotBeFinished IsSo (Ok x) = ⊤
MayNotBeFinished IsSo (Err e) = (e ≢ Depth) × (e ≢ Failed) × (IsRejection e → IsSo)

-- Texts carry whatever records they were made of: a text says nothing of them by itself.
abbrev pub text_format : {O : Type 0} → Type 0 → Format O
text_format MayRefuse = record {
  carries = λ text rs. ⊤;
  rejects = λ rs. MayRefuse;
  accepts = λ octets. false;
}

-- a text of one line: no octet of it is below 32, as a line feed and a carriage return are
abbrev pub IsOneLine : List ℕ → Type 0
IsOneLine text = All (λ octet. 32 ≤ octet) text
