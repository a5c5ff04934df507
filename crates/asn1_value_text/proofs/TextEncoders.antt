-- The calls of the encoder of texts that succeed, and those that fail.
use Rattle.std.proofs.Common.{◌≡◌, ◌∙◌, ℕ, Bool, false, true, List, [], Result, Ok, Err, sym}
use Rattle.std.proofs.lemmas.Bool.{false≢true}
use Rattle.std.specs.Prelude.{⊤}
use Rattle.asn1_laws.specs.Writing.{Fails, Writes, outermost}
use Rattle.asn1_laws.specs.declared.encode_error.EncodeError.{EncodeError}
use Rattle.asn1_model.specs.Records.{Record}
use Rattle.asn1_rules.specs.Rules.{IsNotWritten}
use Rattle.asn1_value_text.specs.Texts.{text_format, text_writer}
use Rattle.asn1_value_text.specs.declared.encoder.TextEncoder.{TextEncoder}

module _ {F : Type 0} (MayRefuse : Type 0) where
  -- what a call knows of its value
  pub known : (old : TextEncoder F) (rs : List Record) (IsSo : Type 0) (new : TextEncoder F) {A : Type 0} (result : Result A EncodeError) → Writes (text_writer MayRefuse) old rs ⊤ new result → IsSo → Writes (text_writer MayRefuse) old rs IsSo new result
  known old rs IsSo new (Ok x) wrote fact = record {
    written = wrote.written;
    failed_as_before = wrote.failed_as_before;
    unless_failed = wrote.unless_failed;
    same_depth = wrote.same_depth;
    within_depth_left = wrote.within_depth_left;
    of_type = fact;
  }
  known old rs IsSo new (Err e) wrote fact = wrote

  -- why a value was not written
  pub not_written : {O : Type 0} (old new : TextEncoder F) (rs : List Record) (depth : ℕ) (e : EncodeError) →
      (text_writer MayRefuse).wrote old (outermost []) → old.depth_left ≡ depth → old.failed ≡ false → Fails (text_writer MayRefuse) old rs new e → IsNotWritten (text_format {O = O} MayRefuse) rs depth e
  not_written old new rs depth e began allowed was fails = record {
    too_deep = λ is. rw (← allowed) (fails.too_deep is);
    rejected = λ is. fails.rejected is (outermost []) began;
    not_failed = λ is. false≢true (sym was ∙ fails.error.failed_before.0 is);
  }
