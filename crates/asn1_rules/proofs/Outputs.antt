-- One more output after those of the values before.
use Rattle.std.proofs.Common.{◌≡◌, ℕ, ◌+◌, ◌<◌, List, [], ◌∷◌, ◌++◌, length, take, get_or, sym, subst, append_assoc, append-nil, ◌∙◌}
use Rattle.std.specs.Prelude.{Contains, Vec}
use Rattle.std.specs.declared.alloc.Global.{Global}
use Rattle.std.proofs.lemmas.List.{take_more}
use Rattle.std.proofs.lemmas.List.Elements.{Contains-get_or}
use Rattle.asn1_laws.specs.Writing.{IsRejection}
use Rattle.asn1_laws.specs.declared.encode_error.EncodeError.{EncodeError}
use Rattle.asn1_laws.specs.declared.encode_error.EncodeError.TheVariants.{Memory, Depth, Failed}
use Rattle.asn1_model.specs.Meaning.{Meaning, own_records}
use Rattle.asn1_model.specs.Records.{Record}
use Rattle.asn1_rules.specs.Rules.{Format, IsWritten, IsNotWritten}
use Rattle.asn1_rules.specs.Outputs.{AreOutputs, no_output, output_and, OneIsNotWritten}

module _ {V : Type 0} (format : Format (Vec ℕ Global)) (m : Meaning V) (depth : ℕ) where
  one_more : {vs : List V} {bytes : List ℕ} (v : V) (output : Vec ℕ Global) → AreOutputs format m depth vs bytes →
      IsWritten format (own_records m v) (m.IsOfType v) depth output → AreOutputs format m depth (vs ++ v ∷ []) (bytes ++ output.items)
  one_more v output no_output written =
      subst (AreOutputs format m depth (v ∷ [])) (append-nil output.items) (output_and output written no_output)
  one_more v output (output_and {v = first} {vs} {bytes} o is before) written =
      subst (AreOutputs format m depth (first ∷ (vs ++ v ∷ []))) (sym (append_assoc o.items bytes output.items))
      (output_and o is (one_more v output before written))

  pub output_more : (vs : List V) (i : ℕ) (v : V) {bytes : List ℕ} (output : Vec ℕ Global) → i < length vs → v ≡ get_or vs i v →
      AreOutputs format m depth (take i vs) bytes → IsWritten format (own_records m v) (m.IsOfType v) depth output →
      AreOutputs format m depth (take (i + 1) vs) (bytes ++ output.items)
  output_more vs i v {bytes} output lt is before written =
      subst (λ l. AreOutputs format m depth l (bytes ++ output.items)) (sym (take_more vs i v lt))
      (subst (λ w. AreOutputs format m depth (take i vs ++ w ∷ []) (bytes ++ output.items)) is (one_more v output before written))

  pub not_written : (vs : List V) (i : ℕ) (v : V) (e : EncodeError) → i < length vs → v ≡ get_or vs i v →
      IsNotWritten format (own_records m v) depth e → OneIsNotWritten format m depth vs e
  not_written vs i v e lt is failed = (v, subst (Contains vs) (sym is) (Contains-get_or vs i v lt), failed)

-- Want of memory is always a reason.
pub no_memory : (F : Format (Vec ℕ Global)) (rs : List Record) (depth : ℕ) (e : EncodeError) → e ≡ Memory → IsNotWritten F rs depth e
no_memory F rs depth e is = record {
  too_deep = λ deep. let x : Memory ≡ Depth = sym is ∙ deep in cc;
  rejected = λ rejection. absurd (subst IsRejection is rejection);
  not_failed = λ failed. let x : Memory ≡ Failed = sym is ∙ failed in cc;
}
