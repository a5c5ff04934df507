use Rattle.std.proofs.Common.{refl}
use Rattle.asn1_report.proofs.TreeReading.{first_byte, no_tag_without_number}
use Rattle.asn1_report.proofs.tree.read_tag.Goals as goal

pub returns-in_err-value-in-len1-up : goal.returns-in_err-value-in-len1-up
returns-in_err-value-in-len1-up c =
    record {
      read =
          rw c.from_residual-in_err-value-in-len1-up.ensures
          (no_tag_without_number c.args.text.now _ _ (first_byte c.args.text.now _ c.in-len1-up.len_at_least refl) c.in_err-value-in-len1-up.ensures.begins);
    }
