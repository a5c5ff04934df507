-- The texts of errors.
use Rattle.std.specs.Prelude.{ℕ, List, codes}
use Rattle.asn1_report.specs.declared.error.CheckError.{CheckError}
use Rattle.asn1_report.specs.declared.error.CheckError.TheVariants.{Reading, Writing, Memory}

-- what a program says of an error
abbrev pub error_text : CheckError → List ℕ
error_text Reading = codes "check: reading failed"
error_text Writing = codes "check: writing failed"
error_text Memory = codes "check: no memory"
