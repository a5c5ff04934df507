-- The statuses of octets that were refused, by the error.
use Rattle.asn1_certificate_rules.specs.declared.finding.Finding.TheVariants as finding
use Rattle.asn1_convert.specs.declared.check.CheckError.{CheckError}
use Rattle.asn1_convert.specs.declared.check.CheckError.TheVariants as check
use Rattle.asn1_laws.specs.declared.decode_error.DecodeError.{DecodeError}
use Rattle.asn1_laws.specs.declared.decode_error.DecodeError.TheVariants as reading
use Rattle.asn1_laws.specs.declared.encode_error.EncodeError.{EncodeError}
use Rattle.asn1_laws.specs.declared.encode_error.EncodeError.TheVariants as writing
use Rattle.asn1_rules.specs.declared.canonical.CanonicalError.{CanonicalError}
use Rattle.asn1_rules.specs.declared.canonical.CanonicalError.TheVariants as canonical
use Rattle.asn1_rules.specs.declared.recoding.RecodeError.{RecodeError}
use Rattle.asn1_rules.specs.declared.recoding.RecodeError.TheVariants as recoding
use Rattle.fan_calls.specs.declared.status.Status.{Status}
use Rattle.fan_calls.specs.declared.status.Status.TheVariants.{Fault, Memory, Deep}

-- memory ran out, the scopes are nested deeper than the depth, or the octets are at fault
abbrev pub status_of_reading : DecodeError → Status
status_of_reading reading.Memory = Memory
status_of_reading reading.Depth = Deep
status_of_reading _ = Fault

-- the same of a value that was read
abbrev pub status_of_writing : EncodeError → Status
status_of_writing writing.Memory = Memory
status_of_writing writing.Depth = Deep
status_of_writing writing.Failed = Fault
status_of_writing (writing.Custom text) = Fault

-- the status of octets that are read and written again
abbrev pub status_of_canonical : CanonicalError → Status
status_of_canonical (canonical.Read e) = status_of_reading e
status_of_canonical (canonical.Write e) = status_of_writing e
status_of_canonical (canonical.NotCanonical at) = Fault

-- the status of octets that are looked through, read and written again
abbrev pub status_of_check : CheckError → Status
status_of_check (check.Broken (finding.Broken broken)) = Fault
status_of_check (check.Broken (finding.Deeper position)) = Deep
status_of_check (check.NotCanonical e) = status_of_canonical e

-- the status of octets that are read by one codec and written by another
abbrev pub status_of_recoding : RecodeError → Status
status_of_recoding (recoding.Read e) = status_of_reading e
status_of_recoding (recoding.Write e) = status_of_writing e
