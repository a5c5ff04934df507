use Rattle.std.proofs.Common.{◌≤◌, length}
use Rattle.asn1_ldap_stream.specs.Octets.{AreLinesOf}
use Rattle.asn1_ldap_stream.proofs.octets.lines_of.Given as goal

abbrev pub invariant-loop : goal.invariant-loop
invariant-loop l = record {
  lines : AreLinesOf l.octets l.text.items l.used;
  within : l.used ≤ length l.octets;
}
