use Rattle.std.proofs.Common.{◌≡◌}
use Rattle.std.specs.Prelude.{Some, Ok}
use Rattle.asn1_ldap_stream.proofs.Streams.{stops_at_other}
use Rattle.asn1_rules.proofs.Steps.{took}
use Rattle.asn1_rules.specs.Iters.{state}
use Rattle.asn1_ldap_stream.proofs.stream.next_text.Goals as goal

pub returns-in-Some-Ok-clause-stopped : goal.returns-in-Some-Ok-clause-stopped
returns-in-Some-Ok-clause-stopped g c =
    let F = g.F.FrontReader.fronts in
    let old = state c.args.elements.now in
    let new = state c.next.new.self in
    let octets = c.in-Some-Ok.element in
    let is : Some c.in-Some-Ok.field-0 ≡ Some (Ok octets) = cc in
    stops_at_other F old.reader g.M.Rules.format c.args.messages.now.depth c.failure_at.result old new octets c.into_bytes-octets.result.items
    c.in-Err.error _ (took F old new (Some c.in-Some-Ok.field-0) octets is c.in-Some-Ok.ensures.steps) c.into_bytes-octets.ensures
    c.in-Err.ensures.no_message c.failure_at.ensures.memory c.failure_at.ensures.damaged c.consumed-position.ensures.consumed
