use Rattle.std.proofs.Common.{ap, ◌∙◌}
use Rattle.std.specs.Prelude.{drop}
use Rattle.asn1_contents.proofs.NumbersOfArcs.{made}
use Rattle.asn1_contents.proofs.relative_oid.octets_of.Goals as goal

pub returns : goal.returns
returns c =
    made c.args.arcs.now c.deref.result.now c.new-octets.result.items c.append_arcs.new.bytes.items c.in_ok-own.own.items
    (c.deref.ensures.value ∙ c.in_ok-rooted.ensures) c.new-octets.ensures.items c.in-Ok.ensures.appended
    (c.in_ok-own.ensures ∙ ap (drop 1) c.deref-2.ensures.value)
