use Rattle.std.proofs.Common.{ap, sym}
use Rattle.asn1_items.specs.Kinds.{string_kind-octet_kind}
use Rattle.asn1_items.specs.declared.kinds.ContentKind.TheVariants.{String}
use Rattle.asn1_items.proofs.content.kind_of_octets.Goals as goal

pub returns : goal.returns
returns c = ap String (sym (string_kind-octet_kind c.args.kind))
