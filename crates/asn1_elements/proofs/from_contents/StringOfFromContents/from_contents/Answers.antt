use Rattle.asn1_elements.proofs.StringsRead.{spelled_so}
use Rattle.asn1_elements.proofs.from_contents.StringOfFromContents.from_contents.Goals as goal

pub returns-in-Some-clause-only : goal.returns-in-Some-clause-only
returns-in-Some-clause-only g c =
    spelled_so g.K.StringType.content g.K.CodecString.units_read c.kind.result g.K.CodecString.own_kind c.in_ok-read_string.field-0 c.args.octets.now (g.K.CodecString.units_in c.in-Some.string) c.kind.ensures c.in_ok-read_string.ensures.only c.in-Some.ensures.only
    g.met.K.CodecString.spellings
