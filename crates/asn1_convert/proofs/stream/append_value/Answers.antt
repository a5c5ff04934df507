use Rattle.std.proofs.Common.{◌++◌, ◌∙◌, Ok, ap, subst}
use Rattle.asn1_convert.specs.Conversions.{Converts}
use Rattle.asn1_convert.proofs.stream.append_value.Goals as goal

pub returns-in-Ok-extend_from_slice : goal.returns-in-Ok-extend_from_slice
returns-in-Ok-extend_from_slice g c = record {
  piece = c.in-Ok-convert_value.written;
  converted = subst (λ l. Converts g.T.AsnType.meaning g.T.PartialEq.eq g.T.Decode.refusals c.args.depth c.args.from l c.args.to (Ok c.in-Ok-convert_value.written)) c.in-Ok.ensures c.in-Ok-convert_value.ensures;
  appended = c.in-Ok-extend_from_slice.ensures.items ∙ ap (λ l. c.args.output.now.items ++ l) c.as_slice.ensures.value;
}
