use Rattle.std.specs.Prelude.{⊤}
use Rattle.asn1_laws.proofs.WritingComponents.{appends_component, fails_at_component}
use Rattle.asn1_laws.proofs.WritingSteps.{appends_none, exits}
use Rattle.asn1_components.specs.Components.{all_components}
use Rattle.asn1_samples.specs.NodeComponents.{node_components}
use Rattle.asn1_samples.proofs.node.+node.Goals as goal

pub NodeEncodeFields::encode_fields-returns-in_err-encode_field :
    goal.NodeEncodeFields::encode_fields-returns-in_err-encode_field
NodeEncodeFields::encode_fields-returns-in_err-encode_field g t c =
    let W = g.E.Encoder.writer in
    let none = appends_none W {T = ⊤} c.args.encoder.now tt in
    exits W _ _ _ _ _ c.from_residual.ensures.1 (fails_at_component W (all_components node_components) 0 c.args.self.now g.met.E.Encoder.lawful none c.in_err-encode_field.ensures)

pub NodeEncodeFields::encode_fields-returns-in_err-encode_field-2 :
    goal.NodeEncodeFields::encode_fields-returns-in_err-encode_field-2
NodeEncodeFields::encode_fields-returns-in_err-encode_field-2 g t c =
    let W = g.E.Encoder.writer in
    let cs = all_components node_components in
    let one = appends_component W cs 0 c.args.self.now (appends_none W c.args.encoder.now tt) c.in_ok-encode_field.ensures in
    exits W _ _ _ _ _ c.from_residual-in_err-encode_field-2.ensures.1 (fails_at_component W cs 1 c.args.self.now g.met.E.Encoder.lawful one c.in_err-encode_field-2.ensures)
