use Rattle.std.specs.Cmp.Lexicographic.{pointwise}
use Rattle.std.proofs.Common.{eqb, Some, codes, inl, refl}
use Rattle.asn1_components.specs.Components.{all_components}
use Rattle.asn1_model.specs.TaggedTypes.{untagged}
use Rattle.asn1_samples.specs.BadgeParts.{IsBadgePart, badge_index, label_type}
use Rattle.asn1_samples.specs.contracts.badge.BadgeFieldTable.TheImpl.{ghosts as badge}
use Rattle.asn1_samples.specs.contracts.shape.ShapeAsnType.TheImpl.{ghosts as shape}
use Rattle.asn1_samples.specs.contracts.shape.ShapePartialEq.TheImpl.{ghosts as shapes}
use Rattle.asn1_samples.specs.declared.badge.BadgePart.TheVariants.{Label, Figure}
use Rattle.asn1_model.specs.Records.{in_root}
use Rattle.asn1_laws.proofs.ReadingParts.{optional_part, required_part}
use Rattle.asn1_samples.proofs.badge.BadgeDecodeSet.decode_field.Goals as goal

pub returns-in-1-clause-read : goal.returns-in-1-clause-read
returns-in-1-clause-read g c =
    optional_part g.D.Decoder.reader _ _ Label (all_components badge.components) badge_index IsBadgePart label_type (pointwise eqb) 1 c.args.index c.decode-in-1.result c.map-in-1.result in_root
    c.in-1.is (λ b. b.label) (λ b. refl) (λ h. h.1.0) (λ b h. h.1.0) (λ b h. h.1.0)
    (λ can w rest outer of_type valid. c.decode-in-1.ensures.read w (Some (codes "VisibleString")) rest outer can.1 of_type valid (inl can.0)) c.map-in-1.ensures.cases (λ b w same. (refl, same))

pub returns-in-2-clause-read : goal.returns-in-2-clause-read
returns-in-2-clause-read g c =
    required_part g.D.Decoder.reader _ _ Figure (all_components badge.components) badge_index IsBadgePart (untagged shape.meaning) shapes.eq 2 c.args.index c.decode-in-2.result c.map-in-2.result
    c.in-2.is (λ b. b.shape) (λ b. refl) (λ h. h.1.1.0) (λ b h. h.1.1.0) (λ b h. h.1.1.0)
    (λ can w rest outer of_type valid. c.decode-in-2.ensures.read w (Some (codes "Shape")) rest outer can.1 of_type valid (inl can.0)) c.map-in-2.ensures.cases (λ b w same. (refl, same))
