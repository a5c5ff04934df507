-- The records of a value of a CHOICE or an ENUMERATED type, by its cases.
use Rattle.std.proofs.Common.{◌≡◌, refl}
use Rattle.asn1_model.specs.Meaning.{own_records}
use Rattle.asn1_samples.specs.SampleRecords.{color_records, corner_records, shape_records}
use Rattle.asn1_samples.specs.contracts.color.ColorAsnType.TheImpl.{ghosts as colors}
use Rattle.asn1_samples.specs.contracts.corner.CornerAsnType.TheImpl.{ghosts as corners}
use Rattle.asn1_samples.specs.contracts.shape.ShapeAsnType.TheImpl.{ghosts as shapes}
use Rattle.asn1_samples.specs.declared.color.Color.{Color}
use Rattle.asn1_samples.specs.declared.color.Color.TheVariants.{Red, Green, Blue}
use Rattle.asn1_samples.specs.declared.corner.Corner.{Corner}
use Rattle.asn1_samples.specs.declared.corner.Corner.TheVariants.{Left, Right}
use Rattle.asn1_samples.specs.declared.shape.Shape.{Shape}
use Rattle.asn1_samples.specs.declared.shape.Shape.TheVariants.{Dot, Ring, Inner}

pub color_has_its_records : (c : Color) → own_records colors.meaning c ≡ color_records c
color_has_its_records Red = refl
color_has_its_records Green = refl
color_has_its_records Blue = refl

pub corner_has_its_records : (c : Corner) → own_records corners.meaning c ≡ corner_records c
corner_has_its_records (Left b) = refl
corner_has_its_records (Right octets) = refl

pub shape_has_its_records : (s : Shape) → own_records shapes.meaning s ≡ shape_records s
shape_has_its_records (Dot _) = refl
shape_has_its_records (Ring width) = refl
shape_has_its_records (Inner (Left b)) = refl
shape_has_its_records (Inner (Right octets)) = refl
