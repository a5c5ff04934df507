-- On which side of the extension marker a component is.
use Rattle.asn1_model.specs.Records as model
use Rattle.asn1_model.specs.Records.{in_additions, in_root}
use Rattle.asn1_laws.specs.declared.side.Side.{Side}
use Rattle.asn1_laws.specs.declared.side.Side.TheVariants.{Additions, Root}

-- the side, as presence marks say it
abbrev pub side_of : Side → model.Side
side_of Root = in_root
side_of Additions = in_additions
