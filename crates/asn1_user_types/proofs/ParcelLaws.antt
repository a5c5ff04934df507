-- A `Parcel` is well tagged.
use Rattle.std.proofs.Common.{rules}
use Rattle.asn1_schema.specs.model.Meaning.{IsWellTagged}
use Rattle.asn1_user_types.specs.ParcelAlternatives.{parcel_meaning}

pub parcel_can : IsWellTagged parcel_meaning
parcel_can = search rules
