use Rattle.asn1_samples.proofs.ShapeTable.{table_fits}
use Rattle.asn1_samples.proofs.laws.the_table_of_a_shape_fits.Goals as goal

pub returns : goal.returns
returns c = table_fits
