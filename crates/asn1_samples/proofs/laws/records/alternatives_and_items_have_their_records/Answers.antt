use Rattle.asn1_samples.proofs.ChosenRecords.{color_has_its_records, corner_has_its_records, shape_has_its_records}
use Rattle.asn1_samples.proofs.laws.records.alternatives_and_items_have_their_records.Goals as goal

pub returns-clause-shape : goal.returns-clause-shape
returns-clause-shape c = shape_has_its_records c.args.shape.now

pub returns-clause-corner : goal.returns-clause-corner
returns-clause-corner c = corner_has_its_records c.args.corner.now

pub returns-clause-color : goal.returns-clause-color
returns-clause-color c = color_has_its_records c.args.color
