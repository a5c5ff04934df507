use Rattle.test_big_types.proofs.measurement.MeasurementEncodeChoice.encode_alternative.Goals as goal

pub returns-in-Power : goal.returns-in-Power
returns-in-Power g c = rw c.in-Power.is c.encode_with_tag-in-Power.ensures
