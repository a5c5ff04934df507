use Rattle.test_calls.proofs.Corners.{alike, distinct}
use Rattle.test_calls.proofs.spelling.corner_has_one_spelling.Goals as goal

pub returns : goal.returns
returns c = c.well_tagged_types_have_one_spelling.ensures alike distinct c.corner_is_well_tagged.ensures
