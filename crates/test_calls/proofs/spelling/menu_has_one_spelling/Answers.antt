use Rattle.test_calls.proofs.Menus.{alike, distinct}
use Rattle.test_calls.proofs.spelling.menu_has_one_spelling.Goals as goal

pub returns : goal.returns
returns c = c.well_tagged_types_have_one_spelling.ensures alike distinct c.menu_is_well_tagged.ensures
