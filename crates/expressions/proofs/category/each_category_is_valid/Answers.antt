use Rattle.expressions.specs.CategoryMeaning.{each_is_valid}
use Rattle.expressions.proofs.category.each_category_is_valid.Goals as goal

pub returns : goal.returns
returns c = each_is_valid
