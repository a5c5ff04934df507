use Rattle.std.proofs.Common.{rules}
use Rattle.asn1_model.specs.ConstraintSets.{constraint_set}
use Rattle.asn1_model.specs.Tags.{context}
use Rattle.asn1_recursive.proofs.nested.+nested_reader.Goals as goal

pub read_alternative-returns-in-2-clause-read : goal.read_alternative-returns-in-2-clause-read
read_alternative-returns-in-2-clause-read g t c = λ few. rw c.in-2.is (c.in-Err.ensures.read c.args.decoder.now (context 0) (search rules) c.read_nested.ensures.read c.read_nested.ensures.only)

pub read_nested-returns-clause-only : goal.read_nested-returns-clause-only
read_nested-returns-clause-only g t c =
    c.close_choice.ensures.only (constraint_set c.args.constraints.now) c.args.decoder.now _ c.in_ok-index.index c.in_ok-index.ensures.only c.read_alternative-value.ensures.read
