use Rattle.std.proofs.Common.{rules}
use Rattle.asn1_schema.specs.model.ConstraintSets.{constraint_set}
use Rattle.asn1_schema.specs.model.Tags.{context}
use Rattle.asn1_user_types.proofs.parcel_reader.+parcel_reader.Goals as goal

pub read_alternative-returns-in-1-clause-read : goal.read_alternative-returns-in-1-clause-read
read_alternative-returns-in-1-clause-read g t c = λ few. rw c.in-1.is (c.in-Err.ensures.read c.args.decoder.now (context 0) (search rules) c.read_parcel.ensures.read c.read_parcel.ensures.only)

pub read_parcel-returns-clause-only : goal.read_parcel-returns-clause-only
read_parcel-returns-clause-only g t c =
    c.close_choice.ensures.only (constraint_set c.args.constraints.now) c.args.decoder.now _ c.in_ok-index.index c.in_ok-index.ensures.only c.read_alternative-value.ensures.read
