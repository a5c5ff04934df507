use Rattle.std.proofs.Common.{Err, subst, sym}
use Rattle.asn1_circles.specs.Words.{constraint_set}
use Rattle.expressions.proofs.CategoryTags.{body_can}
use Rattle.expressions.specs.CategoryReading.{ReadsKnot}
use Rattle.expressions.proofs.category_reader.+category_reader.Goals as goal

pub close_knot-requires : goal.close_knot-requires
close_knot-requires g t c = record { tagged = λ t h. (h.0, body_can.1.1) }

pub returns-clause-after_reading : goal.returns-clause-after_reading
returns-clause-after_reading g t c =
    c.close_knot.ensures.after_reading c.args.tag (constraint_set c.args.constraints.now) c.args.decoder.now c.decode_sequence_with-of.ensures.after_reading

pub returns-clause-read : goal.returns-clause-read
returns-clause-read g t c =
    c.close_knot.ensures.read c.args.tag (constraint_set c.args.constraints.now) c.args.decoder.now c.decode_sequence_with-of.ensures.read

pub returns-clause-only : goal.returns-clause-only
returns-clause-only g t c =
    c.close_knot.ensures.only c.args.tag (constraint_set c.args.constraints.now) c.args.decoder.now c.decode_sequence_with-of.ensures.only

pub read-returns : goal.read-returns
read-returns g t c =
    let after = c.in-Err.ensures.after_reading in
    subst (λ e. ReadsKnot g.D.Decoder.reader c.args.at c.args.inside.now c.read_category.new.decoder (Err e)) (sym c.from_error.ensures)
    (record { read = c.in-Err.ensures.read; only = tt; same_depth = after.same_depth; failed_as_before = after.failed_as_before })
