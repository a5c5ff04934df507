use Rattle.std.proofs.Common.{arith, subst}
use Rattle.std.specs.Cmp.Lexicographic.{pointwise}
use Rattle.std.specs.Global.{Vec}
use Rattle.std.specs.Prelude.{IfOk, OnOk, ◌≡◌}
use Rattle.std.proofs.lemmas.Result.{err_from_is_err_and}
use Rattle.asn1_laws.proofs.ReadingWhole.{scope_was_read}
use Rattle.asn1_laws.specs.ReadingExactly.{HasReadElements}
use Rattle.asn1_laws.specs.ReadingTypes.{ReadsElementsLeft}
use Rattle.asn1_model.specs.Meaning.{IsReadAsOwn}
use Rattle.asn1_model.specs.Readings.{AreElementsRead}
use Rattle.asn1_model.specs.Records.{sequence_of}
use Rattle.asn1_nesting.proofs.OpenAndClosedSequences.{elements_not_read, sequence_of_not_closed, sequence_of_read}
use Rattle.asn1_nesting.proofs.lists.close_sequence_of.Goals as goal

pub returns-in-Err-clause-read : goal.returns-in-Err-clause-read
returns-in-Err-clause-read g c = λ t cs old opened bound is_open reads.
    elements_not_read g.D.Decoder.reader g.T.AsnType.meaning (λ (w : Vec g.row.T.Denot). pointwise g.T.PartialEq.eq w.items) t cs old opened c.args.decoder.now c.args.decoder.now bound is_open
    (subst (ReadsElementsLeft g.D.Decoder.reader bound g.T.AsnType.meaning (λ (w : Vec g.row.T.Denot). pointwise g.T.PartialEq.eq w.items) opened c.args.decoder.now) c.in-Err.is reads)

pub returns-in_err-close-clause-read : goal.returns-in_err-close-clause-read
returns-in_err-close-clause-read g c = λ t cs old opened bound is_open reads.
    let p = err_from_is_err_and c.from_residual.result c.from_residual.ensures.1 in
    rw (p.1, p.2) (sequence_of_not_closed g.D.Decoder.reader g.T.AsnType.meaning (λ (w : Vec g.row.T.Denot). pointwise g.T.PartialEq.eq w.items) t cs old opened c.args.decoder.now c.close.new.self bound is_open {w = c.in-Ok.elements}
    (subst (ReadsElementsLeft g.D.Decoder.reader bound g.T.AsnType.meaning (λ (w : Vec g.row.T.Denot). pointwise g.T.PartialEq.eq w.items) opened c.args.decoder.now) c.in-Ok.is reads) c.in_err-close.ensures.read)

pub returns-clause-read : goal.returns-clause-read
returns-clause-read g c = λ t cs old opened bound is_open reads.
    sequence_of_read g.D.Decoder.reader g.T.AsnType.meaning (λ (w : Vec g.row.T.Denot). pointwise g.T.PartialEq.eq w.items) t cs old opened c.args.decoder.now c.close.new.self bound is_open {w = c.in-Ok.elements}
    (subst (ReadsElementsLeft g.D.Decoder.reader bound g.T.AsnType.meaning (λ (w : Vec g.row.T.Denot). pointwise g.T.PartialEq.eq w.items) opened c.args.decoder.now) c.in-Ok.is reads) c.in_ok-close.ensures.read

pub returns-clause-same_depth : goal.returns-clause-same_depth
returns-clause-same_depth g c = λ t cs old opened bound is_open same.
    omega (
      arith,
      is_open.one_less,
      c.in_ok-close.ensures.gives_depth_back.one_more,
      subst (λ a. OnOk a (g.D.Decoder.reader.depth_left c.args.decoder.now ≡ g.D.Decoder.reader.depth_left opened)) c.in-Ok.is same,
    )

pub returns-clause-only : goal.returns-clause-only
returns-clause-only g c = λ t cs old opened opens reads.
    let given = subst (λ a. IfOk a (λ w. HasReadElements g.D.Decoder.reader opened c.args.decoder.now g.T.AsnType.meaning w.items)) c.in-Ok.is reads in
    scope_was_read g.D.Decoder.reader (AreElementsRead (IsReadAsOwn g.T.AsnType.meaning)) _ old opened c.args.decoder.now c.close.new.self given c.in_ok-close.ensures.only (sequence_of t cs) opens
