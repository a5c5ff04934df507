use Rattle.asn1_convert.proofs.InPieces.{answered, holds_search, waits}
use Rattle.asn1_convert.proofs.pieces.Pieces.answer.Goals as goal

pub returns-then-waits : goal.returns-then-waits
returns-then-waits g c = λ from to given written h.
    waits from to given written c.args.self.now c.waits-waits.new.self c.waits-waits.ensures.same c.waits-waits.ensures.searched
    (c.waits-waits.ensures.no_front c.if-waits.true) h

pub returns-in-Ok : goal.returns-in-Ok
returns-in-Ok g c = λ from to given written h.
    answered from to given written c.waits-waits.new.self c.take_out.new.self c.args.is_end c.in-Some-Ok.answer c.settled-answer.result
    (rw c.in-Some-Ok.field-0-is at c.in-Some-Ok.ensures) c.settled-answer.ensures.same c.settled-answer.ensures.at_end c.settled-answer.ensures.whole c.settled-answer.ensures.waits
    c.in-Ok.ensures.left c.in-Ok.ensures.values c.in-Ok.ensures.octets c.in-Ok.ensures.from c.in-Ok.ensures.to c.in-Ok.ensures.search
    (holds_search from to given written c.args.self.now c.waits-waits.new.self c.waits-waits.ensures.same c.waits-waits.ensures.searched h)
