use Rattle.std.proofs.Common.{◌<◌, ◌+◌, false, length, length-drop, add-one, arith}
use Rattle.std.proofs.Math.Seq.{drop-cons}
use Rattle.asn1_strings.proofs.strings.bit_vec.BitIterIterator.next.Goals as goal

pub returns-clause-steps : goal.returns-clause-steps
returns-clause-steps c =
    let bits = c.args.self.now.bits.now in
    let at = c.args.self.now.index in
    let low : at < length bits = omega (arith, c.if-self-len.false, c.len.ensures) in
    rw (c.bit-next.ensures, add-one) (drop-cons bits at false low)

pub returns-clause-goes : goal.returns-clause-goes
returns-clause-goes c =
    let bits = c.args.self.now.bits.now in
    let at = c.args.self.now.index in
    record {
      on = λ fin. (tt, tt, omega (arith, c.if-self-len.false, c.len.ensures, length-drop at bits, length-drop (at + 1) bits));
      keeps = tt;
      rests = λ fin. tt;
    }
