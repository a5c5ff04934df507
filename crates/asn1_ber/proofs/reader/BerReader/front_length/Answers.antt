use Rattle.std.proofs.Common.{arith}
use Rattle.asn1_ber.proofs.Cuts.{rest_within}
use Rattle.asn1_ber.proofs.reader.BerReader.front_length.Goals as goal

pub overflow_sub-result : goal.overflow_sub-result
overflow_sub-result c =
    let front = c.in_ok-front.front in
    omega (arith, rest_within c.args.input.now front.normal.items front.rest.now c.in_ok-front.ensures.only.spells)

pub returns-clause-length : goal.returns-clause-length
returns-clause-length c =
    let front = c.in_ok-front.front in
    record {
      normal = front.normal.items;
      rest = front.rest.now;
      one = c.in_ok-front.ensures.only;
      long = omega (arith, rest_within c.args.input.now front.normal.items front.rest.now c.in_ok-front.ensures.only.spells);
    }
