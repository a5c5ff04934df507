use Rattle.std.proofs.Common.{◌-◌, length, inl, arith}
use Rattle.std.proofs.lemmas.Result.{err_from_is_err_and}
use Rattle.asn1_ber.specs.Cuts.{IsCut}
use Rattle.asn1_ber.proofs.Cuts.{front_in_normal_form, one_cut, read_of_front, rest_within}
use Rattle.asn1_ber.proofs.reader.BerReaderFrontReader.read_front.Goals as goal

pub overflow_sub-length : goal.overflow_sub-length
overflow_sub-length g c = omega (arith, rest_within c.args.input.now c.in-Ok.front.normal.items c.in-Ok.front.rest.now c.in-Ok.ensures.only.spells)

pub returns-in-Err : goal.returns-in-Err
returns-in-Err g c = record { read = λ v n front. inl (c.decode_error_of.ensures.memory (c.in-Err.ensures.found front.cut.normal front.cut.rest front.cut.one)) }

pub returns-in_err-value-in-Ok : goal.returns-in_err-value-in-Ok
returns-in_err-value-in-Ok g c =
    let p = err_from_is_err_and c.from_residual.result c.from_residual.ensures.1 in
    let front = c.in-Ok.front in
    record {
      read = rw (p.1, p.2) (λ v n is.
          c.in_err-value-in-Ok.ensures.read v is.is_well_tagged is.of_type is.valid
          (front_in_normal_form g.D.AsnType.meaning c.args.input.now c.as_slice.result.now front.normal.items front.rest.now v n c.as_slice.ensures.value is c.in-Ok.ensures.only));
    }

pub returns-in_ok-value-in-Ok : goal.returns-in_ok-value-in-Ok
returns-in_ok-value-in-Ok g c =
    let input = c.args.input.now in
    let front = c.in-Ok.front in
    let found = c.in-Ok.ensures.only in
    let cut : IsCut input (length input - length front.rest.now) = record {
      normal = front.normal.items;
      rest = front.rest.now;
      one = found;
      long = omega (arith, rest_within input front.normal.items front.rest.now found.spells);
    } in
    record {
      read = record {
        cut = cut;
        is_read = read_of_front g.D.AsnType.meaning input front.normal.items front.rest.now c.as_slice.result.now _ c.in_ok-value-in-Ok.value c.as_slice.ensures.value found.spells cut.long c.in_ok-value-in-Ok.ensures.only;
        as_written = λ v n is. (
          one_cut input _ n cut is.cut,
          (c.in_ok-value-in-Ok.ensures.read v is.is_well_tagged is.of_type is.valid
              (front_in_normal_form g.D.AsnType.meaning input c.as_slice.result.now front.normal.items front.rest.now v n c.as_slice.ensures.value is found)).0,
        );
      };
    }
