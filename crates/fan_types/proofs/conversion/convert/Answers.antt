use Rattle.std.proofs.Common.{◌≡◌, List, ℕ, subst}
use Rattle.fan_types.proofs.Numbers.{same_status}
use Rattle.fan_calls.specs.Results.{HasNoRoom, IsPut}
use Rattle.fan_calls.specs.declared.status.Status.TheVariants as status
use Rattle.fan_types.proofs.Converting.{lacks_room, puts}
use Rattle.fan_types.proofs.conversion.convert.Goals as goal

pub returns-in-Ok-convert_value-clause-written : goal.returns-in-Ok-convert_value-clause-written
returns-in-Ok-convert_value-clause-written g c = λ ok.
    puts g.T.AsnType.meaning g.T.PartialEq.eq g.T.Decode.refusals c.args.to c.in-Ok.own.items c.args.octets.now c.in-Ok.ensures.items
    c.in-Ok-convert_value.written c.in-Ok-convert_value.ensures
    (subst (λ (l : List ℕ). IsPut l c.args.out.now c.put.new.buffer c.put.new.size) c.as_slice.ensures.value
    (c.put.ensures.fits (same_status c.put.result status.Ok c.number-in-Ok-convert_value.result c.number-in-Ok-convert_value.ensures ok)))

pub returns-in-Ok-convert_value-clause-no_room : goal.returns-in-Ok-convert_value-clause-no_room
returns-in-Ok-convert_value-clause-no_room g c = λ room.
    lacks_room g.T.AsnType.meaning g.T.PartialEq.eq g.T.Decode.refusals c.args.to c.in-Ok.own.items c.args.octets.now c.in-Ok.ensures.items
    c.in-Ok-convert_value.written c.in-Ok-convert_value.ensures
    (subst (λ (l : List ℕ). HasNoRoom l c.args.out.now c.put.new.buffer c.put.new.size) c.as_slice.ensures.value
    (c.put.ensures.no_room (same_status c.put.result status.Room c.number-in-Ok-convert_value.result c.number-in-Ok-convert_value.ensures room)))
