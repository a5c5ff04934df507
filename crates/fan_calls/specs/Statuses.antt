-- The numbers that calls answer to C.
use Rattle.std.specs.Prelude.{ℤ, pos}
use Rattle.fan_calls.specs.declared.status.Status.{Status}
use Rattle.fan_calls.specs.declared.status.Status.TheVariants.{Ok, Fault, Room, Memory, Deep}

-- the call did what its page says
abbrev pub FAN_OK : ℤ
FAN_OK = pos 0

-- the octets are at fault
abbrev pub FAN_FAULT : ℤ
FAN_FAULT = pos 1

-- the result does not fit
abbrev pub FAN_ROOM : ℤ
FAN_ROOM = pos 2

-- memory ran out
abbrev pub FAN_MEMORY : ℤ
FAN_MEMORY = pos 3

-- constructed elements, or scopes of a value, are nested deeper than the call looks
abbrev pub FAN_DEEP : ℤ
FAN_DEEP = pos 4

-- the number of a status
abbrev pub number_of : Status → ℤ
number_of Ok = FAN_OK
number_of Fault = FAN_FAULT
number_of Room = FAN_ROOM
number_of Memory = FAN_MEMORY
number_of Deep = FAN_DEEP
