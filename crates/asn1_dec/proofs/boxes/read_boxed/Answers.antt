use Rattle.std.proofs.Common.{refl, Ok, Err}
use Rattle.asn1_dec.proofs.boxes.read_boxed.Goals as goal

pub returns-in-Err : goal.returns-in-Err
returns-in-Err g c = (Err c.in-Err.error, record { shown = _; shows = refl; left = _; met = c.in-Err.ensures; leaves = refl }, refl)

pub returns-in-Ok-new : goal.returns-in-Ok-new
returns-in-Ok-new g c = (Ok c.in-Ok.value, record { shown = _; shows = refl; left = _; met = c.in-Ok.ensures; leaves = refl }, c.in-Ok-new.ensures.ok)

pub returns : goal.returns
returns g c = (Ok c.in-Ok.value, record { shown = _; shows = refl; left = _; met = c.in-Ok.ensures; leaves = refl }, c.from.ensures)
