use Rattle.std.proofs.lemmas.Result.{MatchResult-weaker}
use Rattle.asn1_der_items.proofs.Measuring.{ended, room_last, starts_behind}
use Rattle.asn1_der_items.proofs.elements.end_element.Goals as goal

pub returns : goal.returns
returns c = λ t constructed before front contents begun is at.
    MatchResult-weaker c.write_length.result
    (c.write_length.ensures _ contents begun.room (room_last before front contents begun.identifier c.args.bytes.now.items begun.room begun.are is) (starts_behind before front begun.identifier begun.room c.args.start begun.are at))
    (λ done a. ended t constructed before front contents c.write_length.new.bytes.items begun a)
    (λ e memory. memory)
