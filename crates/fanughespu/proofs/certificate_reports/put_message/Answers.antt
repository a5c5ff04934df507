use Rattle.std.proofs.Common.{◌≡◌, inl, inr, refl}
use Rattle.fan_calls.specs.declared.status.Status.TheVariants.{Fault, Memory, Room}
use Rattle.fanughespu.proofs.certificate_reports.put_message.Goals as goal
use Rattle.fanughespu.proofs.certificate_reports.put_message.Goals.{in-Memory, in_default}

-- statuses differ
room_is_no_fault : Room ≡ Fault → ⊥
room_is_no_fault same = cc

room_is_no_memory : Room ≡ Memory → ⊥
room_is_no_memory same = cc

pub returns : goal.returns
returns c =
    let is : c.put.result ≡ Room = elim c.put.ensures.status [ inl ok ↦ absurd (c.in_default-put.not-Ok ok) | inr room ↦ room ] in
    record {
      statuses = inr (inr refl);
      message = λ octets refusal fault. absurd (room_is_no_fault fault);
      no_room = λ octets refusal _. record {
        octets = c.as_bytes.result.now;
        is = inr (record {
          error = c.args.error;
          not_memory = λ memory. elim c.match-matches.branch [ in-Memory w ↦ cc | in_default w ↦ w.in_default.not-Memory memory ];
          refusal = refusal;
        });
        no_room = c.put.ensures.no_room is;
      };
      stays = λ _. (c.put.ensures.no_room is).stays;
      no_size = λ memory. absurd (room_is_no_memory memory);
    }
