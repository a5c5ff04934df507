use Rattle.std.proofs.Common.{[], false, arith}
use Rattle.asn1_buffers.specs.Encoder.{in_one_order}
use Rattle.asn1_laws.proofs.WritingUpToOrder.{wrote_exactly}
use Rattle.asn1_laws.specs.Writing.{outermost}
use Rattle.asn1_buffers.proofs.encoder.BufferEncoder.new.Goals as goal

pub returns-clause-nothing_written : goal.returns-clause-nothing_written
returns-clause-nothing_written g c =
    wrote_exactly (in_one_order g.B.RecordBuffer.form) (record { alloc = c.args.alloc; limit = c.args.depth; depth_left = c.args.depth; failed = false; buffer = c.new.result; within_limit = search }) (outermost []) (c.new.ensures, omega arith)
