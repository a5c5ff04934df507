use Rattle.std.proofs.Common.{inl, inr}
use Rattle.signals.proofs.request_parts.RequestParts.read.Goals as goal

pub returns-in-Err-clause-refused : goal.returns-in-Err-clause-refused
returns-in-Err-clause-refused g c = inl (search, c.in-Err.ensures.answered)

pub returns-in-Err-read_open-clause-refused : goal.returns-in-Err-read_open-clause-refused
returns-in-Err-read_open-clause-refused g c = inr (inl (search, c.in-Err-read_open.ensures.answered))

pub returns-in-Err-read_open-2-clause-refused : goal.returns-in-Err-read_open-2-clause-refused
returns-in-Err-read_open-2-clause-refused g c = inr (inr (inl (search, c.in-Err-read_open-2.ensures.answered)))
