use Rattle.asn1_report.proofs.Reading.{all_read, earlier_written, report_written, some_written, understood_said}
use Rattle.asn1_report.proofs.input.check.Goals as goal

pub returns-clause-report : goal.returns-clause-report
returns-clause-report g c = report_written c.read_to_end-answer.result _ _ _ _ _ c.read_to_end-answer.ensures.finished c.flush.ensures.bytes

pub returns-clause-understood : goal.returns-clause-understood
returns-clause-understood g c = understood_said c.read_to_end-answer.result _ _ _ _ c.read_to_end-answer.ensures.finished

pub returns-clause-read : goal.returns-clause-read
returns-clause-read g c = all_read c.read_to_end-answer.result _ _ _ _ c.read_to_end-answer.ensures.finished

pub returns-clause-reading : goal.returns-clause-reading
returns-clause-reading g c = λ is_reading. earlier_written _ _ _ _ _ (c.read_to_end-answer.ensures.reading is_reading) c.flush.ensures.bytes

pub returns-clause-memory : goal.returns-clause-memory
returns-clause-memory g c = λ is_memory. some_written _ _ _ _ _ (c.read_to_end-answer.ensures.memory is_memory) c.flush.ensures.bytes
