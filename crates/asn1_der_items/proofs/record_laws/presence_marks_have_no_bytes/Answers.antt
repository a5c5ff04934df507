use Rattle.asn1_der_items.proofs.Marks.{with_mark, without_mark}
use Rattle.asn1_der_items.proofs.record_laws.presence_marks_have_no_bytes.Goals as goal

pub returns : goal.returns
returns c = λ m rs bytes. (without_mark m rs bytes, with_mark m rs bytes)
