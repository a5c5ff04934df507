use Rattle.std.proofs.Common.{true}
use Rattle.asn1_der.proofs.scopes.end_as_written.Goals as goal

pub returns-in-Err : goal.returns-in-Err
returns-in-Err c = λ t before front inside begun is starts. c.write_error_of.ensures.1 (c.in-Err.ensures t true before front inside begun is starts)
