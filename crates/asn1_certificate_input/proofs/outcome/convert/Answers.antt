use Rattle.std.proofs.Common.{◌≡◌, List, Option, [], subst, ℕ}
use Rattle.std.specs.Io.{appended_bytes}
use Rattle.std.specs.Io.KnownBytes.{Appends, Consumes}
use Rattle.asn1_certificate_input.proofs.outcome.convert.Goals as goal

-- What was read into a list that was empty is all that the reader gave.
all_given : (before after : List ℕ) (old new : Option (List ℕ)) → before ≡ [] → Consumes old new (appended_bytes before after) → Consumes old new after
all_given before after old new none given = subst (λ b. Consumes old new (appended_bytes b after)) none given

pub returns-clause-converts : goal.returns-clause-converts
returns-clause-converts g c = record {
  input = c.read_to_end.new.buf.items;
  bytes = c.in-Ok.output.bytes.items;
  read = all_given c.new-input.result.items c.read_to_end.new.buf.items (g.R.Read.remaining c.args.reader.now) (g.R.Read.remaining c.read_to_end.new.self) c.new-input.ensures.items c.read_to_end.ensures.none_lost;
  are_of_input = c.in-Ok.ensures;
  written = subst (Appends (g.W.Write.contents c.args.writer.now) (g.W.Write.contents c.write_bytes.new.writer)) c.as_slice.ensures.value c.in_ok-write_bytes.ensures.written;
}
