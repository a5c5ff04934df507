-- The bytes in a buffer and in a source.
use Rattle.std.specs.Prelude.{ℕ, List, drop, Option, None, Some}
use Rattle.asn1_rules.specs.declared.buffer.Buffer.{Buffer}
use Rattle.asn1_rules.specs.declared.source.Source.{Source}
use Rattle.asn1_rules.specs.declared.source.Source.TheVariants.{Borrowed, Owned}

-- the bytes of a buffer that have not been read
abbrev pub rest_of : Buffer → List ℕ
rest_of buffer = drop buffer.start buffer.bytes.items

-- the bytes that have not been read
abbrev pub unread_in : Source → List ℕ
unread_in (Borrowed bytes) = bytes.now
unread_in (Owned buffer) = rest_of buffer

-- how many bytes that have been read are kept, where there is a buffer
abbrev pub kept_in : Source → Option ℕ
kept_in (Borrowed bytes) = None
kept_in (Owned buffer) = Some buffer.start
