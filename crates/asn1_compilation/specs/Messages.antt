-- The messages for problems.
use Rattle.std.specs.Prelude.{◌≡◌, ℕ, ◌==◌, Bool, ◌||◌, if◌then◌else◌, List, ◌++◌, map}
use Rattle.std.specs.Char.{is_ascii_graphic}
use Rattle.std.specs.List.{AllZip, list_all}
use Rattle.std.specs.List.Sorted.{IsPermutation, IsSortedBy}
use Rattle.std.specs.Ordering.{is_lt, nat_cmp, ordering_then}
use Rattle.std.specs.String.{string_bytes}
use Rattle.asn1_compilation.specs.declared.message.Message.{Message}
use Rattle.asn1_resolved.specs.declared.problem.Problem.{Problem}
pub use Rattle.asn1_resolver.specs.Accepted.{is_warning}

-- whether no message is an error
abbrev pub accepts : List Message → Bool
accepts messages = list_all (λ message. is_warning message.severity) messages

-- an octet in a line: one that is no character of ASCII, or none that is seen, becomes a question mark
abbrev pub shown : ℕ → ℕ
shown octet = if is_ascii_graphic octet || (octet == 32) then octet else 63

-- whether a problem is at an earlier place than another: in an earlier text, or before it in the same text
abbrev pub is_before : Problem → Problem → Bool
is_before problem other = is_lt (ordering_then
    (nat_cmp problem.place.text other.place.text)
    (nat_cmp problem.place.span.start other.place.span.start))

-- The message has the severity of the problem, and ends with its text.
pub record IsMessageOf (problem : Problem) (message : Message) : Type 0 where
  pub severity : message.severity ≡ problem.severity
  pub beginning : List ℕ
  pub line : string_bytes message.line ≡ beginning ++ map shown problem.text.items

-- Each problem has one message, and the messages are in the order of the places.
pub record AreMessagesOf (problems : List Problem) (messages : List Message) : Type 0 where
  pub order : List Problem
  pub all : IsPermutation problems order
  pub ascending : IsSortedBy is_before order
  pub told : AllZip IsMessageOf order messages
