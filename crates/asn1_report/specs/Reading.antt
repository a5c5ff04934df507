-- How far a check has come in its input.
use Rattle.std.specs.Prelude.{◌≡◌, ◌≤◌, ◌*◌, ℕ, Bool, false, ◌==◌, List, ◌++◌, length, Option, All}
use Rattle.std.specs.Io.KnownBytes.{Appends, Consumes, IsAtEnd}
use Rattle.asn1_report.specs.Flattened.{flat_state}
use Rattle.asn1_report.specs.Lines.{unended, whole_lines, within_limit}
use Rattle.asn1_report.specs.Report.{all_understood, answers_to, report, text_for}
use Rattle.asn1_report.specs.Views.{line_view, state_view}
use Rattle.asn1_report.specs.declared.checker.Checker.{Checker}

-- No byte is a line feed.
abbrev pub HasNoFeed : List ℕ → Type 0
HasNoFeed bytes = All (λ byte. (byte == 10) ≡ false) bytes

-- A checker has taken these bytes. It keeps the line that has not ended and what the answers to the next lines depend on,
-- and the text for the lines that have ended is written after what was written before.
pub record HasTaken (given : List ℕ) (before written : Option (List ℕ)) (checker : Checker) : Type 0 where
  pub line : line_view checker.line ≡ within_limit (unended given)
  pub state : state_view checker.reporter ≡ flat_state (answers_to (whole_lines given)).state
  pub text : Appends before written (text_for (whole_lines given))

-- A checker takes these bytes after all that it has taken before.
pub record Takes (bytes : List ℕ) (old_written new_written : Option (List ℕ)) (old new : Checker) : Type 0 where
  pub after : (given : List ℕ) (before : Option (List ℕ)) → HasTaken given before old_written old →
      HasTaken (given ++ bytes) before new_written new

-- as many bytes as a read gives at most
abbrev pub one_read : ℕ
one_read = 32 * 1024

-- These bytes were taken but for the last ones, at most `most` of them: the text for the lines that ended among
-- those that were taken is written after what was written before.
pub record HasTakenSome (given : List ℕ) (most : ℕ) (before written : Option (List ℕ)) : Type 0 where
  pub taken : List ℕ
  pub left : List ℕ
  pub parts : given ≡ taken ++ left
  pub at_most : length left ≤ most
  pub text : Appends before written (text_for (whole_lines taken))

-- A checker takes some of these bytes, from the first on, after all that it has taken before.
pub record TakesSome (bytes : List ℕ) (old_written new_written : Option (List ℕ)) (old : Checker) : Type 0 where
  pub after : (given : List ℕ) (before : Option (List ℕ)) → HasTaken given before old_written old →
      HasTakenSome (given ++ bytes) (length bytes) before new_written

-- The report on all that a checker has taken is written, and the answer says whether all of it was understood.
pub record Ends (old_written new_written : Option (List ℕ)) (old : Checker) (understood : Bool) : Type 0 where
  pub after : (given : List ℕ) (before : Option (List ℕ)) → HasTaken given before old_written old →
      Appends before new_written (report given) × (understood ≡ all_understood given)

-- The text for the lines that ended among what was read is written.
pub record ReadSoFar (read_old read_new before written : Option (List ℕ)) : Type 0 where
  pub given : List ℕ
  pub took : Consumes read_old read_new given
  pub text : Appends before written (text_for (whole_lines given))

-- All bytes that were read were taken, but some of the last read.
pub record ReadInPart (read_old read_new before written : Option (List ℕ)) : Type 0 where
  pub given : List ℕ
  pub took : Consumes read_old read_new given
  pub some : HasTakenSome given one_read before written

-- All was read: the report on it is written, and the answer says whether all of it was understood.
pub record ReadToEnd (read_old read_new before written : Option (List ℕ)) (understood : Bool) : Type 0 where
  pub given : List ℕ
  pub took : Consumes read_old read_new given
  pub no_more : IsAtEnd read_new
  pub text : Appends before written (report given)
  pub answer : understood ≡ all_understood given
