-- The bytes that were read of an input, and the text that is written for them.
use Rattle.std.proofs.Common.{◌≡◌, ◌≤◌, ℕ, Bool, Option, Result, Ok, Err, List, [], ◌++◌, length, take, refl, subst, arith}
use Rattle.std.specs.Prelude.{IfOk, IfSome, OnOk}
use Rattle.std.specs.Io.KnownBytes.{Appends, Consumes, Keeps, IsAtEnd}
use Rattle.std.proofs.KnownBytes.{Appends-kept, Consumes-nil, Consumes-trans, Consumes-kept, Consumes-whole}
use Rattle.std.proofs.lemmas.List.{append-nil}
use Rattle.asn1_report.specs.Lines.{whole_lines}
use Rattle.asn1_report.specs.Reading.{Ends, HasTaken, HasTakenSome, ReadInPart, ReadSoFar, ReadToEnd, Takes, TakesSome, one_read}
use Rattle.asn1_report.specs.Report.{all_understood, report, text_for}
use Rattle.asn1_report.specs.declared.checker.Checker.{Checker}

-- A checker has taken all that was read.
pub record ReadUpTo (read_old read_new before written : Option (List ℕ)) (checker : Checker) : Type 0 where
  pub given : List ℕ
  pub took : Consumes read_old read_new given
  pub taken : HasTaken given before written checker

-- nothing was read yet
pub read_nothing : (r w : Option (List ℕ)) (c : Checker) → HasTaken [] w w c → ReadUpTo r r w w c
read_nothing r w c begun = record { given = []; took = Consumes-nil r; taken = begun }

-- a read gave bytes, which were taken
pub read_more : (r mid_r new_r w mid_w new_w : Option (List ℕ)) (mid new : Checker) (bytes : List ℕ) → ReadUpTo r mid_r w mid_w mid → Consumes mid_r new_r bytes →
    Takes bytes mid_w new_w mid new → ReadUpTo r new_r w new_w new
read_more r mid_r new_r w mid_w new_w mid new bytes before took accepts = record {
  given = before.given ++ bytes;
  took = Consumes-trans r mid_r new_r before.given bytes before.took took;
  taken = accepts.after before.given w before.taken;
}

-- a read gave nothing
pub read_none : (r mid_r new_r w written : Option (List ℕ)) (c : Checker) → ReadUpTo r mid_r w written c → Keeps mid_r new_r → ReadUpTo r new_r w written c
read_none r mid_r new_r w written c before kept = record { given = before.given; took = Consumes-kept r mid_r new_r before.given before.took kept; taken = before.taken }

-- the end is met, and the last text is written
pub read_to_end : (r mid_r new_r w mid_w new_w : Option (List ℕ)) (c : Checker) (understood : Bool) → ReadUpTo r mid_r w mid_w c → Consumes mid_r new_r [] → IsAtEnd new_r →
    Ends mid_w new_w c understood → ReadToEnd r new_r w new_w understood
read_to_end r mid_r new_r w mid_w new_w c understood before took no_more ends =
    let all = ends.after before.given w before.taken in
    record {
      given = before.given;
      took = subst (Consumes r new_r) (append-nil before.given) (Consumes-trans r mid_r new_r before.given [] before.took took);
      no_more = no_more;
      text = all.0;
      answer = all.1;
    }

-- the same where that answered `Ok`
pub read_to_end_if_ok : {E : Type 0} (result : Result Bool E) (r mid_r new_r w mid_w new_w : Option (List ℕ)) (c : Checker) (bytes : List ℕ) (count : ℕ) →
    ReadUpTo r mid_r w mid_w c → Consumes mid_r new_r (take count bytes) → count ≡ 0 → IsAtEnd new_r → IfOk result (Ends mid_w new_w c) → IfOk result (ReadToEnd r new_r w new_w)
read_to_end_if_ok (Err e) r mid_r new_r w mid_w new_w c bytes count before took none no_more ends = tt
read_to_end_if_ok (Ok understood) r mid_r new_r w mid_w new_w c bytes count before took none no_more ends =
    read_to_end r mid_r new_r w mid_w new_w c understood before (subst (λ n. Consumes mid_r new_r (take n bytes)) none took) no_more ends

-- no more than some bytes are left, and these are no more than one read gives
no_more_than_a_read : {given : List ℕ} {before written : Option (List ℕ)} (bytes : List ℕ) → HasTakenSome given (length bytes) before written → length bytes ≤ one_read →
    HasTakenSome given one_read before written
no_more_than_a_read bytes some at_most = record { taken = some.taken; left = some.left; parts = some.parts; at_most = (let here = some.at_most in omega arith); text = some.text }

-- memory runs out at the end
pub read_but_end : (r mid_r new_r w mid_w new_w : Option (List ℕ)) (c : Checker) (bytes : List ℕ) → length bytes ≤ one_read → ReadUpTo r mid_r w mid_w c →
    Consumes mid_r new_r bytes → Keeps mid_w new_w → ReadInPart r new_r w new_w
read_but_end r mid_r new_r w mid_w new_w c bytes at_most before took kept = record {
  given = before.given ++ bytes;
  took = Consumes-trans r mid_r new_r before.given bytes before.took took;
  some = record { taken = before.given; left = bytes; parts = refl; at_most = at_most; text = Appends-kept w mid_w new_w (text_for (whole_lines before.given)) before.taken.text kept };
}

-- or where bytes are taken
pub read_in_part : (r mid_r new_r w mid_w new_w : Option (List ℕ)) (c : Checker) (bytes : List ℕ) → length bytes ≤ one_read → ReadUpTo r mid_r w mid_w c →
    Consumes mid_r new_r bytes → TakesSome bytes mid_w new_w c → ReadInPart r new_r w new_w
read_in_part r mid_r new_r w mid_w new_w c bytes at_most before took accepts = record {
  given = before.given ++ bytes;
  took = Consumes-trans r mid_r new_r before.given bytes before.took took;
  some = no_more_than_a_read bytes (accepts.after before.given w before.taken) at_most;
}

-- At the end of the input the report is written, and the answer says whether all was understood.
pub report_written : {E : Type 0} (result : Result Bool E) (r new_r w mid_w new_w : Option (List ℕ)) → IfOk result (ReadToEnd r new_r w mid_w) → Keeps mid_w new_w →
    OnOk result (IfSome r (λ input. Appends w new_w (report input)))
report_written (Err e) r new_r w mid_w new_w ended kept = tt
report_written (Ok understood) r new_r w mid_w new_w ended kept =
    Consumes-whole r new_r ended.given (λ input. Appends w new_w (report input)) ended.took ended.no_more (Appends-kept w mid_w new_w (report ended.given) ended.text kept)

pub understood_said : {E : Type 0} (result : Result Bool E) (r new_r w new_w : Option (List ℕ)) → IfOk result (ReadToEnd r new_r w new_w) →
    IfOk result (λ understood. IfSome r (λ input. understood ≡ all_understood input))
understood_said (Err e) r new_r w new_w ended = tt
understood_said (Ok understood) r new_r w new_w ended =
    Consumes-whole r new_r ended.given (λ input. understood ≡ all_understood input) ended.took ended.no_more ended.answer

pub all_read : {E : Type 0} (result : Result Bool E) (r new_r w new_w : Option (List ℕ)) → IfOk result (ReadToEnd r new_r w new_w) → OnOk result (IsAtEnd new_r)
all_read (Err e) r new_r w new_w ended = tt
all_read (Ok understood) r new_r w new_w ended = ended.no_more

-- After a failed read the text for the lines that had ended is written.
pub earlier_written : (r new_r w mid_w new_w : Option (List ℕ)) → ReadSoFar r new_r w mid_w → Keeps mid_w new_w →
    (given : List ℕ) × Consumes r new_r given × Appends w new_w (text_for (whole_lines given))
earlier_written r new_r w mid_w new_w so_far kept = (
  so_far.given,
  so_far.took,
  Appends-kept w mid_w new_w (text_for (whole_lines so_far.given)) so_far.text kept,
)

-- and where memory ran out, that for the first of them.
pub some_written : (r new_r w mid_w new_w : Option (List ℕ)) → ReadInPart r new_r w mid_w → Keeps mid_w new_w →
    (given : List ℕ) × (more : List ℕ) × Consumes r new_r (given ++ more) × (length more ≤ one_read) × Appends w new_w (text_for (whole_lines given))
some_written r new_r w mid_w new_w part kept = (
  part.some.taken,
  part.some.left,
  subst (Consumes r new_r) part.some.parts part.took,
  part.some.at_most,
  Appends-kept w mid_w new_w (text_for (whole_lines part.some.taken)) part.some.text kept,
)
