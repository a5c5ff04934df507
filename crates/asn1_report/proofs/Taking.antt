-- The bytes and lines that a checker has taken.
use Rattle.std.proofs.Common.{◌≡◌, ℕ, suc, Bool, true, false, ◌==◌, ◌+◌, ◌-◌, Option, None, Some, Result, Ok, Err, List, [], ◌∷◌, ◌++◌, length, get_or, take, drop, drop-cons, length-append, length-drop, refl, sym, ap, subst, ◌∙◌, append_assoc, arith}
use Rattle.std.specs.Prelude.{OnOk, option_and_then}
use Rattle.std.specs.Io.KnownBytes.{Appends, Keeps}
use Rattle.memchr.specs.Find.{IsFirstByte, is_byte}
use Rattle.std.proofs.KnownBytes.{Appends-kept, Appends-trans}
use Rattle.std.proofs.lemmas.Bool.{eqb-true}
use Rattle.std.proofs.lemmas.List.{get_or_default, take-append-drop, take_all}
use Rattle.std.proofs.lemmas.List.Sums.{fold_push}
use Rattle.asn1_report.specs.Flattened.{Gives, HasAnswered, flat_state}
use Rattle.asn1_report.specs.Lines.{lines_of, unended, whole_lines, within_limit}
use Rattle.asn1_report.specs.Reading.{Ends, HasNoFeed, HasTaken, Takes, TakesSome}
use Rattle.asn1_report.specs.Report.{State, answer_to, answer_to_end, answers_to, followed_by, start, text_for}
use Rattle.asn1_report.specs.Views.{line_view, state_view}
use Rattle.asn1_report.specs.declared.checker.Checker.{Checker}
use Rattle.asn1_report.specs.declared.line.Line.{Line}
use Rattle.asn1_report.specs.declared.reporter.Reporter.{Reporter}
use Rattle.asn1_report.proofs.Flattening.{answer_to_end-flat, flat_answer}
use Rattle.asn1_report.proofs.Lines.{lines-parts, unended-extended, unended-fed, whole_lines-extended, whole_lines-fed, within_limit-extended}

-- the answers to all lines are those to the lines that have ended, and the one to the last
answers_to_last : (given : List ℕ) →
    answers_to (lines_of given) ≡ followed_by (answers_to (whole_lines given)) (λ s. answer_to s (within_limit (unended given)))
answers_to_last given =
    ap answers_to (lines-parts given)
    ∙ fold_push (λ before line. followed_by before (λ s. answer_to s (within_limit line))) (record { text = []; state = start }) (whole_lines given) (unended given)

-- bytes without a line feed are taken
pub line_extended : (bytes : List ℕ) (written : Option (List ℕ)) (old : Checker) (line : Line) → HasNoFeed bytes →
    line_view line ≡ option_and_then (λ l. within_limit (l ++ bytes)) (line_view old.line) → Takes bytes written written old (record old { line = line })
line_extended bytes written old line none longer = record {
  after = λ given before taken. record {
    line =
        longer
        ∙ (ap (option_and_then (λ l. within_limit (l ++ bytes))) taken.line
        ∙ (within_limit-extended (unended given) bytes ∙ ap within_limit (sym (unended-extended given bytes none))));
    state = taken.state ∙ ap (λ lines. flat_state (answers_to lines).state) (sym (whole_lines-extended given bytes none));
    text = subst (Appends before written) (ap text_for (sym (whole_lines-extended given bytes none))) taken.text;
  };
}

-- a line feed is taken, if the line is answered and the text written
pub line_ended : (old_written new_written : Option (List ℕ)) (old new : Checker) → line_view new.line ≡ Some [] →
    ((s : State) → state_view old.reporter ≡ flat_state s → HasAnswered (answer_to s (line_view old.line)) new.reporter) →
    Appends old_written new_written new.reporter.text.items → Takes (10 ∷ []) old_written new_written old new
line_ended old_written new_written old new empty answer wrote = record {
  after = λ given before taken.
      let s = (answers_to (whole_lines given)).state in
      let lines = whole_lines-fed given in
      let answered = subst (λ line. HasAnswered (answer_to s line) new.reporter) taken.line (answer s taken.state) in
      let all = answers_to_last given in
      record {
        line = empty ∙ ap within_limit (sym (unended-fed given));
        state = answered.state ∙ ap (λ answer. flat_state answer.state) (sym (ap answers_to lines ∙ all));
        text =
            subst (Appends before new_written) (ap (λ answer. answer.text) (sym (ap answers_to lines ∙ all)))
            (Appends-trans before old_written new_written (text_for (whole_lines given)) (answer_to s (within_limit (unended given))).text taken.text
            (subst (Appends old_written new_written) answered.text wrote));
      };
}

-- the input has ended, if the last line and the end are answered and the text written
pub input_ended : (old_written new_written : Option (List ℕ)) (old : Checker) (mid new : Reporter) →
    ((s : State) → state_view old.reporter ≡ flat_state s → HasAnswered (answer_to s (line_view old.line)) mid) →
    Gives (answer_to_end (state_view mid)) mid new → Appends old_written new_written new.text.items → Ends old_written new_written old new.all_understood
input_ended old_written new_written old mid new answer gives wrote = record {
  after = λ given before taken.
      let whole = answers_to (whole_lines given) in
      let line = within_limit (unended given) in
      let last = subst (λ l. HasAnswered (answer_to whole.state l) mid) taken.line (answer whole.state taken.state) in
      let at_end = answer_to_end (answer_to whole.state line).state in
      let end : answer_to_end (state_view mid) ≡ flat_answer at_end = ap answer_to_end last.state ∙ answer_to_end-flat (answer_to whole.state line).state in
      let all = ap (λ answers. followed_by answers answer_to_end) (answers_to_last given) in
      let text : new.text.items ≡ (answer_to whole.state line).text ++ at_end.text = gives.text ∙ (λ i. last.text i ++ (end i).text) in (
        subst (Appends before new_written) (sym (ap (λ answer. answer.text) all ∙ append_assoc whole.text (answer_to whole.state line).text at_end.text))
            (Appends-trans before old_written new_written whole.text ((answer_to whole.state line).text ++ at_end.text) taken.text
            (subst (Appends old_written new_written) text wrote)),
        ap (λ state. state.understood) (gives.state ∙ ap (λ answer. answer.state) end) ∙ ap (λ answer. answer.state.understood) (sym all),
      );
}

-- what holds in any case holds on success
pub on_ok : {T E P : Type 0} (r : Result T E) → P → OnOk r P
on_ok (Ok x) holds = holds
on_ok (Err e) holds = tt

-- known bytes stay as they are
pub Keeps-refl : (w : Option (List ℕ)) → Keeps w w
Keeps-refl None = tt
Keeps-refl (Some bytes) = refl

not_true : (b : Bool) → (b ≡ true → ⊥) → b ≡ false
not_true true never = absurd (never refl)
not_true false never = refl

at_feed : (bytes : List ℕ) (k : ℕ) → IsFirstByte (is_byte 10) bytes (Some k) → bytes ≡ take k bytes ++ 10 ∷ drop (k + 1) bytes
at_feed bytes k found =
    let within = found.0.high in
    let next : suc k ≡ k + 1 = omega arith in
    sym (take-append-drop k bytes)
    ∙ ap (λ rest. take k bytes ++ rest) (drop-cons bytes k 0 within ∙ λ i. eqb-true (get_or bytes k 0) 10 found.1 i ∷ drop (next i) bytes)

-- no line feed at all
pub no_feed_at_all : (bytes : List ℕ) → IsFirstByte (is_byte 10) bytes None → HasNoFeed bytes
no_feed_at_all bytes none = λ k d lt. ap (λ byte. byte == 10) (get_or_default bytes k d 0 lt) ∙ not_true (get_or bytes k 0 == 10) (none k (omega arith) lt)

-- The bytes before the rest are taken.
pub record TakenSoFar (bytes rest : List ℕ) (old_written new_written : Option (List ℕ)) (old new : Checker) : Type 0 where
  pub front : List ℕ
  pub parts : bytes ≡ front ++ rest
  pub accepts : Takes front old_written new_written old new

takes_both : {xs ys : List ℕ} {u v w : Option (List ℕ)} {a b c : Checker} → Takes xs u v a b → Takes ys v w b c → Takes (xs ++ ys) u w a c
takes_both {xs} {ys} {u} {v} {w} {a} {b} {c} first second = record {
  after = λ given before taken.
      subst (λ all. HasTaken all before w c) (append_assoc given xs ys) (second.after (given ++ xs) before (first.after given before taken));
}

-- the rest of a slice from an offset on
slice_from : (n : ℕ) (bytes : List ℕ) → take (length bytes - n) (drop n bytes) ≡ drop n bytes
slice_from n bytes = take_all (length bytes - n) (drop n bytes) (let left = length-drop n bytes in omega arith)

-- a line more
pub line_taken : (bytes rest : List ℕ) (u v w : Option (List ℕ)) (a b c d : Checker) (k : ℕ) → TakenSoFar bytes rest u v a b → IsFirstByte (is_byte 10) rest (Some k) →
    Takes (take k rest) v v b c → Takes (10 ∷ []) v w c d → TakenSoFar bytes (take (length rest - (k + 1)) (drop (k + 1) rest)) u w a d
line_taken bytes rest u v w a b c d k before found piece feed = record {
  front = before.front ++ (take k rest ++ 10 ∷ []);
  parts =
      before.parts
      ∙ (ap (λ all. before.front ++ all)
      (at_feed rest k found ∙ (sym (append_assoc (take k rest) (10 ∷ []) (drop (k + 1) rest)) ∙ ap (λ after. (take k rest ++ 10 ∷ []) ++ after) (sym (slice_from (k + 1) rest))))
      ∙ sym (append_assoc before.front (take k rest ++ 10 ∷ []) (take (length rest - (k + 1)) (drop (k + 1) rest))));
  accepts = takes_both before.accepts (takes_both piece feed);
}

-- the rest, and what was written is handed on
pub all_taken : (bytes rest : List ℕ) (u v w : Option (List ℕ)) (a b c : Checker) → TakenSoFar bytes rest u v a b → Takes rest v v b c → Keeps v w → Takes bytes u w a c
all_taken bytes rest u v w a b c before last kept = record {
  after = λ given before_all taken.
      let all = (takes_both before.accepts last).after given before_all taken in
      subst (λ xs. HasTaken (given ++ xs) before_all w c) (sym before.parts)
      (record { line = all.line; state = all.state; text = Appends-kept before_all v w (text_for (whole_lines (given ++ (before.front ++ rest)))) all.text kept });
}

-- memory runs out
pub some_taken : (bytes rest : List ℕ) (u v w : Option (List ℕ)) (a b : Checker) → TakenSoFar bytes rest u v a b → Keeps v w → TakesSome bytes u w a
some_taken bytes rest u v w a b before kept = record {
  after = λ given before_all taken. record {
    taken = given ++ before.front;
    left = rest;
    parts = ap (λ xs. given ++ xs) before.parts ∙ sym (append_assoc given before.front rest);
    at_most = (let all = ap length before.parts ∙ length-append before.front rest in omega arith);
    text = Appends-kept before_all v w (text_for (whole_lines (given ++ before.front))) (before.accepts.after given before_all taken).text kept;
  };
}
