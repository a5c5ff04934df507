-- Messages without an error are of problems without one.
use Rattle.std.proofs.Common.{◌≡◌, Bool, true, false, ◌&&◌, List, [], ◌∷◌, ◌++◌, refl, sym, ◌∙◌, ap}
use Rattle.std.specs.List.{All, AllZip, list_all}
use Rattle.std.specs.List.Sorted.{IsPermutation}
use Rattle.std.proofs.lemmas.List.Elements.{All-cons, All-head, All-nil, All-tail}
use Rattle.std.proofs.lemmas.List.Folds.{list_all-append}
use Rattle.std.proofs.lemmas.List.Sorted.{All-permutation, IsPermutation-sym}
use Rattle.asn1_compilation.specs.Messages.{AreMessagesOf, IsMessageOf, is_warning, accepts}
use Rattle.asn1_compilation.specs.declared.message.Message.{Message}
use Rattle.asn1_module_check.specs.Errors.{IsError}
use Rattle.asn1_resolved.specs.declared.problem.Problem.{Problem}
use Rattle.asn1_resolved.specs.declared.problem.Severity.TheVariants.{Error}
use Rattle.asn1_resolver.specs.Accepted as resolved

-- The problem is a warning.
abbrev pub IsWarning : Problem → Type 0
IsWarning problem = is_warning problem.severity ≡ true

-- both parts of a test that holds
pub first_part : (a b : Bool) → (a && b) ≡ true → a ≡ true
first_part true b both = refl
first_part false b both = cc

pub second_part : (a b : Bool) → (a && b) ≡ true → b ≡ true
second_part true b both = both
second_part false b both = cc

-- a test of both parts
pub both_parts : (a b : Bool) → a ≡ true → b ≡ true → (a && b) ≡ true
both_parts true b first second = second
both_parts false b first second = cc

pub all_warnings : (problems : List Problem) → All IsWarning problems → resolved.accepts problems ≡ true
all_warnings [] warnings = refl
all_warnings (p ∷ ps) warnings =
    both_parts (is_warning p.severity) (resolved.accepts ps) (All-head IsWarning p ps warnings) (all_warnings ps (All-tail IsWarning p ps warnings))

-- each problem of messages without an error is a warning
pub told_warnings : (problems : List Problem) (messages : List Message) → AllZip IsMessageOf problems messages →
    accepts messages ≡ true → All IsWarning problems
told_warnings [] messages told accepted = All-nil IsWarning
told_warnings (p ∷ ps) [] told accepted = absurd told
told_warnings (p ∷ ps) (m ∷ ms) told accepted =
    All-cons IsWarning p ps (ap is_warning (sym told.0.severity) ∙ first_part (is_warning m.severity) (accepts ms) accepted)
    (told_warnings ps ms told.1 (second_part (is_warning m.severity) (accepts ms) accepted))

pub accepted_if_told : (problems : List Problem) (messages : List Message) → AreMessagesOf problems messages →
    accepts messages ≡ true → resolved.accepts problems ≡ true
accepted_if_told problems messages told accepted =
    all_warnings problems (All-permutation IsWarning told.order problems (IsPermutation-sym problems told.order told.all)
    (told_warnings told.order messages told.told accepted))

-- messages in front of others
pub accepted_in_front : (messages others : List Message) → accepts (messages ++ others) ≡ true → accepts messages ≡ true
accepted_in_front messages others accepted =
    first_part (accepts messages) (accepts others) (sym (list_all-append (λ message. is_warning message.severity) messages others) ∙ accepted)

-- problems in front of others
pub warned_in_front : (problems others : List Problem) → resolved.accepts (problems ++ others) ≡ true → resolved.accepts problems ≡ true
warned_in_front problems others accepted =
    first_part (resolved.accepts problems) (resolved.accepts others) (sym (list_all-append (λ problem. is_warning problem.severity) problems others) ∙ accepted)

-- problems that are all errors, between others
pub no_errors : (errors : List Problem) → All IsError errors → resolved.accepts errors ≡ true → errors ≡ []
no_errors [] all accepted = refl
no_errors (p ∷ ps) all accepted =
    let warning : is_warning p.severity ≡ true = first_part (is_warning p.severity) (resolved.accepts ps) accepted in
    let severity : p.severity ≡ Error = All-head IsError p ps all in
    let no_warning : is_warning p.severity ≡ false = ap is_warning severity in cc

pub none_between : (front errors rest : List Problem) → All IsError errors → resolved.accepts (front ++ errors ++ rest) ≡ true → errors ≡ []
none_between front errors rest all accepted =
    let test = λ (problem : Problem). is_warning problem.severity in
    let both : resolved.accepts (front ++ errors) ≡ true =
    first_part (resolved.accepts (front ++ errors)) (resolved.accepts rest) (sym (list_all-append test (front ++ errors) rest) ∙ accepted) in
    no_errors errors all
    (second_part (resolved.accepts front) (resolved.accepts errors) (sym (list_all-append test front errors) ∙ both))
