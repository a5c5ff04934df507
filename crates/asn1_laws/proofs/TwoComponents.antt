-- Two components that are read one after another.
use Rattle.std.proofs.Common.{◌≡◌, max, List, [], ◌++◌, ap, ◌∙◌, append_assoc, append-nil}
use Rattle.asn1_laws.proofs.ReadingSteps.{highest-append}
use Rattle.asn1_model.specs.Records.{Record, highest}

pub one_then_other : (rs ss rest : List Record) → (rs ++ (ss ++ [])) ++ rest ≡ rs ++ (ss ++ rest)
one_then_other rs ss rest = append_assoc rs (ss ++ []) rest ∙ ap (λ l. rs ++ (l ++ rest)) (append-nil ss)

pub highest_of_two : (rs ss : List Record) → highest (rs ++ (ss ++ [])) ≡ max (highest rs) (highest ss)
highest_of_two rs ss = highest-append rs (ss ++ []) ∙ ap (λ l. max (highest rs) (highest l)) (append-nil ss)
