-- Records without the presence marks among them.
use Rattle.std.proofs.Common.{◌≡◌, true, List, [], ◌∷◌, ◌++◌, ap, refl}
use Rattle.asn1_model.specs.Records.{Record, open_type, presence_mark, presence_marks_alone, scalar, scope, unmarked}

-- the marks among records that follow one another
pub unmarked-append : (rs ss : List Record) → unmarked (rs ++ ss) ≡ unmarked rs ++ unmarked ss
unmarked-append [] ss = refl
unmarked-append (scalar t c n x ∷ rs) ss = ap (λ l. scalar t c n x ∷ l) (unmarked-append rs ss)
unmarked-append (scope h inner ∷ rs) ss = ap (λ l. scope h inner ∷ l) (unmarked-append rs ss)
unmarked-append (open_type n bytes ∷ rs) ss = ap (λ l. open_type n bytes ∷ l) (unmarked-append rs ss)
unmarked-append (presence_mark m ∷ rs) ss = unmarked-append rs ss

pub unmarked-last : (rs : List Record) → unmarked rs ≡ unmarked (rs ++ [])
unmarked-last [] = refl
unmarked-last (scalar t c n x ∷ rs) = ap (λ l. scalar t c n x ∷ l) (unmarked-last rs)
unmarked-last (scope h inner ∷ rs) = ap (λ l. scope h inner ∷ l) (unmarked-last rs)
unmarked-last (open_type n bytes ∷ rs) = ap (λ l. open_type n bytes ∷ l) (unmarked-last rs)
unmarked-last (presence_mark m ∷ rs) = unmarked-last rs

-- nothing is left of marks alone
pub unmarked-marks : (rs : List Record) → presence_marks_alone rs ≡ true → unmarked rs ≡ []
unmarked-marks [] alone = refl
unmarked-marks (scalar t c n x ∷ rs) alone = cc
unmarked-marks (scope h inner ∷ rs) alone = cc
unmarked-marks (open_type n bytes ∷ rs) alone = cc
unmarked-marks (presence_mark m ∷ rs) alone = unmarked-marks rs alone
