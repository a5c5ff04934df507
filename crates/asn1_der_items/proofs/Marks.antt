-- A presence mark in front changes no bytes.
use Rattle.std.proofs.Common.{ℕ, List, [], ◌∷◌, ◌++◌, refl, ap, subst, sym, ◌∙◌}
use Rattle.asn1_der_items.specs.Bytes.{HaveDer}
use Rattle.asn1_model.specs.Records.{PresenceMark, Record, held, presence_mark}

pub without_mark : (m : PresenceMark) (rs : List Record) (bytes : List ℕ) → HaveDer (held (presence_mark m ∷ rs)) bytes → HaveDer (held rs) bytes
without_mark m rs bytes j = subst (λ b. HaveDer (held rs) b) (sym (j.are ∙ ap (λ f. f ++ j.others) j.is_first)) j.are_others

pub with_mark : (m : PresenceMark) (rs : List Record) (bytes : List ℕ) → HaveDer (held rs) bytes → HaveDer (held (presence_mark m ∷ rs)) bytes
with_mark m rs bytes h = record { first = []; others = bytes; is_first = refl; are_others = h; are = refl }
