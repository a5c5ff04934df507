use Rattle.std.proofs.Common.{◌≡◌, ◌+◌, ℕ, List, ◌++◌, length, add-one, append_assoc, ◌∙◌}
use Rattle.std.proofs.lemmas.Grind.{get_or_default_zero}
use Rattle.std.specs.Prelude.{slice_index}
use Rattle.asn1_certificate_text.specs.Escapes.{escaped, escaped_first, is_end}
use Rattle.asn1_certificate_text.proofs.escapes.push_escaped.Goals as goal

-- one more character
further : (old between new cs : List ℕ) (i item : ℕ) → between ≡ old ++ escaped_first cs i →
    new ≡ between ++ escaped (is_end i (length cs)) item → item ≡ slice_index cs i →
    new ≡ old ++ escaped_first cs (i + 1)
further old between new cs i item before now is =
    rw (add-one) (cc (append_assoc old (escaped_first cs i) (escaped (is_end i (length cs)) item)))

pub loop-i-preserved : goal.loop-i-preserved
loop-i-preserved c =
    let item = c.index-characters-i in
    further _ _ _ c.args.characters.now c.loop-i.i item.result c.loop-i.invariant
    (rw c.is_end.ensures at c.in_ok-push_character.ensures)
    (item.is ∙ get_or_default_zero c.args.characters.now c.loop-i.i item.result c.loop-i-test.true)
