use Rattle.std.proofs.Common.{◌≡◌, ◌+◌, ℕ, Bool, List, ◌++◌, add-one, append_assoc}
use Rattle.std.specs.Prelude.{◌||◌}
use Rattle.asn1_certificate_text.specs.Bits.{first_usages, is_set, is_some_set, text_if_set}
use Rattle.asn1_certificate_text.proofs.bits.push_usages.Goals as goal

-- one more bit: the text
further : (old between new : List ℕ) (bits : List Bool) (i : ℕ) (set later : Bool) → between ≡ old ++ first_usages bits i →
    new ≡ between ++ text_if_set set later i → set ≡ is_set bits i → later ≡ is_some_set bits i →
    new ≡ old ++ first_usages bits (i + 1)
further old between new bits i set later before now is was =
    rw (add-one) (cc (append_assoc old (first_usages bits i) (text_if_set (is_set bits i) (is_some_set bits i) i)))

-- and whether one is set
later_still : (bits : List Bool) (i : ℕ) (set later : Bool) → set ≡ is_set bits i → later ≡ is_some_set bits i →
    later || set ≡ is_some_set bits (i + 1)
later_still bits i set later is was = rw (add-one) (cc)

pub loop-i-preserved : goal.loop-i-preserved
loop-i-preserved c =
    let all = c.loop-i.invariant in
    record {
      texts = further _ _ _ c.args.bits.now c.loop-i.i c.is_set-set.result c.loop-i.is_later all.texts c.in_ok-push_if_set.ensures c.is_set-set.ensures all.later;
      later = later_still c.args.bits.now c.loop-i.i c.is_set-set.result c.loop-i.is_later c.is_set-set.ensures all.later;
    }
