use Rattle.std.proofs.Common.{◌≡◌, ◌+◌, ◌-◌, ◌*◌, [], Some, None, slice_index_or, length, drop, take, sym, ◌∙◌, arith}
use Rattle.asn1_der_items.proofs.CutIdentifiers.{after_more, alone, lack_last, last_there, too_many}
use Rattle.asn1_der_items.proofs.base128.read_long_base128.Goals as goal

pub returns-then-octet-lt128-clause-only : goal.returns-then-octet-lt128-clause-only
returns-then-octet-lt128-clause-only c =
    rw c.from.ensures (last_there c.loop-left.number c.args.bytes.now c.loop-left.left.now c.in-len1-up.len_at_least c.if-octet-lt128.true (λ first. (let wrong = c.begins_with_zero.ensures.1 first in cc)) c.loop-left.invariant.same)

pub returns-then-number-limit-clause-completed : goal.returns-then-number-limit-clause-completed
returns-then-number-limit-clause-completed c = λ more f at small.
    let left = c.loop-left.left.now in
    too_many c.args.limit (c.loop-left.number * 128 + (slice_index_or left 0 0 - 128)) c.args.bytes.now (take (length left - 1) (drop 1 left))
    (omega (arith, c.if-number-limit.true, c.from-in-len1-up.ensures))
    (λ behind. after_more c.loop-left.number left behind c.in-len1-up.len_at_least c.if-octet-lt128.false ∙ c.loop-left.invariant.same behind) more f at small

pub returns-then-number-limit-clause-found : goal.returns-then-number-limit-clause-found
returns-then-number-limit-clause-found c = λ f at small. absurd (returns-then-number-limit-clause-completed c [] f (alone c.args.bytes.now f at) small)

pub returns-clause-missing : goal.returns-clause-missing
returns-clause-missing c = λ missing.
    lack_last c.args.limit c.loop-left.number c.args.bytes.now c.loop-left.left.now (omega (arith, c.in_default.len_below)) c.loop-left.invariant.below
    (λ first. (let wrong = c.begins_with_zero.ensures.1 first in cc)) c.loop-left.invariant.same

pub returns-clause-found : goal.returns-clause-found
returns-clause-found c = λ f at small. (let wrong : None ≡ Some f = sym (returns-clause-missing c tt).none ∙ at in cc)
