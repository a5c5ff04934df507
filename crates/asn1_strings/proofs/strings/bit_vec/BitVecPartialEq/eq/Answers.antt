use Rattle.std.proofs.Common.{subst}
use Rattle.std.proofs.lemmas.Bool.Decides.{Decides-eqb}
use Rattle.std.proofs.lemmas.Slice.Eq.{slice_eq-Decides}
use Rattle.std.specs.Prelude.{◌<◌, ◌^◌, All}
use Rattle.asn1_strings.proofs.OneBits.{below, compared}
use Rattle.asn1_strings.proofs.strings.bit_vec.BitVecPartialEq.eq.Goals as goal

pub returns-then-self-other : goal.returns-then-self-other
returns-then-self-other c =
    let one = c.self.inside in
    let two = c.other.inside in
    let test = slice_eq-Decides Decides-eqb one.octets.items two.octets.items c.eq.result c.eq.ensures in
    compared one.octets.items two.octets.items one.unused two.unused c.args.self.now c.args.other.now c.self.view_is c.other.view_is
    (below one.octets.items (subst (All (λ octet. octet < 2 ^ 8)) c.deref.ensures.value c.units_are_in_range.ensures))
    (below two.octets.items (subst (All (λ octet. octet < 2 ^ 8)) c.deref-2.ensures.value c.units_are_in_range-2.ensures))
    c.self.invariant c.other.invariant c.eq.result
    (λ yes. record { alike = test.0 yes; as_many = c.if-self-other.true }, λ same. test.1 same.alike)

pub returns-else-self-other : goal.returns-else-self-other
returns-else-self-other c =
    let one = c.self.inside in
    let two = c.other.inside in
    let test = Decides-eqb one.unused two.unused in
    compared one.octets.items two.octets.items one.unused two.unused c.args.self.now c.args.other.now c.self.view_is c.other.view_is
    (below one.octets.items (subst (All (λ octet. octet < 2 ^ 8)) c.deref.ensures.value c.units_are_in_range.ensures))
    (below two.octets.items (subst (All (λ octet. octet < 2 ^ 8)) c.deref-2.ensures.value c.units_are_in_range-2.ensures))
    c.self.invariant c.other.invariant _
    (λ yes. absurd (c.if-self-other.false (test.0 yes)), λ same. test.1 same.as_many)
