use Rattle.std.proofs.Common.{◌≡◌, refl, rules}
use Rattle.asn1_bounds.specs.Sets.{set_intersection}
use Rattle.asn1_bounds.proofs.SetLaws.{is-intersection}
use Rattle.asn1_bounds.proofs.constraints.Constraints.intersect.Goals as goal

pub returns : goal.returns
returns c =
    let parts : record { value = c.intersect_values.result; size = c.intersect_sizes.result; permitted_alphabet = c.in_ok-permitted_alphabet.permitted_alphabet; extensible = c.if-self.result } ≡ set_intersection c.args.self.now c.args.other.now = search rules in
    let is = is-intersection c.args.self.now c.args.other.now _ parts in
    record { parts = parts; values = is.values; lengths = is.lengths; characters = is.characters; composes = is.composes; without_alphabet = λ _ _. refl }
