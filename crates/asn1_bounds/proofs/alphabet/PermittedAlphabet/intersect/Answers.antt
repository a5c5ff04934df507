use Rattle.std.proofs.Common.{◌≡◌, ◌∙◌, ap, rules}
use Rattle.std.specs.List.{filter}
use Rattle.std.proofs.lemmas.Fn.{filter_same}
use Rattle.asn1_bounds.specs.Admitted.{is_permitted, common_characters}
use Rattle.asn1_bounds.proofs.AlphabetLaws.{common_characters-members}
use Rattle.asn1_bounds.proofs.alphabet.PermittedAlphabet.intersect.Goals as goal

pub returns-clause-shape : goal.returns-clause-shape
returns-clause-shape c =
    let characters : c.in_ok-characters.characters.items ≡ c.args.self.now = search rules in
    filter_same _ (is_permitted c.args.other.now) _ (λ x b f' k. search rules) _ _ c.retain.ensures.filtered
    ∙ ap (filter (is_permitted c.args.other.now)) characters

pub returns-clause-members : goal.returns-clause-members
returns-clause-members c =
    let shape : c.retain.new.self.items ≡ common_characters c.args.self.now c.args.other.now = returns-clause-shape c in
    λ character. rw shape (common_characters-members c.args.self.now c.args.other.now character)
