use Rattle.std.proofs.Common.{◌<◌, ◌≤◌, ◌∙◌, Some, arith, max, subst, sym, length}
use Rattle.std.proofs.lemmas.List.{length-map}
use Rattle.asn1_tags.specs.Trees.{choice, is_open, none}
use Rattle.asn1_fields.specs.DistinctTags.{IsLeast}
use Rattle.asn1_fields.specs.FieldViews.{Component}
use Rattle.asn1_fields.specs.declared.presence.FieldPresence.TheVariants.{Required}
use Rattle.asn1_clash.specs.Views.{component_view, components_view}
use Rattle.asn1_clash.specs.Occurrences.{HasOpen}
use Rattle.asn1_tags.proofs.ListPositions.{position-map}
use Rattle.asn1_clash.proofs.Occurrences.{none_open, first_open, one_alone}
use Rattle.asn1_clash.proofs.search.pair_with_open.Goals as goal

-- any component
some : Component
some = record { presence = Required; tree = choice none }

pub returns-in_err-open : goal.returns-in_err-open
returns-in_err-open c =
    let fields = c.args.components.now in
    subst (IsLeast (HasOpen (components_view fields))) (sym c.from_residual.ensures)
    (none_open (components_view fields) (position-map (λ d. is_open d.tree) component_view fields ∙ (sym c.index_of_open.ensures ∙ c.in_err-open.was)))

pub returns-then-other-components : goal.returns-then-other-components
returns-then-other-components c =
    let fields = c.args.components.now in
    let open_at = position-map (λ d. is_open d.tree) component_view fields ∙ (sym c.index_of_open.ensures ∙ c.in_ok-open.was) in
    let count = length-map fields component_view in
    let lt = c.if-other-components.true in
    let other = c.max-other.ensures in
    let fits : max c.in_ok-open.open 1 < length (components_view fields) = omega arith in
    subst (λ n. IsLeast (HasOpen (components_view fields)) (Some (0, n))) (sym other) (first_open (components_view fields) c.in_ok-open.open some open_at fits)

pub returns-else-other-components : goal.returns-else-other-components
returns-else-other-components c =
    let fields = c.args.components.now in
    let open_at = position-map (λ d. is_open d.tree) component_view fields ∙ (sym c.index_of_open.ensures ∙ c.in_ok-open.was) in
    let count = length-map fields component_view in
    let le = c.if-other-components.false in
    let other = c.max-other.ensures in
    let few : length (components_view fields) ≤ max c.in_ok-open.open 1 = omega arith in
    one_alone (components_view fields) c.in_ok-open.open some open_at few
