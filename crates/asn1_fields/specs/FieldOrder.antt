-- The order of presences and of fields.
use Rattle.std.specs.Prelude.{ℕ}
use Rattle.std.specs.Cmp.Lexicographic.{slice_cmp}
use Rattle.std.specs.declared.cmp.Ordering.{Ordering}
use Rattle.std.specs.Ordering.{nat_cmp, on, then_cmp}
use Rattle.asn1_tags.specs.Order.{tree_cmp}
use Rattle.asn1_tags.specs.Tags.{tag_cmp}
use Rattle.asn1_fields.specs.FieldViews.{FieldView}
use Rattle.asn1_fields.specs.declared.presence.FieldPresence.{FieldPresence}
use Rattle.asn1_fields.specs.declared.presence.FieldPresence.TheVariants.{Required, Optional, Default}

-- the index of a presence in the order of presences
abbrev pub presence_number : FieldPresence → ℕ
presence_number Required = 0
presence_number Optional = 1
presence_number Default = 2

-- Presences go as `FieldPresence` lists them.
abbrev pub presence_cmp : FieldPresence → FieldPresence → Ordering
presence_cmp = on presence_number nat_cmp

-- Fields go by their indices, then by their tags, their trees, their presences, and the bytes of their names.
abbrev pub view_cmp : FieldView → FieldView → Ordering
view_cmp =
    then_cmp (on (λ e. e.index) nat_cmp) (
    then_cmp (on (λ e. e.tag) tag_cmp) (
    then_cmp (on (λ e. e.tree) tree_cmp) (
    then_cmp (on (λ e. e.presence) presence_cmp) (
    on (λ e. e.name) (slice_cmp nat_cmp)))))
