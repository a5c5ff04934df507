-- Fields are equal, and go, as what they say.
use Rattle.std.proofs.Common.{rules, ◌≡◌, ◌↔◌, ◌∙◌, IsTrue, ap}
use Rattle.std.proofs.lemmas.Bool.Decides.{Decides-and, Decides-eqb, Decides-like}
use Rattle.std.proofs.lemmas.Slice.Eq.{bytes_eq-Decides}
use Rattle.std.specs.Cmp.Lexicographic.{slice_cmp}
use Rattle.std.specs.Ordering.{nat_cmp, ordering_then}
use Rattle.asn1_tags.specs.Order.{tree_cmp}
use Rattle.asn1_tags.specs.Tags.{tag_cmp}
use Rattle.asn1_tags.specs.Trees.{shape}
use Rattle.asn1_tags.proofs.Structures.{same-from_tie, tie-from_same}
use Rattle.asn1_tags.specs.contracts.tags.TagOrd.TheImpl.{ghosts as tag_ord}
use Rattle.asn1_tags.specs.contracts.tags.TagPartialEq.TheImpl.{ghosts as tag_eq}
use Rattle.asn1_tags.specs.declared.tags.Tag.{Tag}
use Rattle.asn1_fields.specs.FieldViews.{view_of}
use Rattle.asn1_fields.specs.FieldOrder.{view_cmp, presence_cmp}
use Rattle.asn1_fields.specs.contracts.field.FieldOrd.TheImpl.{ghosts as field_ord}
use Rattle.asn1_fields.specs.contracts.field.FieldPartialEq.TheImpl.{ghosts as field_eq}
use Rattle.asn1_fields.specs.contracts.presence.FieldPresenceOrd.TheImpl.{ghosts as presence_ord}
use Rattle.asn1_fields.specs.contracts.presence.FieldPresencePartialEq.TheImpl.{ghosts as presence_eq}
use Rattle.asn1_fields.specs.declared.field.Field.{Field}
use Rattle.asn1_fields.specs.declared.presence.FieldPresence.{FieldPresence}

tag_same : (s t : Tag) → IsTrue (tag_eq.eq s t) ↔ (s ≡ t)
tag_same s t = search rules

tag_order : (s t : Tag) → tag_ord.cmp s t ≡ tag_cmp s t
tag_order s t = search rules

presence_same : (p q : FieldPresence) → IsTrue (presence_eq.eq p q) ↔ (p ≡ q)
presence_same p q = search rules

presence_order : (p q : FieldPresence) → presence_ord.cmp p q ≡ presence_cmp p q
presence_order p q = search rules

pub field_order : (f g : Field) → field_ord.cmp f g ≡ view_cmp (view_of f) (view_of g)
field_order f g =
    ap (λ o. ordering_then (nat_cmp f.index g.index) (ordering_then o (ordering_then (tree_cmp (shape f.tag_tree) (shape g.tag_tree))
    (ordering_then (presence_ord.cmp f.presence g.presence) (slice_cmp nat_cmp f.name.now g.name.now))))) (tag_order f.tag g.tag)
    ∙ ap (λ o. ordering_then (nat_cmp f.index g.index) (ordering_then (tag_cmp f.tag g.tag) (ordering_then (tree_cmp (shape f.tag_tree) (shape g.tag_tree))
    (ordering_then o (slice_cmp nat_cmp f.name.now g.name.now))))) (presence_order f.presence g.presence)

all_same : (f g : Field) → f.index ≡ g.index → f.tag ≡ g.tag → shape f.tag_tree ≡ shape g.tag_tree → f.presence ≡ g.presence →
    f.name.now ≡ g.name.now → view_of f ≡ view_of g
all_same f g index tag tree presence name = cc

pub field_same : (f g : Field) → IsTrue (field_eq.eq f g) ↔ (view_of f ≡ view_of g)
field_same f g =
    Decides-like _
    (λ same. all_same f g same.0 same.1.0 same.1.1.0 same.1.1.1.0 same.1.1.1.1)
    (λ e. (ap (λ x. x.index) e, (ap (λ x. x.tag) e, (ap (λ x. x.tree) e, (ap (λ x. x.presence) e, ap (λ x. x.name) e)))))
    (Decides-and _ _ (Decides-eqb f.index g.index)
    (Decides-and _ _ (tag_same f.tag g.tag)
    (Decides-and _ _ (same-from_tie (shape f.tag_tree) (shape g.tag_tree), tie-from_same (shape f.tag_tree) (shape g.tag_tree))
    (Decides-and _ _ (presence_same f.presence g.presence) (bytes_eq-Decides f.name.now g.name.now)))))
