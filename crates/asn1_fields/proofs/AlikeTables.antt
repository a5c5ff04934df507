-- The parts of a component that the rules on tags depend on. Two tables that look alike clash alike, and are in order alike.
use Rattle.std.proofs.Common.{◌≡◌, ℕ, ◌+◌, Bool, true, false, ◌&&◌, ◌||◌, cond, Option, None, List, [], ◌∷◌, map, refl, sym, ap, ◌∙◌}
use Rattle.std.specs.List.{position}
use Rattle.std.specs.Option.{option_map, option_or}
use Rattle.std.specs.Ordering.{is_le}
use Rattle.asn1_tags.specs.Tags.{smallest, tag_cmp}
use Rattle.asn1_tags.specs.Trees.{is_open, leaves}
use Rattle.asn1_tags.specs.Walks.{have_common_tag}
use Rattle.asn1_tags.specs.declared.tags.Tag.{Tag}
use Rattle.asn1_fields.specs.CanonicalOrder.{canonical}
use Rattle.asn1_fields.specs.DistinctTags.{first_clash, rivals, sequence_clash, set_clash, share_tag, up_to_required}
use Rattle.asn1_fields.specs.FieldViews.{Component, may_be_absent}
use Rattle.asn1_fields.specs.declared.presence.FieldPresence.{FieldPresence}
use Rattle.asn1_tags.proofs.ListPositions.{position-map}

-- its presence, the leaves of its tree, and whether a choice of nothing is in the tree
pub record Look : Type 0 where
  pub presence : FieldPresence
  pub leaves : List Tag
  pub is_open : Bool

abbrev pub look_at : Component → Look
look_at c = record { presence = c.presence; leaves = leaves c.tree; is_open = is_open c.tree }

abbrev shares : Look → Look → Bool
shares l m = l.is_open || m.is_open || have_common_tag l.leaves m.leaves

abbrev up_to_required_look : List Look → List Look
up_to_required_look [] = []
up_to_required_look (l ∷ ls) = l ∷ cond (may_be_absent l.presence) (up_to_required_look ls) []

abbrev rival_looks : Look → List Look → List Look
rival_looks l ls = cond (may_be_absent l.presence) (up_to_required_look ls) []

abbrev first_shared : (Look → List Look → List Look) → List Look → Option (ℕ × ℕ)
first_shared others [] = None
first_shared others (l ∷ ls) =
    option_or (option_map (λ j. (0, j + 1)) (position (λ m. shares l m) (others l ls))) (option_map (λ p. (p.0 + 1, p.1 + 1)) (first_shared others ls))

first_clash-looks : (others : Component → List Component → List Component) (seen : Look → List Look → List Look) →
    ((c : Component) (cs : List Component) → map look_at (others c cs) ≡ seen (look_at c) (map look_at cs)) →
    (cs : List Component) → first_clash others cs ≡ first_shared seen (map look_at cs)
first_clash-looks others seen same [] = refl
first_clash-looks others seen same (c ∷ cs) =
    let l = look_at c in
    let here : position (λ d. share_tag c.tree d.tree) (others c cs) ≡ position (λ m. shares l m) (seen l (map look_at cs)) =
    sym (position-map (λ m. shares l m) look_at (others c cs)) ∙ ap (position (λ m. shares l m)) (same c cs) in
    ap (λ o. option_or (option_map (λ j. (0, j + 1)) o) (option_map (λ (p : ℕ × ℕ). (p.0 + 1, p.1 + 1)) (first_clash others cs))) here
    ∙ ap
    (λ o. option_or (option_map (λ j. (0, j + 1)) (position (λ m. shares l m) (seen l (map look_at cs)))) (option_map (λ (p : ℕ × ℕ). (p.0 + 1, p.1 + 1)) o))
    (first_clash-looks others seen same cs)

choose : (b : Bool) (cs : List Component) (ls : List Look) → map look_at cs ≡ ls → map look_at (cond b cs []) ≡ cond b ls []
choose true cs ls e = e
choose false cs ls e = refl

up_to_required-looks : (cs : List Component) → map look_at (up_to_required cs) ≡ up_to_required_look (map look_at cs)
up_to_required-looks [] = refl
up_to_required-looks (c ∷ cs) =
    ap (λ ls. look_at c ∷ ls) (choose (may_be_absent c.presence) (up_to_required cs) (up_to_required_look (map look_at cs)) (up_to_required-looks cs))

rivals-looks : (c : Component) (cs : List Component) → map look_at (rivals c cs) ≡ rival_looks (look_at c) (map look_at cs)
rivals-looks c cs = choose (may_be_absent c.presence) (up_to_required cs) (up_to_required_look (map look_at cs)) (up_to_required-looks cs)

-- components that look alike clash alike
pub sequence_clash-alike : (cs ds : List Component) → map look_at cs ≡ map look_at ds → sequence_clash cs ≡ sequence_clash ds
sequence_clash-alike cs ds alike =
    first_clash-looks rivals rival_looks rivals-looks cs
    ∙ (ap (first_shared rival_looks) alike ∙ sym (first_clash-looks rivals rival_looks rivals-looks ds))

pub set_clash-alike : (cs ds : List Component) → map look_at cs ≡ map look_at ds → set_clash cs ≡ set_clash ds
set_clash-alike cs ds alike =
    first_clash-looks (λ c following. following) (λ l following. following) (λ c cs. refl) cs
    ∙ (ap (first_shared (λ l following. following)) alike ∙ sym (first_clash-looks (λ c following. following) (λ l following. following) (λ c cs. refl) ds))

abbrev canonical_look : List Look → Bool
canonical_look [] = true
canonical_look (l ∷ []) = true
canonical_look (l ∷ (m ∷ ls)) = is_le (tag_cmp (smallest l.leaves) (smallest m.leaves)) && canonical_look (m ∷ ls)

canonical-looks : (cs : List Component) → canonical cs ≡ canonical_look (map look_at cs)
canonical-looks [] = refl
canonical-looks (c ∷ []) = refl
canonical-looks (c ∷ (d ∷ cs)) = ap (λ b. is_le (tag_cmp (smallest (leaves c.tree)) (smallest (leaves d.tree))) && b) (canonical-looks (d ∷ cs))

-- and are in order alike
pub canonical-alike : (cs ds : List Component) → map look_at cs ≡ map look_at ds → canonical cs ≡ canonical ds
canonical-alike cs ds alike = canonical-looks cs ∙ (ap canonical_look alike ∙ sym (canonical-looks ds))
