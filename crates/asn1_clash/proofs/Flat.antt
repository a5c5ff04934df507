-- The rules on distinct tags look at nothing of a tree but its leaves, and whether a choice of nothing is in it.
use Rattle.std.proofs.Common.{◌≡◌, ℕ, Bool, true, false, ◌==◌, List, [], ◌∷◌, length, map, Option, refl, sym, ap, subst, ◌∙◌, arith}
use Rattle.std.proofs.lemmas.Bool.Decides.{nat_tests}
use Rattle.asn1_tags.specs.Trees.{Tree, leaves, leaves_of, is_open, is_any_open}
use Rattle.asn1_tags.specs.declared.tags.Tag.{Tag}
use Rattle.asn1_tags.proofs.Leaves.{leaf_of}
use Rattle.asn1_fields.specs.CanonicalOrder.{canonical}
use Rattle.asn1_fields.specs.DistinctTags.{IsLeast, IsSequenceClash, IsSetClash, sequence_clash, set_clash}
use Rattle.asn1_fields.specs.FieldViews.{Component}
use Rattle.asn1_fields.proofs.AlikeTables.{look_at, sequence_clash-alike, set_clash-alike, canonical-alike}
use Rattle.asn1_fields.proofs.Clashes.{sequence_clash-is, set_clash-is}
use Rattle.asn1_clash.specs.Flat.{side_by_side, flat_tree, flat, flat_component}

leaves-side_by_side : (ts : List Tag) (e : Bool) → leaves_of (side_by_side ts e) ≡ ts
leaves-side_by_side [] true = refl
leaves-side_by_side [] false = refl
leaves-side_by_side (t ∷ ts) e = ap (λ us. t ∷ us) (leaves-side_by_side ts e)

open-side_by_side : (ts : List Tag) (e : Bool) → is_any_open (side_by_side ts e) ≡ e
open-side_by_side [] true = refl
open-side_by_side [] false = refl
open-side_by_side (t ∷ ts) e = open-side_by_side ts e

-- a flat tree has its leaves
pub leaves-flat_tree : (ts : List Tag) (e : Bool) → leaves (flat_tree ts e) ≡ ts
leaves-flat_tree [] e = refl
leaves-flat_tree (t ∷ ts) e = leaves-side_by_side (t ∷ ts) e

-- and is open if and only if it has an empty choice
pub open-flat_tree : (t : Tag) (ts : List Tag) (e : Bool) → is_open (flat_tree (t ∷ ts) e) ≡ e
open-flat_tree t ts e = open-side_by_side (t ∷ ts) e

pub open-flat : (t : Tree) → is_open (flat t) ≡ is_open t
open-flat t = by_leaves (leaves t) refl (is_open t) refl
  where
    by_leaves : (ts : List Tag) → leaves t ≡ ts → (e : Bool) → is_open t ≡ e → is_open (flat_tree ts e) ≡ e
    by_leaves (l ∷ ts) has e is = open-flat_tree l ts e
    by_leaves [] has true is = refl
    by_leaves [] has false is =
        let some = leaf_of t is in
        absurd (let within = some.1.0 in let short : length (leaves t) ≡ 0 = ap length has in let bound = some.1.1 in omega (arith, bound))

-- an empty choice that is noted, and one that is not
pub open_noted : (ts : List Tag) (e : Bool) → e ≡ true → e ≡ is_open (flat_tree ts e)
open_noted [] e is = is
open_noted (t ∷ ts) e is = sym (open-flat_tree t ts e)

pub open_unnoted : (ts : List Tag) (e : Bool) → e ≡ false → (length ts == 0) ≡ is_open (flat_tree ts e)
open_unnoted [] e is = refl
open_unnoted (t ∷ ts) e is = let none : (length (t ∷ ts) == 0) ≡ false = grind (arith, nat_tests) in none ∙ (sym is ∙ sym (open-flat_tree t ts e))

pub leaves-flat : (t : Tree) → leaves (flat t) ≡ leaves t
leaves-flat t = leaves-flat_tree (leaves t) (is_open t)

-- a component and its flat one look alike to the rules on tags
looks-flat : (cs : List Component) → map look_at (map flat_component cs) ≡ map look_at cs
looks-flat [] = refl
looks-flat (c ∷ cs) = λ i. record { presence = c.presence; leaves = leaves-flat c.tree i; is_open = open-flat c.tree i } ∷ looks-flat cs i

pub sequence_clash-flat : (cs : List Component) → sequence_clash (map flat_component cs) ≡ sequence_clash cs
sequence_clash-flat cs = sequence_clash-alike (map flat_component cs) cs (looks-flat cs)

pub set_clash-flat : (cs : List Component) → set_clash (map flat_component cs) ≡ set_clash cs
set_clash-flat cs = set_clash-alike (map flat_component cs) cs (looks-flat cs)

pub canonical-flat : (cs : List Component) → canonical (map flat_component cs) ≡ canonical cs
canonical-flat cs = canonical-alike (map flat_component cs) cs (looks-flat cs)

-- The search over flat components and the search over the components give one answer, the least clash of both.
pub record Finds (clash : List Component → Option (ℕ × ℕ)) (IsClash : List Component → ℕ → ℕ → Type 0) (seen : List Component) (found : Option (ℕ × ℕ)) : Type 0 where
  pub report : found ≡ clash seen
  pub least : IsLeast (IsClash seen) found
  pub report_of_table : (table : List Component) → seen ≡ map flat_component table → found ≡ clash table
  pub least_of_table : (table : List Component) → seen ≡ map flat_component table → IsLeast (IsClash table) found

finds : (clash : List Component → Option (ℕ × ℕ)) (IsClash : List Component → ℕ → ℕ → Type 0) → ((cs : List Component) → clash (map flat_component cs) ≡ clash cs) →
    ((cs : List Component) → IsLeast (IsClash cs) (clash cs)) → (seen : List Component) (found : Option (ℕ × ℕ)) → found ≡ clash seen → Finds clash IsClash seen found
finds clash IsClash alike is_least seen found is =
    let of_table : (table : List Component) → seen ≡ map flat_component table → found ≡ clash table =
    λ table flattened. is ∙ (ap clash flattened ∙ alike table) in
    record {
      report = is;
      least = subst (IsLeast (IsClash seen)) (sym is) (is_least seen);
      report_of_table = of_table;
      least_of_table = λ table flattened. subst (IsLeast (IsClash table)) (sym (of_table table flattened)) (is_least table);
    }

pub found_in_sequence : (seen : List Component) (found : Option (ℕ × ℕ)) → found ≡ sequence_clash seen → Finds sequence_clash IsSequenceClash seen found
found_in_sequence = finds sequence_clash IsSequenceClash sequence_clash-flat sequence_clash-is

pub found_in_set : (seen : List Component) (found : Option (ℕ × ℕ)) → found ≡ set_clash seen → Finds set_clash IsSetClash seen found
found_in_set = finds set_clash IsSetClash set_clash-flat set_clash-is
