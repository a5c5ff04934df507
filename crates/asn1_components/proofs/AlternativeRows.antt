-- The rows of a CHOICE's table have the trees and the names of its alternatives.
use Rattle.std.specs.Prelude.{◌≡◌, ℕ, false, List, [], ◌∷◌, ◌++◌, All, Some, map, refl}
use Rattle.std.proofs.Common.{ap, ◌∙◌}
use Rattle.std.proofs.lemmas.List.Elements.{All-nil, All-cons}
use Rattle.std.specs.Option.{option_map}
use Rattle.asn1_tags.specs.Trees.{more}
use Rattle.asn1_model.specs.RecordTables.{Row}
use Rattle.asn1_components.specs.Alternatives.{Alternative, Alternatives, added_trees_of, all_rows, all_of, closed, extensible, row_of, names_of, root_of, table_of, trees_in, trees_of}

trees_of_rows : (alts : List Alternative) → trees_in (map row_of alts) ≡ trees_of alts
trees_of_rows [] = refl
trees_of_rows (a ∷ alts) = ap (more a.type.tree) (trees_of_rows alts)

pub root_rows : (alts : Alternatives) → trees_in (table_of alts).root ≡ trees_of (root_of alts)
root_rows (closed root) = trees_of_rows root
root_rows (extensible root added) = trees_of_rows root

pub added_rows : (alts : Alternatives) →
    option_map trees_in (table_of alts).additions ≡ added_trees_of alts
added_rows (closed root) = refl
added_rows (extensible root added) = ap Some (trees_of_rows added)

abbrev names_in : List Row → List (List ℕ)
names_in ls = map (λ l. l.name) ls

names_of_rows : (alts : List Alternative) → names_in (map row_of alts) ≡ names_of alts
names_of_rows [] = refl
names_of_rows (a ∷ alts) = ap (λ names. a.name ∷ names) (names_of_rows alts)

names_of_both : (root added : List Alternative) →
    names_in (map row_of root ++ map row_of added) ≡ names_of (root ++ added)
names_of_both [] added = names_of_rows added
names_of_both (a ∷ root) added = ap (λ names. a.name ∷ names) (names_of_both root added)

pub names_in_order : (alts : Alternatives) →
    names_in (all_rows (table_of alts)) ≡ names_of (all_of alts)
names_in_order (closed root) = names_of_both root [] ∙ ap names_of (no_more root)
  where
    no_more : (xs : List Alternative) → xs ++ [] ≡ xs
    no_more [] = refl
    no_more (x ∷ xs) = ap (λ rest. x ∷ rest) (no_more xs)
names_in_order (extensible root added) = names_of_both root added

abbrev IsThere : Row → Type 0
IsThere l = l.may_be_absent ≡ false

each_there : (root added : List Alternative) → All IsThere (map row_of root ++ map row_of added)
each_there [] [] = All-nil IsThere
each_there [] (a ∷ added) =
    All-cons IsThere (row_of a) (map row_of added) refl (each_there [] added)
each_there (a ∷ root) added =
    All-cons IsThere (row_of a) (map row_of root ++ map row_of added) refl (each_there root added)

pub always_there : (alts : Alternatives) → All (λ l. l.may_be_absent ≡ false) (all_rows (table_of alts))
always_there (closed root) = each_there root []
always_there (extensible root added) = each_there root added
