-- Searches in the tables of an enumeration, by number and by name.
use Rattle.std.proofs.Common.{◌≡◌, ℕ, ℤ, Bool, Option, Some, None, List, [], ◌∷◌, ◌++◌, map, refl, sym, ap, ◌∙◌}
use Rattle.std.specs.List.{find, position, slice_get}
use Rattle.std.specs.Option.{option_map}
use Rattle.std.specs.Ordering.{int_eq}
use Rattle.std.proofs.lemmas.Option.{slice_get-map}
use Rattle.asn1_components.specs.Enumerations.{Enumeration, added, items}
use Rattle.asn1_components.specs.LabelLaws.{all_labels_are}
use Rattle.asn1_model.specs.RecordTables.{Label}
use Rattle.asn1_components.specs.Labels.{all_labels, label_of, labels_of, numbers_in}
use Rattle.asn1_components.specs.ItemTables.{ItemRow, item_view, table_items}
use Rattle.asn1_tags.proofs.ListPositions.{position-map}
use Rattle.asn1_components.proofs.ItemSearches.{row_found}
use Rattle.asn1_components.proofs.ListSearches.{find-map}

numbers_of_rows : {V : Type 0} (rows : List (ItemRow V)) → map (λ (l : ItemRow V). l.1) rows ≡ numbers_in (map label_of (table_items rows))
numbers_of_rows [] = refl
numbers_of_rows (l ∷ rows) = ap (λ ns. l.1 ∷ ns) (numbers_of_rows rows)

module _ {V : Type 0} (rows : List (ItemRow V)) (labels : List Label) (are : map label_of (table_items rows) ≡ labels) where
  numbers_are : map (λ (l : ItemRow V). l.1) rows ≡ numbers_in labels
  numbers_are = numbers_of_rows rows ∙ ap numbers_in are

  -- the number of the row at an index is that of the label
  pub number_at_index : (index : ℕ) → option_map (λ (l : ItemRow V). l.1) (slice_get rows index) ≡ slice_get (numbers_in labels) index
  number_at_index index = sym (slice_get-map (λ (l : ItemRow V). l.1) rows index) ∙ ap (λ ns. slice_get ns index) numbers_are

  -- the index of the row of a number is that of the number
  pub index_of_number : (number : ℤ) → position (λ (l : ItemRow V). int_eq l.1 number) rows ≡ position (λ n. int_eq n number) (numbers_in labels)
  index_of_number number =
      sym (position-map (λ n. int_eq n number) (λ (l : ItemRow V). l.1) rows) ∙ ap (position (λ n. int_eq n number)) numbers_are

module _ {V : Type 0} (e : Enumeration V) (p : Label → Bool) (root additions : List (ItemRow V)) (root_is : table_items root ≡ e.root)
    (additions_are : table_items additions ≡ added e) where
  abbrev row : Option (ItemRow V)
  row = find (λ (l : ItemRow V). p (label_of (item_view l))) (root ++ additions)

  label_found : option_map (λ (l : ItemRow V). label_of (item_view l)) row ≡ find p (all_labels (labels_of e))
  label_found =
      of_row row
      ∙ ap (option_map label_of) (row_found e (λ i. p (label_of i)) root additions root_is additions_are)
      ∙ sym (find-map p label_of (items e))
      ∙ ap (find p) (sym (all_labels_are e))
    where
      of_row : (o : Option (ItemRow V)) → option_map (λ (l : ItemRow V). label_of (item_view l)) o ≡ option_map label_of (option_map item_view o)
      of_row None = refl
      of_row (Some l) = refl

  -- the row that is found agrees with the label
  pub part_found : {X : Type 0} (part : Label → X) → option_map (λ (l : ItemRow V). part (label_of (item_view l))) row ≡ option_map part (find p (all_labels (labels_of e)))
  part_found part = by row ∙ ap (option_map part) label_found
    where
      by : (o : Option (ItemRow V)) → option_map (λ (l : ItemRow V). part (label_of (item_view l))) o ≡ option_map part (option_map (λ (l : ItemRow V). label_of (item_view l)) o)
      by None = refl
      by (Some l) = refl
