-- Searches in the tables of an enumeration.
use Rattle.std.proofs.Common.{◌≡◌, ℕ, Bool, Option, Some, None, List, ◌++◌, refl, sym, ap, ◌∙◌}
use Rattle.std.specs.List.{find, position, slice_get}
use Rattle.std.specs.Option.{option_map}
use Rattle.std.proofs.lemmas.List.{map-append}
use Rattle.std.proofs.lemmas.Option.{slice_get-map}
use Rattle.asn1_components.specs.Enumerations.{Item, Enumeration, added, items, values}
use Rattle.asn1_components.specs.ItemTables.{ItemRow, item_view, table_items}
use Rattle.asn1_components.proofs.EnumerationFacts.{value_in}
use Rattle.asn1_tags.proofs.ListPositions.{position-map}
use Rattle.asn1_components.proofs.ListSearches.{find-map}

of_item : {V : Type 0} (row : Option (ItemRow V)) → option_map (λ (l : ItemRow V). l.0) row ≡ value_in (option_map item_view row)
of_item (Some l) = refl
of_item None = refl

-- the index of the row that a search finds is that of the item
pub index_found : {V : Type 0} (p : Item V → Bool) (rows : List (ItemRow V)) (table : List (Item V)) (index : Option ℕ) →
    index ≡ position (λ l. p (item_view l)) rows → table_items rows ≡ table → index ≡ position p table
index_found p rows table index found is = found ∙ (sym (position-map p item_view rows) ∙ ap (position p) is)

-- the value of a row is that of its item
pub value_of_row : {V : Type 0} (rows : List (ItemRow V)) (index : ℕ) →
    option_map (λ (l : ItemRow V). l.0) (slice_get rows index) ≡ slice_get (values (table_items rows)) index
value_of_row {V = V} rows index =
    of_item (slice_get rows index)
    ∙ (ap value_in (sym (slice_get-map item_view rows index)) ∙ sym (slice_get-map (λ (i : Item V). i.value) (table_items rows) index))

module _ {V : Type 0} (e : Enumeration V) (p : Item V → Bool) (root additions : List (ItemRow V)) (root_is : table_items root ≡ e.root)
    (additions_are : table_items additions ≡ added e) where
  -- the row that a search finds is that of the item
  pub row_found : option_map item_view (find (λ l. p (item_view l)) (root ++ additions)) ≡ find p (items e)
  row_found =
      sym (find-map p item_view (root ++ additions))
      ∙ ap (find p) (map-append item_view root additions ∙ (ap (λ xs. xs ++ table_items additions) root_is ∙ ap (λ xs. e.root ++ xs) additions_are))

  -- and its value is the item's
  pub value_found : option_map (λ (l : ItemRow V). l.0) (find (λ l. p (item_view l)) (root ++ additions)) ≡ value_in (find p (items e))
  value_found = of_item (find (λ l. p (item_view l)) (root ++ additions)) ∙ ap value_in row_found
