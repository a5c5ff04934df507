-- The tables of an ENUMERATED type in code, and the items that the iterators over them have left.
use Rattle.std.specs.Prelude.{◌++◌, ℕ, ℤ, List, map}
use Rattle.std.specs.Borrow.{Bor}
use Rattle.std.specs.Slice.Iter.{iter_rest}
use Rattle.asn1_components.specs.Enumerations.{Item, item, values, numbers, names}
use Rattle.asn1_components.specs.declared.iterators.DiscriminantIter.{DiscriminantIter}
use Rattle.asn1_components.specs.declared.iterators.ItemIdentifierIter.{ItemIdentifierIter}
use Rattle.asn1_components.specs.declared.iterators.VariantIter.{VariantIter}

-- a row of a table: a value, its number and its name
abbrev pub ItemRow : Type 0 → Type 0
ItemRow V = V × ℤ × Bor (List ℕ)

-- the item of a row
abbrev pub item_view : {V : Type 0} → ItemRow V → Item V
item_view l = item l.0 l.1 l.2.now

-- the items of a table
abbrev pub table_items : {V : Type 0} → List (ItemRow V) → List (Item V)
table_items rows = map item_view rows

-- the items of a table that is a constant
abbrev pub items_of : {V : Type 0} → List (V × ℤ × record { now : List ℕ }) → List (Item V)
items_of rows = map (λ l. item l.0 l.1 l.2.now) rows

-- the items left in an iterator: over values, over values with their numbers, and over names
abbrev pub variants_left : {V : Type 0} → VariantIter V → List V
variants_left it = values (table_items (iter_rest it.left))

abbrev pub discriminants_left : {V : Type 0} → DiscriminantIter V → List (V × ℤ)
discriminants_left it = numbers (table_items (iter_rest it.left))

abbrev pub identifiers_left : {V : Type 0} → ItemIdentifierIter V → List (List ℕ)
identifiers_left it = names (table_items (iter_rest it.root) ++ table_items (iter_rest it.additions))
