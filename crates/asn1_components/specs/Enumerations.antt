-- ENUMERATED types (X.680, clause 20).
use Rattle.std.specs.Prelude.{◌≡◌, ◌≢◌, ◌++◌, ◌<◌, ◌^◌, ℤ, ℕ, pos, Bool, false, List, [], Option, None, Some, AllPairs, length, map, unwrap_or}
use Rattle.std.specs.List.{find}
use Rattle.std.specs.Option.{option_map}

-- An item (20.1): a value, its number and its name.
pub record Item (V : Type 0) : Type 0 where
  pub value : V
  pub number : ℤ
  pub name : List ℕ

-- the item of a value, by its number and its name
abbrev pub item : {V : Type 0} → V → ℤ → List ℕ → Item V
item value number name = record { value = value; number = number; name = name }

-- An enumeration (20.1): the items of its root, and where it has an extension marker, those after the marker.
pub record Enumeration (V : Type 0) : Type 0 where
  pub root : List (Item V)
  pub additions : Option (List (Item V))

-- an enumeration without an extension marker
abbrev pub closed : {V : Type 0} → List (Item V) → Enumeration V
closed root = record { root = root; additions = None }

-- an enumeration with an extension marker, and with these items after it
abbrev pub extensible : {V : Type 0} → List (Item V) → List (Item V) → Enumeration V
extensible root additions = record { root = root; additions = Some additions }

-- the items after the extension marker, none if there is no marker
abbrev pub added : {V : Type 0} → Enumeration V → List (Item V)
added e = unwrap_or e.additions []

-- all items: those of the root, and then those after the extension marker
abbrev pub items : {V : Type 0} → Enumeration V → List (Item V)
items e = e.root ++ added e

-- the values, numbers and names of some items, in order
abbrev pub values : {V : Type 0} → List (Item V) → List V
values is = map (λ i. i.value) is

abbrev pub numbers : {V : Type 0} → List (Item V) → List (V × ℤ)
numbers is = map (λ i. (i.value, i.number)) is

abbrev pub names : {V : Type 0} → List (Item V) → List (List ℕ)
names is = map (λ i. i.name) is

-- Enumerations over the values of a type with the equality `eq`.
module _ {V : Type 0} (eq : V → V → Bool) where
  -- Two items differ in value, in number and in name.
  pub record Differ (i j : Item V) : Type 0 where
    pub value : eq i.value j.value ≡ false
    pub number : i.number ≢ j.number
    pub name : i.name ≢ j.name

  -- The law of a list of items: any two items differ, and the number of items fits in a word of 64 bits.
  pub record IsEnumeration (e : Enumeration V) : Type 0 where
    pub distinct : AllPairs Differ (items e)
    pub fits : length (items e) < 2 ^ 64

  -- the item of a value
  abbrev pub item_of : Enumeration V → V → Option (Item V)
  item_of e v = find (λ i. eq i.value v) (items e)

  -- the number of a value, 0 of one without an item
  abbrev pub number_of : Enumeration V → V → ℤ
  number_of e v = unwrap_or (option_map (λ i. i.number) (item_of e v)) (pos 0)

  -- the name of a value
  abbrev pub name_of : Enumeration V → V → List ℕ
  name_of e v = unwrap_or (option_map (λ i. i.name) (item_of e v)) []
