-- References that are resolved.
use Rattle.std.proofs.Common.{◌≡◌, ◌↔◌, ℕ, List, [], Option, None, Some}
use Rattle.std.specs.List.{All, filter}
use denote.Ref.{Bor}
use Rattle.std.specs.Bool.{Decides}
use Rattle.std.proofs.lemmas.Bool.Decides.{Decides-and, Decides-or}
use Rattle.std.proofs.lemmas.Slice.Eq.{bytes_eq-Decides}
use Rattle.asn1_names.specs.declared.names.DefinedName.{DefinedName}
use Rattle.asn1_names.specs.declared.names.ImportedName.{ImportedName}
use Rattle.asn1_names.specs.declared.names.UsedName.{UsedName}
use Rattle.asn1_names.specs.Definitions.{Defines, is_defined, HasName, has_name}
use Rattle.asn1_names.specs.References.{Provides, provides, ResolvesWith, resolves_with, IsResolved, is_resolved, is_undefined}
use Rattle.asn1_names.specs.Imports.{IsKnown, is_unknown}
use Rattle.asn1_names.proofs.Searches.{any_decides, none_fail}

pub named_decides : (modulereference name : List ℕ) (d : DefinedName) → Decides (has_name modulereference name d) (HasName modulereference name d)
named_decides modulereference name d = Decides-and _ _ (bytes_eq-Decides _ _) (bytes_eq-Decides _ _)

pub defined_decides : (defined : List DefinedName) (modulereference name : List ℕ) → Decides (is_defined defined modulereference name) (Defines defined modulereference name)
defined_decides defined modulereference name = any_decides _ (named_decides modulereference name) defined

pub provides_decides : (defined : List DefinedName) (used : UsedName) (import : ImportedName) → Decides (provides defined used import) (Provides defined used import)
provides_decides defined used import =
    Decides-and _ _ (Decides-and _ _ (bytes_eq-Decides _ _) (bytes_eq-Decides _ _)) (defined_decides defined import.from.now used.name.now)

resolves_decides : (defined : List DefinedName) (imported : List ImportedName) (used : UsedName) (q : Option (Bor (List ℕ))) → Decides (resolves_with defined imported used q) (ResolvesWith defined imported used q)
resolves_decides defined imported used (Some m) = defined_decides defined m.now used.name.now
resolves_decides defined imported used None =
    Decides-or _ _ (defined_decides defined used.module.now used.name.now) (any_decides _ (provides_decides defined used) imported)

pub resolved_decides : (defined : List DefinedName) (imported : List ImportedName) (used : UsedName) → Decides (is_resolved defined imported used) (IsResolved defined imported used)
resolved_decides defined imported used = resolves_decides defined imported used used.qualifier

pub none_undefined : (defined : List DefinedName) (imported : List ImportedName) (used : List UsedName) → (filter (is_undefined defined imported) used ≡ []) ↔ All (IsResolved defined imported) used
none_undefined defined imported used = none_fail _ (resolved_decides defined imported) used

pub none_unknown : (defined : List DefinedName) (imported : List ImportedName) → (filter (is_unknown defined) imported ≡ []) ↔ All (IsKnown defined) imported
none_unknown defined imported = none_fail _ (λ import. defined_decides defined import.from.now import.name.now) imported
