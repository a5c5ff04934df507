-- The meaning of `Folder`.
use Rattle.std.specs.Prelude.{◌≡◌, ◌↔◌, [], ℕ, Bool, List, Option, None, Some, codes, refl}
use Rattle.std.proofs.Common.{◌∙◌, ap}
use Rattle.asn1_circles.specs.Words.{Components, ComponentsAreRead, IsMadeOf, KnotLaws, KnotOf, Meaning, MeansTheSame, ReadAtSome, Record, Tag, both_at_all, context, each_by, elements_at_some, flat_map-map, head_of_kind, if_some_by, in_root, in_turn_at_some, inner, inside_at_some, is_sequence, itself_at_all, option_at_some, own_records, read_level, rows, same_at_all, same_read, sequence_is_made, sequence_itself, sequence_itself_is_read, sequence_knot, sequence_knot_meaning, sequence_of, type_level, unconstrained, valid_level}
use Rattle.folders.specs.FolderLists.{link_components, link_meaning, folder_of_has_parent, folder_of_components, folder_of_meaning}
use Rattle.folders.specs.Validity.{EachIsValid, ValidRecords, ValueMeaning, all_valid, valid_records, written_valid}
use Rattle.folders.specs.FolderValidity.{folder_of_is_valid}
use Rattle.folders.specs.declared.folder.Folder.{Folder as Knot, Folder-F as Knot-F, out-Folder as out-Knot, fold-Folder as fold-Knot, fold_out-Folder as fold_out-Knot, map-Folder as map-Knot}
use Rattle.folders.specs.declared.link.LinkOf.{LinkOf}
use Rattle.folders.specs.declared.folder_of.FolderOf.{FolderOf}

abbrev pub components : (V : Type 0) → Meaning V → Components (FolderOf V)
components V m = folder_of_components m

-- the value in the box
abbrev pub in_knot : Knot → FolderOf Knot
in_knot v = (out-Knot v).0.value

-- a value inside another, by its records alone
abbrev already : Meaning ValidRecords
already = written_valid (sequence_itself (codes "Folder") is_sequence components)

-- the meaning of the content of a value, by these
abbrev content : FolderOf ValidRecords → ValueMeaning
content = (sequence_knot (codes "Folder") is_sequence components in_knot (λ _. [])).content ValidRecords already

-- the records inside a value, which are well formed
abbrev write : Knot-F ValidRecords → ValidRecords
write f = valid_records (content f.0.value) (λ accepts. folder_of_is_valid already (λ a rs. rs.well_formed a) accepts f.0.value)

abbrev pub folded : Knot → ValidRecords
folded = fold-Knot ValidRecords write

abbrev pub inside : Knot → List Record
inside v = (folded v).records

abbrev pub knot : KnotOf Knot FolderOf
knot = sequence_knot (codes "Folder") is_sequence components in_knot inside

-- a value inside another
abbrev pub within : Meaning Knot
within = inner knot

-- a whole value, with these in place of those inside it
abbrev mapped : Knot-F Knot → FolderOf Knot → FolderOf ValidRecords
mapped f v = (map-Knot Knot ValidRecords folded (record f { 0 = record f.0 { value = v } })).0.value

-- what is read as a value inside another
within_read : (t : Tag) (v : Knot) → ReadAtSome (λ n. (read_level knot n).IsReadAs v t unconstrained) (within.IsReadAs v t unconstrained)
within_read t v = sequence_itself_is_read (codes "Folder") is_sequence components in_knot inside t unconstrained v

link_of_type : (v : LinkOf Knot) → ((n : ℕ) → (link_meaning (type_level knot n)).IsOfType v) ↔ (link_meaning within).IsOfType v
link_of_type v = both_at_all (itself_at_all) (both_at_all (same_at_all) (same_at_all))

folder_of_of_type : (v : FolderOf Knot) → ((n : ℕ) → (folder_of_meaning (type_level knot n)).IsOfType v) ↔ (folder_of_meaning within).IsOfType v
folder_of_of_type v = both_at_all (same_at_all) (both_at_all (same_at_all) (both_at_all (same_at_all) (both_at_all (same_at_all) (both_at_all (each_by (λ n. (type_level knot n).IsOfType) (within.IsOfType) (λ e1. itself_at_all) v.folders.items) (both_at_all (if_some_by (λ n. (link_meaning (type_level knot n)).IsOfType) ((link_meaning within).IsOfType) (λ x. link_of_type x) v.parent) (both_at_all (same_at_all) (same_at_all)))))))

link_valid : (accepts : List ℕ → Bool) (v : LinkOf Knot) → ((n : ℕ) → (link_meaning (valid_level knot n)).IsValid accepts v) ↔ (link_meaning within).IsValid accepts v
link_valid accepts v = both_at_all (itself_at_all) (both_at_all (same_at_all) (same_at_all))

folder_of_valid : (accepts : List ℕ → Bool) (v : FolderOf Knot) → ((n : ℕ) → (folder_of_meaning (valid_level knot n)).IsValid accepts v) ↔ (folder_of_meaning within).IsValid accepts v
folder_of_valid accepts v = both_at_all (same_at_all) (both_at_all (same_at_all) (both_at_all (same_at_all) (both_at_all (same_at_all) (both_at_all (each_by (λ n. (valid_level knot n).IsValid accepts) (within.IsValid accepts) (λ e1. itself_at_all) v.folders.items) (both_at_all (if_some_by (λ n. (link_meaning (valid_level knot n)).IsValid accepts) ((link_meaning within).IsValid accepts) (λ x. link_valid accepts x) v.parent) (both_at_all (same_at_all) (same_at_all)))))))

link_read_inside : (v : LinkOf Knot) → ReadAtSome (λ n. ComponentsAreRead (link_components (read_level knot n)) v) (ComponentsAreRead (link_components within) v)
link_read_inside v = in_turn_at_some (within_read (context 0) v.target) (in_turn_at_some (same_read) (same_read))

link_read : (t : Tag) (v : LinkOf Knot) → ReadAtSome (λ n. (link_meaning (read_level knot n)).IsReadAs v t unconstrained) ((link_meaning within).IsReadAs v t unconstrained)
link_read t v = inside_at_some (head_of_kind is_sequence t (rows (link_components within))) (link_read_inside v)

folder_of_read_inside : (v : FolderOf Knot) → ReadAtSome (λ n. ComponentsAreRead (folder_of_components (read_level knot n)) v) (ComponentsAreRead (folder_of_components within) v)
folder_of_read_inside v = in_turn_at_some (same_read) (in_turn_at_some (same_read) (in_turn_at_some (same_read) (in_turn_at_some (same_read) (in_turn_at_some (inside_at_some (sequence_of (context 4) unconstrained) (elements_at_some v.folders.items (λ e1. within_read within.tag e1))) (in_turn_at_some (option_at_some in_root (context 5) v.parent (λ x. link_read (context 5) x)) (in_turn_at_some (same_read) (same_read)))))))

same_records-parent : (f : Knot-F Knot) (v0 : (FolderOf Knot)) (o : Option (LinkOf Knot)) → (folder_of_has_parent already).records (mapped f ((record v0 { parent = o }))) ≡ (folder_of_has_parent within).records (record v0 { parent = o })
same_records-parent f v0 None = refl
same_records-parent f v0 (Some v1) = refl

same_records : (f : Knot-F Knot) (v : FolderOf Knot) → (write (map-Knot Knot ValidRecords folded (record f { 0 = record f.0 { value = v } }))).records ≡ (knot.content Knot within v).records
same_records f v0 = rw (same_records-parent f v0 v0.parent, flat_map-map (own_records already) folded v0.folders.items) refl

pub laws : KnotLaws knot
laws = record {
  of_type = folder_of_of_type;
  valid_inside = folder_of_valid;
  read_inside = folder_of_read_inside;
  records = λ v. ap (λ rs. rs.records) (fold_out-Knot ValidRecords write v) ∙ same_records (out-Knot v) (out-Knot v).0.value;
}

-- The meaning of the type.
abbrev pub meaning : Meaning Knot
meaning = sequence_knot_meaning (codes "Folder") is_sequence components in_knot inside laws

unrolled : (v : FolderOf Knot) → MeansTheSame (knot.content Knot within v) (knot.content Knot meaning v)
unrolled v = record { records = refl; read = λ _. (λ h. h, λ h. h); of_type = (λ h. h, λ h. h); valid = λ _. (λ h. h, λ h. h) }

-- It is the meaning of what a value is made of.
pub is_made : IsMadeOf in_knot meaning (folder_of_meaning meaning)
is_made = sequence_is_made (codes "Folder") is_sequence components in_knot inside laws refl refl unrolled

-- Each value is valid.
pub each_is_valid : EachIsValid meaning
each_is_valid accepts v n = all_valid knot (λ _ _ _ h. h) (λ a w. (folded w).well_formed a) (λ m. folder_of_is_valid m) n accepts v
