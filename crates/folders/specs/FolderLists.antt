-- The lists of the types in the circle of `Folder`, by what it means inside them.
use Rattle.std.specs.Prelude.{[], ◌∷◌, codes}
use Rattle.asn1_circles.specs.Words.{ComponentType, Components, Meaning, addition, constructed_type, context, extensible_sequence, list_meaning, optional, required, sequence, tagged, with_default}
use Rattle.folders.specs.contracts.folder_parts.LinkTextPartMeant.TheImpl.{ghosts as link_text_part}
use Rattle.folders.specs.contracts.folder_parts.FolderOfModePartMeant.TheImpl.{ghosts as folder_of_mode_part}
use Rattle.folders.specs.contracts.folder_parts.FolderOfChangedPartMeant.TheImpl.{ghosts as folder_of_changed_part}
use Rattle.folders.specs.contracts.folder_parts.FolderOfFilesPartMeant.TheImpl.{ghosts as folder_of_files_part}
use Rattle.folders.specs.contracts.folder_parts.FolderOfLabelsPartMeant.TheImpl.{ghosts as folder_of_labels_part}
use Rattle.folders.specs.declared.link.LinkOf.{LinkOf}
use Rattle.folders.specs.declared.folder_of.FolderOf.{FolderOf}

abbrev pub link_has_target : {T : Type 0} → Meaning T → ComponentType (LinkOf T)
link_has_target {T} m = required (codes "target") (λ v. v.target) (tagged (context 0) m)

abbrev pub link_components : {T : Type 0} → Meaning T → Components (LinkOf T)
link_components {T} m = sequence (
    link_has_target m ∷
    optional (codes "text") (λ v. v.text) (tagged (context 1) link_text_part.meaning) ∷ [])

abbrev pub link_meaning : {T : Type 0} → Meaning T → Meaning (LinkOf T)
link_meaning m = constructed_type (codes "Link") (link_components m)

abbrev pub folder_of_has_folders : {T : Type 0} → Meaning T → ComponentType (FolderOf T)
folder_of_has_folders {T} m = required (codes "folders") (λ v. v.folders) (tagged (context 4) (list_meaning m))

abbrev pub folder_of_has_parent : {T : Type 0} → Meaning T → ComponentType (FolderOf T)
folder_of_has_parent {T} m = optional (codes "parent") (λ v. v.parent) (tagged (context 5) (link_meaning m))

abbrev pub folder_of_components : {T : Type 0} → Meaning T → Components (FolderOf T)
folder_of_components {T} m = extensible_sequence (
    required (codes "name") (λ v. v.name) (tagged (context 0) link_text_part.meaning) ∷
    with_default (codes "mode") (λ v. v.mode) 493 (tagged (context 1) folder_of_mode_part.meaning) folder_of_mode_part.equal ∷
    optional (codes "changed") (λ v. v.changed) (tagged (context 2) folder_of_changed_part.meaning) ∷
    required (codes "files") (λ v. v.files) (tagged (context 3) folder_of_files_part.meaning) ∷
    folder_of_has_folders m ∷
    folder_of_has_parent m ∷ []) (
    addition (codes "labels") (λ v. v.labels) (tagged (context 6) folder_of_labels_part.meaning) ∷ [])

abbrev pub folder_of_meaning : {T : Type 0} → Meaning T → Meaning (FolderOf T)
folder_of_meaning m = constructed_type (codes "Folder") (folder_of_components m)
