-- Values of the types in the circle of `Folder` are valid if those inside them are.
use Rattle.std.specs.Prelude.{ℕ, ⊤, All, Bool, List, get_or}
use Rattle.asn1_circles.specs.Words.{Meaning}
use Rattle.folders.specs.Validity.{EachIsValid, if_some_all}
use Rattle.folders.specs.FolderLists.{link_meaning, folder_of_meaning}
use Rattle.folders.specs.declared.link.LinkOf.{LinkOf}
use Rattle.folders.specs.declared.folder_of.FolderOf.{FolderOf}
use Rattle.folders.specs.contracts.file.FileAsnType.TheImpl.{ghosts as file_ghosts}
use Rattle.folders.specs.declared.file.File.{File as file_values}
use Rattle.folders.specs.contracts.label.LabelAsnType.TheImpl.{ghosts as label_ghosts}
use Rattle.folders.specs.declared.label.Label.{Label as label_values}

file_is_valid : (accepts : List ℕ → Bool) (v : file_values) → file_ghosts.meaning.IsValid accepts v
file_is_valid accepts v = (tt, (tt, (if_some_all v.contents (λ _. ⊤) (λ x. tt), tt)))

label_is_valid : (accepts : List ℕ → Bool) (v : label_values) → label_ghosts.meaning.IsValid accepts v
label_is_valid accepts v = (tt, ((λ k0 d0 few0. tt), tt))

pub link_is_valid : {T : Type 0} (m : Meaning T) → EachIsValid m → (accepts : List ℕ → Bool) (v : LinkOf T) → (link_meaning m).IsValid accepts v
link_is_valid m each accepts v = (each accepts v.target, (if_some_all v.text (λ _. ⊤) (λ x. tt), tt))

pub folder_of_is_valid : {T : Type 0} (m : Meaning T) → EachIsValid m → (accepts : List ℕ → Bool) (v : FolderOf T) → (folder_of_meaning m).IsValid accepts v
folder_of_is_valid m each accepts v = (tt, ((λ _. tt), (if_some_all v.changed (λ _. ⊤) (λ x. tt), ((λ k0 d0 few0. file_is_valid accepts (get_or v.files k0 d0)), ((λ k0 d0 few0. each accepts (get_or v.folders.items k0 d0)), (if_some_all v.parent ((link_meaning m).IsValid accepts) (λ x. link_is_valid m each accepts x), (if_some_all v.labels (λ l. All (label_ghosts.meaning.IsValid accepts) l.items) (λ x. λ k0 d0 few0. label_is_valid accepts (get_or x.items k0 d0)), tt)))))))
