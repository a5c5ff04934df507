use Rattle.folders.specs.FolderMeaning.{each_is_valid}
use Rattle.folders.proofs.folder.each_folder_is_valid.Goals as goal

pub returns : goal.returns
returns c = each_is_valid
