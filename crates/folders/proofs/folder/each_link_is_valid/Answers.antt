use Rattle.folders.specs.FolderMeaning.{each_is_valid, meaning}
use Rattle.folders.specs.FolderValidity.{link_is_valid}
use Rattle.folders.proofs.folder.each_link_is_valid.Goals as goal

pub returns : goal.returns
returns c = link_is_valid meaning each_is_valid
