-- `Folder` and what it is made of are well tagged.
use Rattle.std.proofs.Common.{rules}
use Rattle.asn1_circles.specs.Words.{IsWellTagged}
use Rattle.folders.specs.FolderLists.{folder_of_meaning}
use Rattle.folders.specs.FolderMeaning.{meaning}

pub knot_can : IsWellTagged meaning
knot_can = search rules

pub body_can : IsWellTagged (folder_of_meaning meaning)
body_can = search (rules, knot_can)
