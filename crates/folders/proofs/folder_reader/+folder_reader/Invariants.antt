use Rattle.std.proofs.Common.{◌+◌, ◌*◌}
use Rattle.folders.proofs.folder_reader.+folder_reader.Given as goal

abbrev pub decreases-read_folder : goal.decreases-read_folder
decreases-read_folder g l = 2 * g.D.Decoder.reader.depth_left l.decoder.now + 1

abbrev pub decreases-read : goal.decreases-read
decreases-read g l = 2 * l.depth
