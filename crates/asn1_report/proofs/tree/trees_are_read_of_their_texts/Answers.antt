use Rattle.asn1_report.proofs.Respellings.{tree_fits, tree_respelled}
use Rattle.asn1_report.proofs.Spellings.{tree_spelled}
use Rattle.asn1_report.proofs.tree.trees_are_read_of_their_texts.Goals as goal

pub returns : goal.returns
returns c = record { text = tree_spelled; within_limits = tree_fits; read = tree_respelled }
