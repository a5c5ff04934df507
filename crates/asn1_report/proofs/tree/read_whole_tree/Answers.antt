use Rattle.asn1_report.specs.Grammar.{deepest}
use Rattle.asn1_report.proofs.WholeTrees.{no_tree_of, whole_read}
use Rattle.asn1_report.proofs.tree.read_whole_tree.Goals as goal

pub returns-in-Some : goal.returns-in-Some
returns-in-Some c =
    record { read = whole_read c.is_empty.result deepest c.args.text.now c.in-Some.left.now _ _ c.is_empty.ensures (rw c.in-Some.is at c.in_ok-left.ensures.read) }

pub returns-in-None : goal.returns-in-None
returns-in-None c = record { read = no_tree_of deepest c.args.text.now (rw c.in-None.is at c.in_ok-left.ensures.read) }
