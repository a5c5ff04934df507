-- Each node is valid.
use Rattle.std.proofs.Common.{List, [], ◌∷◌, ℕ, Bool}
use Rattle.std.specs.Prelude.{All, IfSome, Option}
use Rattle.std.proofs.lemmas.List.Elements.{All-nil, All-cons}
use Rattle.std.specs.declared.alloc.Global.{Global}
use Rattle.std.specs.declared.string.String.{String}
use Rattle.asn1_samples.specs.NodeComponents.{label_is_valid, labels, node_is_valid, text}
use Rattle.asn1_samples.specs.declared.node.Node.{Node}

labels_valid : (accepts : List ℕ → Bool) (found : List (Option (String Global))) → All (λ label. IfSome label (text.IsValid accepts)) found
labels_valid accepts [] = All-nil (λ label. IfSome label (text.IsValid accepts))
labels_valid accepts (label ∷ rest) = All-cons (λ label. IfSome label (text.IsValid accepts)) label rest (label_is_valid accepts label) (labels_valid accepts rest)

-- by the labels inside it
pub each_node_valid : (n : Node) (accepts : List ℕ → Bool) → node_is_valid accepts n
each_node_valid n accepts = labels_valid accepts (labels n)
