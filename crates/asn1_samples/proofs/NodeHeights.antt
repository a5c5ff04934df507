-- How high the record of a node is.
use Rattle.std.specs.Prelude.{◌≡◌, ◌+◌, ◌++◌, max, List, [], Option, None, Some, codes, refl, suc}
use Rattle.std.proofs.Common.{ap, ◌∙◌, arith}
use Rattle.std.proofs.Math.Nat.{zero-max}
use Rattle.std.specs.List.{flat_map}
use Rattle.std.specs.Option.{option_map}
use Rattle.std.specs.declared.alloc.Global.{Global}
use Rattle.std.specs.declared.string.String.{String}
use Rattle.asn1_laws.proofs.WritingSteps.{highest-append, highest-holding}
use Rattle.asn1_components.specs.Components.{component_records}
use Rattle.asn1_model.specs.Composites.{list_records, option_records}
use Rattle.asn1_model.specs.ConstraintSets.{unconstrained}
use Rattle.asn1_model.specs.Meaning.{own_records}
use Rattle.asn1_model.specs.Records.{Record, highest, in_root, sequence, sequence_of}
use Rattle.asn1_model.specs.Tags.{universal}
use Rattle.asn1_samples.specs.NodeComponents.{node_agrees, node_components, node_meaning, node_table, text}
use Rattle.asn1_samples.specs.declared.node.Node.{Node, out-Node}

abbrev pub label_records : Option (String Global) → List Record
label_records label = option_records in_root (universal 12) (option_map (own_records text) label)

pub label_height : (label : Option (String Global)) → highest (label_records label) ≡ 0
label_height None = refl
label_height (Some _) = refl

abbrev pub children_records : Node → List Record
children_records n = flat_map (own_records node_meaning) (out-Node n).children.items

-- the components: a SEQUENCE OF the children
pub inside_height : (n : Node) → highest (component_records node_components n) ≡ highest (children_records n) + 1
inside_height n =
    let label = label_records (out-Node n).label in
    let children = list_records (universal 16) unconstrained (Some (codes "SEQUENCE_OF")) (children_records n) in
    highest-append label (children ++ [])
    ∙ ap (λ h. max h (highest children)) (label_height (out-Node n).label)
    ∙ zero-max (highest children)
    ∙ highest-holding (sequence_of (universal 16) unconstrained (Some (codes "SEQUENCE_OF"))) (children_records n)
    ∙ omega arith

-- and a SEQUENCE around them
pub node_height : (n : Node) → highest (own_records node_meaning n) ≡ highest (flat_map (own_records node_meaning) (out-Node n).children.items) + 2
node_height n =
    ap highest (node_agrees.records n (universal 16) unconstrained (Some (codes "Node")))
    ∙ highest-holding (sequence (universal 16) node_table (Some (codes "Node"))) (component_records node_components n)
    ∙ ap suc (inside_height n)
    ∙ omega arith
