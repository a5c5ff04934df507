-- Node ::= SEQUENCE { label UTF8String OPTIONAL, children SEQUENCE OF Node }
use Rattle.std.specs.Prelude.{◌≡◌, ◌↔◌, ◌⊎◌, ◌++◌, ℕ, zero, suc, ⊤, Bool, List, [], ◌∷◌, Option, None, Some, IfSome, All, codes, refl}
use Rattle.std.proofs.Common.{ap, inl, inr, sym, ◌∙◌, subst}
use Rattle.std.proofs.lemmas.List.Elements.{All-nil, All-cons}
use Rattle.std.proofs.lemmas.List.Folds.{flat_map-map}
use Rattle.std.specs.List.{flat_map}
use Rattle.std.specs.Option.{option_map}
use Rattle.std.specs.String.{string_bytes}
use Rattle.std.specs.declared.alloc.Global.{Global}
use Rattle.std.specs.declared.string.String.{String}
use Rattle.asn1_components.proofs.ContentsOfValues.{all_own_and_inside}
use Rattle.asn1_components.specs.ComponentLists.{AreReadInTurn, all_read_own, all_well_formed}
use Rattle.asn1_components.specs.Components.{AgreesWithComponents, Components, all_components, component_records, components_with_itself, head_of_kind, holding_itself, inside_itself, is_sequence, sequence, table_with_itself}
use Rattle.asn1_components.specs.ComponentTypes.{optional, required}
use Rattle.asn1_samples.specs.declared.node.Node.{Node, Node-F, out-Node, fold-Node, fold_out-Node}
use Rattle.asn1_model.specs.Composites.{list_records, option_records, sequence_records}
use Rattle.asn1_model.specs.ConstraintSets.{unconstrained}
use Rattle.asn1_model.specs.Kinds.{Inside, list_type, utf8_string}
use Rattle.asn1_model.specs.Meaning.{Meaning, own_records}
use Rattle.asn1_model.specs.Records.{Record, holding, in_root, sequence as sequence_head, sequence_of}
use Rattle.asn1_model.specs.RecordTables.{Row, Table}
use Rattle.asn1_model.specs.TaggedTypes.{untagged}
use Rattle.asn1_model.specs.Tags.{universal}
use Rattle.asn1_model.specs.WellFormed.{AreWellFormed}
use Rattle.asn1_nesting.specs.SomeDepth.{ReadAtSome, elements_at_some, in_turn_at_some, inside_at_some, same_read}

-- what a label means
abbrev pub text : Meaning (String Global)
text = utf8_string string_bytes

-- The components, by the fields of a value, and by what each child means.
abbrev pub components_with : {V X : Type 0} → (V → Node-F X) → Meaning X → Components V
components_with fields child = sequence (
    optional (codes "label") (λ v. (fields v).label) (untagged text) ∷
    required (codes "children") (λ v. (fields v).children) (untagged (list_type (λ children. children.items) unconstrained child)) ∷ [])

-- A node that has been written: the records of its components, which are well formed whatever a codec accepts, since no node
-- holds an open type.
pub record WrittenNode : Type 0 where
  pub records : List Record
  pub well_formed : (accepts : List ℕ → Bool) → AreWellFormed accepts records

-- the table, which is that of any node
abbrev pub node_table : Table Row
node_table = table_with_itself {W = WrittenNode} (codes "Node") is_sequence
    (components_with (λ n. n))

-- a child that has been written
abbrev pub written_child : Meaning WrittenNode
written_child = inside_itself (codes "Node") is_sequence node_table (record {
  records = λ child. child.records;
  AreReadAs = λ child rs. rs ≡ child.records;
  read_own = λ _. refl;
  IsWellTagged = ⊤;
  AreOfType = λ _. ⊤;
  AreValid = λ _ _. ⊤;
  well_formed = λ accepts child _. child.well_formed accepts;
})

-- each label is valid, and so is each child
pub label_is_valid : (accepts : List ℕ → Bool) (label : Option (String Global)) →
    IfSome label (text.IsValid accepts)
label_is_valid accepts None = tt
label_is_valid accepts (Some _) = tt

pub children_are_valid : (accepts : List ℕ → Bool) (children : List WrittenNode) →
    All (written_child.IsValid accepts) children
children_are_valid accepts [] = All-nil (written_child.IsValid accepts)
children_are_valid accepts (child ∷ children) =
    All-cons (written_child.IsValid accepts) child children tt (children_are_valid accepts children)

-- a node is written by its components, where each child has been written
abbrev pub write_node : Node-F WrittenNode → WrittenNode
write_node n = record {
  records = component_records (components_with (λ n. n) written_child) n;
  well_formed = λ accepts. all_well_formed (all_components (components_with (λ n. n) written_child)) accepts n
      (label_is_valid accepts n.label, (children_are_valid accepts n.children.items, tt));
}

abbrev pub written_node : Node → WrittenNode
written_node = fold-Node WrittenNode write_node

-- the records of a node's components
abbrev pub node_records : Node → List Record
node_records n = (written_node n).records

-- the labels of a node and of all nodes inside it
abbrev pub labels : Node → List (Option (String Global))
labels = fold-Node (List (Option (String Global))) (λ n. n.label ∷ flat_map (λ inside. inside) n.children.items)

-- each label that is there meets its type's invariant
abbrev pub node_is_of_type : Node → Type 0
node_is_of_type n = All (λ label. IfSome label text.IsOfType) (labels n)

-- and is valid
abbrev pub node_is_valid : (List ℕ → Bool) → Node → Type 0
node_is_valid accepts n = All (λ label. IfSome label (text.IsValid accepts)) (labels n)

-- Which records are read as the components of a node, its own among them.
pub record NodesRead : Type 1 where
  pub are : Node → List Record → Type 0
  pub own : (n : Node) → are n (node_records n)

-- what is inside a node's record, and the node's components, where each child is a node
abbrev pub inside_by : NodesRead → Inside Node
inside_by read = record {
  records = node_records;
  AreReadAs = read.are;
  read_own = read.own;
  IsWellTagged = ⊤;
  AreOfType = node_is_of_type;
  AreValid = node_is_valid;
  well_formed = λ accepts n _. (written_node n).well_formed accepts;
}

abbrev pub components_by : NodesRead → Components Node
components_by read = components_with_itself (codes "Node") is_sequence (components_with out-Node) (inside_by read)

-- Down to a depth, below which a child's own records alone are read as it; and down to some depth.
abbrev pub read_to : ℕ → NodesRead
read_to zero = record { are = λ n rs. rs ≡ node_records n; own = λ n. refl }
read_to (suc depth) = record {
  are = λ n rs. (read_to depth).are n rs ⊎ AreReadInTurn (all_components (components_by (read_to depth))) n rs;
  own = λ n. inl ((read_to depth).own n);
}

abbrev pub own_inside : Inside Node
own_inside = inside_by (record { are = λ n rs. (depth : ℕ) × (read_to depth).are n rs; own = λ n. (0, refl) })

-- A node's components.
abbrev pub node_components : Components Node
node_components = components_with_itself (codes "Node") is_sequence (components_with out-Node) own_inside

-- The meaning of a node.
abbrev pub node_meaning : Meaning Node
node_meaning = holding_itself (codes "Node") own_inside node_components

node_records_are : (n : Node) → node_records n ≡ component_records node_components n
node_records_are n =
    ap (λ (written : WrittenNode). written.records) (fold_out-Node WrittenNode write_node n)
    ∙ ap (λ children. option_records in_root (universal 12) (option_map (own_records text) (out-Node n).label) ++ (list_records (universal 16) unconstrained (Some (codes "SEQUENCE_OF")) children ++ []))
    (flat_map-map (own_records written_child) written_node (out-Node n).children.items)

-- What is read as a node is read as it down to some depth, and so are its components.
node_at_some : (n : Node) → ReadAtSome (λ depth. (read_to depth).are n) (own_inside.AreReadAs n)
node_at_some n = record { at = λ rs. record { grows = λ _ are. inl are; within = λ depth are. (depth, are); reached = λ are. are } }

components_at_some : (n : Node) → ReadAtSome (λ depth. AreReadInTurn (all_components (components_by (read_to depth))) n) (AreReadInTurn (all_components node_components) n)
components_at_some n = in_turn_at_some same_read (in_turn_at_some
    (inside_at_some (sequence_of (universal 16) unconstrained) (elements_at_some (out-Node n).children.items (λ child. inside_at_some (sequence_head (universal 16) node_table) (node_at_some child)))) same_read)

read_at_depth : (depth : ℕ) (n : Node) (rs : List Record) → (read_to depth).are n rs → AreReadInTurn (all_components node_components) n rs
read_at_depth zero n rs is = subst (AreReadInTurn (all_components node_components) n) (sym (is ∙ node_records_are n)) (all_read_own (all_components node_components) n)
read_at_depth (suc depth) n rs (inl before) = read_at_depth depth n rs before
read_at_depth (suc depth) n rs (inr are) = ((components_at_some n).at rs).within depth are

read_are : (n : Node) (rs : List Record) → own_inside.AreReadAs n rs ↔ AreReadInTurn (all_components node_components) n rs
read_are n rs = (λ (depth, are). read_at_depth depth n rs are, λ are. let (depth, at) = ((components_at_some n).at rs).reached are in (suc depth, inr at))

labels_are : (n : Node) → labels n ≡ (out-Node n).label ∷ flat_map labels (out-Node n).children.items
labels_are n =
    fold_out-Node (List (Option (String Global))) (λ n. n.label ∷ flat_map (λ inside. inside) n.children.items) n
    ∙ ap (λ inside. (out-Node n).label ∷ inside) (flat_map-map (λ inside. inside) labels (out-Node n).children.items)

each_label : (IsSo : Option (String Global) → Type 0) (n : Node) →
    All IsSo (labels n) ↔ (IsSo (out-Node n).label × (All (λ child. All IsSo (labels child)) (out-Node n).children.items × ⊤))
each_label IsSo n =
    subst (λ found. All IsSo found ↔ (IsSo (out-Node n).label × (All (λ child. All IsSo (labels child)) (out-Node n).children.items × ⊤))) (sym (labels_are n))
    (all_own_and_inside IsSo (out-Node n).label labels (out-Node n).children.items)

-- A node means what its components mean.
pub node_agrees : AgreesWithComponents node_components node_meaning
node_agrees = record {
  tree = λ _. refl;
  single = tt;
  present = λ _. refl;
  records = λ v t c n. ap
      (λ components. holding (head_of_kind is_sequence t node_table n) components ∷ [])
      (node_records_are v);
  read = λ v t c rs. (
    λ (n, items, are, is). (n, items, (read_are v items).0 are, is),
    λ (n, items, are, is). (n, items, (read_are v items).1 are, is),
  );
  distinct_tags = λ t. (λ h. h, λ h. h);
  of_type = each_label (λ label. IfSome label text.IsOfType);
  valid = λ accepts. each_label (λ label. IfSome label (text.IsValid accepts));
}

-- Node ::= SEQUENCE { label UTF8String OPTIONAL, children SEQUENCE OF Node }: what a node is to every codec, by what its
-- children are
abbrev pub records_by_children : Node → List Record
records_by_children n = sequence_records (universal 16) node_table (Some (codes "Node")) (
    option_records in_root (universal 12) (option_map (own_records text) (out-Node n).label) ++
    list_records (universal 16) unconstrained (Some (codes "SEQUENCE_OF")) (flat_map (own_records node_meaning) (out-Node n).children.items))
