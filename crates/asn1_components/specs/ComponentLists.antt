-- Definitions that follow from a list of components.
use Rattle.std.specs.Prelude.{◌≡◌, ◌⊎◌, ℕ, ◌+◌, ⊤, IsPermutation, Bool, true, false, ◌&&◌, IsTrue, List, [], ◌∷◌, ◌++◌, Option, None, Some, IfSome, refl, if◌then◌else◌}
use Rattle.std.proofs.Common.{inl, inr, ap, sym, ◌∙◌, subst}
use Rattle.std.specs.Option.{option_map}
use Rattle.asn1_tags.specs.Tags.{distinct}
use Rattle.asn1_tags.specs.Trees.{Tree, Trees, choice, leaves, none, more}
use Rattle.asn1_model.specs.Composites.{group_records}
use Rattle.asn1_model.specs.Records.{Record, Side, presence_mark, group_start, group_end, group_absent, presence_marks_alone, unmarked}
use Rattle.asn1_model.specs.WellFormed.{AreWellFormed, well_formed_append}
use Rattle.asn1_model.specs.RecordTables.{Row, Table}
use Rattle.asn1_model.specs.Tags.{CHOICE, BeginsWithin, LiesIn, tree_tags, first_tags}
use Rattle.asn1_model.proofs.FirstTags.{begins_before, first_passes, first_stays, alone_append}
use Rattle.asn1_model.proofs.TagSets.{in_first_tree, in_later_trees}
use Rattle.asn1_fields.specs.FieldViews.{Component, FieldView, may_be_absent}
use Rattle.asn1_fields.specs.DistinctTags.{sequence_clash, set_clash}
use Rattle.asn1_fields.specs.declared.presence.FieldPresence.TheVariants.{Optional}
use Rattle.asn1_components.specs.ComponentTypes.{ComponentType, Fits}

-- the records of all, in the order of their definition
abbrev pub all_records : {V : Type 0} → List (ComponentType V) → V → List Record
all_records [] v = []
all_records (c ∷ cs) v = c.records v ++ all_records cs v

-- Records are read as all components, one after another in the order of their definition (X.680, 25).
abbrev pub AreReadInTurn : {V : Type 0} → List (ComponentType V) → V → List Record → Type 0
AreReadInTurn [] v rs = rs ≡ []
AreReadInTurn (c ∷ cs) v rs =
    (first : List Record) × (later : List Record) × c.IsReadAs v first × AreReadInTurn cs v later × (rs ≡ first ++ later)

pub all_read_own : {V : Type 0} (cs : List (ComponentType V)) (v : V) → AreReadInTurn cs v (all_records cs v)
all_read_own [] v = refl
all_read_own (c ∷ cs) v = (c.records v, all_records cs v, c.reads_own v, all_read_own cs v, refl)

-- The same in any order, as the components of a SET come (27). The components that are there tell which are, and not a mark.
abbrev pub AreReadInAnyOrder : {V : Type 0} → List (ComponentType V) → V → List Record → Type 0
AreReadInAnyOrder cs v rs =
    (in_turn : List Record) × AreReadInTurn cs v in_turn × IsPermutation (unmarked rs) (unmarked in_turn)

-- Records are read as a group of additions: the mark that says that it is away; or its components between the marks of one that is
-- there. A group without a component is written as one that is away.
abbrev pub IsReadAsGroup : {W : Type 0} → Table Row → List (ComponentType W) → Option W → List Record → Type 0
IsReadAsGroup table cs None rs = rs ≡ presence_mark (group_absent table) ∷ []
IsReadAsGroup table cs (Some w) rs =
    ((presence_marks_alone (all_records cs w) ≡ true) × (rs ≡ presence_mark (group_absent table) ∷ [])) ⊎
    ((items : List Record) × AreReadInTurn cs w items × (rs ≡ presence_mark (group_start table) ∷ items ++ presence_mark group_end ∷ []))

reads_own_marks : {W : Type 0} (table : Table Row) (cs : List (ComponentType W)) (w : W) (alone : Bool) → presence_marks_alone (all_records cs w) ≡ alone →
    IsReadAsGroup table cs (Some w) (if alone then presence_mark (group_absent table) ∷ [] else presence_mark (group_start table) ∷ all_records cs w ++ presence_mark group_end ∷ [])
reads_own_marks table cs w true alone = inl (alone, refl)
reads_own_marks table cs w false alone = inr (all_records cs w, all_read_own cs w, refl)

pub reads_own_group : {W : Type 0} (table : Table Row) (cs : List (ComponentType W)) (o : Option W) →
    IsReadAsGroup table cs o (group_records table (option_map (all_records cs) o))
reads_own_group table cs None = refl
reads_own_group table cs (Some w) = reads_own_marks table cs w (presence_marks_alone (all_records cs w)) refl

-- the components as the rules on tags see them
abbrev pub tagged_components : {V : Type 0} → List (ComponentType V) → List Component
tagged_components [] = []
tagged_components (c ∷ cs) = record { presence = c.presence; tree = c.tree } ∷ tagged_components cs

-- a component's row in a table, with its index
abbrev pub view_at : {V : Type 0} → ℕ → ComponentType V → FieldView
view_at k c = record { index = k; tag = c.tag; tree = c.tree; presence = c.presence; name = c.name }

-- the rows of all, in the order of the definition; the index of the first is given
abbrev pub views_from : {V : Type 0} → ℕ → List (ComponentType V) → List FieldView
views_from k [] = []
views_from k (c ∷ cs) = view_at k c ∷ views_from (k + 1) cs

-- the trees of all
abbrev pub trees_of : {V : Type 0} → List (ComponentType V) → Trees
trees_of [] = none
trees_of (c ∷ cs) = more c.tree (trees_of cs)

-- some trees, and then others
abbrev pub joined : Trees → Trees → Trees
joined none others = others
joined (more tree trees) others = more tree (joined trees others)

-- the trees of the parts of all
abbrev pub parts_of : {V : Type 0} → List (ComponentType V) → Trees
parts_of [] = none
parts_of (c ∷ cs) = joined c.parts (parts_of cs)

-- the type of each is well tagged
abbrev pub EachIsWellTagged : {V : Type 0} → List (ComponentType V) → Type 0
EachIsWellTagged [] = ⊤
EachIsWellTagged (c ∷ cs) = c.IsWellTagged × EachIsWellTagged cs

-- each may be absent, as additions may (X.680, 25.6)
abbrev pub EachMayBeAbsent : {V : Type 0} → List (ComponentType V) → Type 0
EachMayBeAbsent [] = ⊤
EachMayBeAbsent (c ∷ cs) = IsTrue (may_be_absent c.presence) × EachMayBeAbsent cs

-- each can be on this side of the extension marker
abbrev pub EachCanBeOn : {V : Type 0} → Side → List (ComponentType V) → Type 0
EachCanBeOn side [] = ⊤
EachCanBeOn side (c ∷ cs) = c.CanBeOn side × EachCanBeOn side cs

-- no tag is twice in the tree of one of them, as it could be in that of a group
abbrev pub EachTreeIsDistinct : {V : Type 0} → List (ComponentType V) → Type 0
EachTreeIsDistinct [] = ⊤
EachTreeIsDistinct (c ∷ cs) = IsTrue (distinct (leaves c.tree)) × EachTreeIsDistinct cs

-- each meets its type's invariant
abbrev pub EachIsOfType : {V : Type 0} → List (ComponentType V) → V → Type 0
EachIsOfType [] v = ⊤
EachIsOfType (c ∷ cs) v = c.IsOfType v × EachIsOfType cs v

-- each is valid
abbrev pub EachIsValid : {V : Type 0} → List (ComponentType V) → (List ℕ → Bool) → V → Type 0
EachIsValid [] accepts v = ⊤
EachIsValid (c ∷ cs) accepts v = c.IsValid accepts v × EachIsValid cs accepts v

-- then their records are well formed
pub all_well_formed : {V : Type 0} (cs : List (ComponentType V)) (accepts : List ℕ → Bool) (v : V) →
    EachIsValid cs accepts v → AreWellFormed accepts (all_records cs v)
all_well_formed [] accepts v valid = tt
all_well_formed (c ∷ cs) accepts v valid = well_formed_append accepts (c.records v) (all_records cs v)
    (c.well_formed accepts v valid.0) (all_well_formed cs accepts v valid.1)

-- and so are those of a group of them
well_formed_between : (table : Table Row) (accepts : List ℕ → Bool) (rs : List Record) (b : Bool) →
    AreWellFormed accepts rs →
    AreWellFormed accepts (if b then presence_mark (group_absent table) ∷ [] else presence_mark (group_start table) ∷ rs ++ presence_mark group_end ∷ [])
well_formed_between table accepts rs true are = (tt, tt)
well_formed_between table accepts rs false are =
    (tt, well_formed_append accepts rs (presence_mark group_end ∷ []) are (tt, tt))

pub group_well_formed : {W : Type 0} (table : Table Row) (cs : List (ComponentType W))
    (accepts : List ℕ → Bool) (o : Option W) →
    IfSome o (λ w. EachIsValid cs accepts w × (presence_marks_alone (all_records cs w) ≡ false)) →
    AreWellFormed accepts (group_records table (option_map (all_records cs) o))
group_well_formed table cs accepts None valid = (tt, tt)
group_well_formed table cs accepts (Some w) valid = well_formed_between table accepts (all_records cs w)
    (presence_marks_alone (all_records cs w)) (all_well_formed cs accepts w valid.0)

-- In a SEQUENCE and in a group a component that may be absent shares no tag with those after it, up to and including the
-- next that is always there (X.680, 25.6).
abbrev pub AreDistinctInSequence : {V : Type 0} → List (ComponentType V) → Type 0
AreDistinctInSequence cs = sequence_clash (tagged_components cs) ≡ None

-- the components can be those of a SEQUENCE or a group
abbrev pub CanBeInSequence : {V : Type 0} → List (ComponentType V) → Type 0
CanBeInSequence cs = EachIsWellTagged cs × AreDistinctInSequence cs

-- In a SET no two components share a tag (X.680, 27.3), those of a group among them.
abbrev pub AreDistinctInSet : {V : Type 0} → List (ComponentType V) → Type 0
AreDistinctInSet cs = (set_clash (tagged_components cs) ≡ None) × EachTreeIsDistinct cs

-- The records of components that are not all absent begin with a tag of one of them.
first_or_later : {V : Type 0} (c : ComponentType V) (cs : List (ComponentType V)) (v : V) → presence_marks_alone (all_records (c ∷ cs) v) ≡ false →
    Fits c.presence c.tree (c.records v) →
    (presence_marks_alone (all_records cs v) ≡ false → LiesIn (first_tags (all_records cs v)) (tree_tags (choice (trees_of cs)))) →
    LiesIn (first_tags (all_records (c ∷ cs) v)) (tree_tags (choice (trees_of (c ∷ cs))))
first_or_later c cs v some (inl begins) later =
    subst (λ a. LiesIn a (tree_tags (choice (trees_of (c ∷ cs))))) (sym (first_stays (c.records v) (all_records cs v) begins.some))
    (in_first_tree (first_tags (c.records v)) c.tree (trees_of cs) begins.within)
first_or_later c [] v some (inr absent) later =
    let alone : false ≡ true = sym some ∙ alone_append (c.records v) [] ∙ ap (λ b. b && true) absent.1 in cc
first_or_later c (d ∷ ds) v some (inr absent) later =
    subst (λ a. LiesIn a (tree_tags (choice (trees_of (c ∷ d ∷ ds))))) (sym (first_passes (c.records v) (all_records (d ∷ ds) v) absent.1))
    (in_later_trees (first_tags (all_records (d ∷ ds) v)) c.tree d.tree (trees_of ds)
    (later (sym (alone_append (c.records v) (all_records (d ∷ ds) v) ∙ ap (λ b. b && presence_marks_alone (all_records (d ∷ ds) v)) absent.1) ∙ some)))

begins_with_one : {V : Type 0} (cs : List (ComponentType V)) → EachIsWellTagged cs → (v : V) → presence_marks_alone (all_records cs v) ≡ false →
    LiesIn (first_tags (all_records cs v)) (tree_tags (choice (trees_of cs)))
begins_with_one [] can v some = cc
begins_with_one (c ∷ cs) can v some = first_or_later c cs v some (c.fits can.0 v) (begins_with_one cs can.1 v)

between_marks : (table : Table Row) (tree : Tree) (rs : List Record) (b : Bool) →
    presence_marks_alone rs ≡ b → (presence_marks_alone rs ≡ false → BeginsWithin (tree_tags tree) rs) →
    Fits Optional tree (if b then presence_mark (group_absent table) ∷ [] else presence_mark (group_start table) ∷ rs ++ presence_mark group_end ∷ [])
between_marks table tree rs true e f = inr (refl, refl)
between_marks table tree rs false e f =
    let h = begins_before (tree_tags tree) rs (presence_mark group_end ∷ []) (f e) in
    inl (record { some = h.some; within = h.within })

pub group_fits : {W : Type 0} (table : Table Row) (cs : List (ComponentType W)) →
    EachIsWellTagged cs → (o : Option W) →
    Fits Optional (choice (trees_of cs)) (group_records table (option_map (all_records cs) o))
group_fits table cs can None = inr (refl, refl)
group_fits table cs can (Some w) =
    between_marks table (choice (trees_of cs)) (all_records cs w) (presence_marks_alone (all_records cs w)) refl (λ some.
    record { some = some; within = begins_with_one cs can w some })

-- A group of additions (X.680, 25.1, "ExtensionAdditionGroup"): it has the tags of all of its components, and one that is
-- there writes a component. It has a table of its own. Its marks say no side, so it can also be inside another group.
abbrev pub group_of : {V W : Type 0} → List ℕ → (V → Option W) → Table Row →
    List (ComponentType W) → ComponentType V
group_of name get table cs = record {
  name = name;
  CanBeOn = λ _. ⊤;
  presence = Optional;
  tag = CHOICE;
  tree = choice (trees_of cs);
  parts = parts_of cs;
  records = λ v. group_records table (option_map (all_records cs) (get v));
  IsReadAs = λ v. IsReadAsGroup table cs (get v);
  reads_own = λ v. reads_own_group table cs (get v);
  IsWellTagged = CanBeInSequence cs;
  IsOfType = λ v. IfSome (get v) (EachIsOfType cs);
  IsValid = λ accepts v. IfSome (get v) (λ w. EachIsValid cs accepts w × (presence_marks_alone (all_records cs w) ≡ false));
  fits = λ can v. group_fits table cs can.0 (get v);
  well_formed = λ accepts v. group_well_formed table cs accepts (get v);
}
