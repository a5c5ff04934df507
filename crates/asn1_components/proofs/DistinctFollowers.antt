-- The law of component lists: what follows a component that may be absent does not begin with one of its tags.
use Rattle.std.proofs.Common.{◌≡◌, ℕ, suc, ◌+◌, Bool, true, false, ◌&&◌, cond, List, [], ◌∷◌, ◌++◌, Option, None, Some, inl, inr, refl, ap, sym, ◌∙◌, subst, append_assoc, arith}
use Rattle.std.specs.Prelude.{⊤}
use Rattle.std.specs.List.{position, slice_get}
use Rattle.std.specs.Option.{option_map, option_or}
use Rattle.std.proofs.lemmas.Bool.{false≢true}
use Rattle.asn1_tags.specs.declared.tags.Tag.{Tag}
use Rattle.asn1_tags.specs.Trees.{Tree, choice}
use Rattle.asn1_model.specs.Records.{Record}
use Rattle.asn1_model.specs.Tags.{Has, ShareNone, among, tree_tags, first_tags}
use Rattle.asn1_fields.specs.DistinctTags.{share_tag, rivals, up_to_required, first_clash, sequence_clash, set_clash}
use Rattle.asn1_fields.specs.FieldViews.{Component, may_be_absent}
use Rattle.asn1_tags.proofs.ListPositions.{position-missing}
use Rattle.asn1_fields.proofs.SharedTags.{test-from_ShareTag}
use Rattle.asn1_model.proofs.FirstTags.{first_passes, first_stays}
use Rattle.asn1_model.proofs.TagSets.{apart_within, lies_has, lies_itself, in_first_tree, in_later_trees}
use Rattle.asn1_components.specs.ComponentLists.{all_records, tagged_components, trees_of, CanBeInSequence, EachIsWellTagged}
use Rattle.asn1_components.specs.ComponentTypes.{ComponentType, Fits}
use Rattle.asn1_components.specs.Following.{BeginsApart, When, records_then, all_may_be_absent, EndsApart, EachApart, ApartFromEach, AllApart}

-- trees of which the test says that they share no tag
apart_by_test : (s t : Tree) → share_tag s t ≡ false → ShareNone (tree_tags s) (tree_tags t)
apart_by_test s t differ tag of_first of_second = false≢true (sym differ ∙ test-from_ShareTag s t (record { tag = tag; of_first = of_first; of_second = of_second }))

-- the tree shares no tag with the components, up to and including the next that is always there
abbrev ApartFrom : {V : Type 0} → Tree → List (ComponentType V) → Type 0
ApartFrom tree [] = ⊤
ApartFrom tree (c ∷ cs) = ShareNone (tree_tags tree) (tree_tags c.tree) × When (may_be_absent c.presence) (ApartFrom tree cs)

when_then : (b : Bool) (P : Type 0) → (b ≡ true → P) → When b P
when_then true P f = f refl
when_then false P f = tt

apart_from : {V : Type 0} (tree : Tree) (cs : List (ComponentType V)) →
    ((k : ℕ) (d : Component) → slice_get (up_to_required (tagged_components cs)) k ≡ Some d → share_tag tree d.tree ≡ false) → ApartFrom tree cs
apart_from tree [] unshared = tt
apart_from tree (c ∷ cs) unshared = (
  apart_by_test tree c.tree (unshared 0 (record { presence = c.presence; tree = c.tree }) refl),
  when_then (may_be_absent c.presence) (ApartFrom tree cs) (λ absent. apart_from tree cs (λ k d at.
      unshared (suc k) d (ap (λ b. slice_get (cond b (up_to_required (tagged_components cs)) []) k) absent ∙ at))),
)

apart_from_each : {V : Type 0} (tree : Tree) (cs : List (ComponentType V)) →
    ((k : ℕ) (d : Component) → slice_get (tagged_components cs) k ≡ Some d → share_tag tree d.tree ≡ false) → ApartFromEach tree cs
apart_from_each tree [] unshared = tt
apart_from_each tree (c ∷ cs) unshared = (
  apart_by_test tree c.tree (unshared 0 (record { presence = c.presence; tree = c.tree }) refl),
  apart_from_each tree cs (λ k d at. unshared (suc k) d at),
)

first_none : (a b : Option (ℕ × ℕ)) → option_or a b ≡ None → (a ≡ None) × (b ≡ None)
first_none None b e = (refl, e)
first_none (Some p) b e = cc

map_none : {X Y : Type 0} (f : X → Y) (o : Option X) → option_map f o ≡ None → o ≡ None
map_none f None e = refl
map_none f (Some x) e = cc

-- no clash at the first index, and none after it
no_clash_parts : (others : Component → List Component → List Component) (c : Component) (cs : List Component) → first_clash others (c ∷ cs) ≡ None →
    ((k : ℕ) (d : Component) → slice_get (others c cs) k ≡ Some d → share_tag c.tree d.tree ≡ false) × (first_clash others cs ≡ None)
no_clash_parts others c cs e =
    let both = first_none (option_map (λ j. (0, j + 1)) (position (λ d. share_tag c.tree d.tree) (others c cs))) (option_map (λ q. (q.0 + 1, q.1 + 1)) (first_clash others cs)) e in (
      λ k d at. position-missing (λ d. share_tag c.tree d.tree) (others c cs) k d (map_none (λ j. (0, j + 1)) (position (λ d. share_tag c.tree d.tree) (others c cs)) both.0) at,
      map_none (λ q. (q.0 + 1, q.1 + 1)) (first_clash others cs) both.1,
    )

abbrev Distinct : {V : Type 0} → List (ComponentType V) → Type 0
Distinct [] = ⊤
Distinct (c ∷ cs) = When (may_be_absent c.presence) (ApartFrom c.tree cs) × Distinct cs

distinct_by_test : {V : Type 0} (cs : List (ComponentType V)) → sequence_clash (tagged_components cs) ≡ None → Distinct cs
distinct_by_test [] e = tt
distinct_by_test (c ∷ cs) e =
    let parts = no_clash_parts rivals (record { presence = c.presence; tree = c.tree }) (tagged_components cs) e in (
      when_then (may_be_absent c.presence) (ApartFrom c.tree cs) (λ absent. apart_from c.tree cs (λ k d at.
          parts.0 k d (ap (λ b. slice_get (cond b (up_to_required (tagged_components cs)) []) k) absent ∙ at))),
      distinct_by_test cs parts.1,
    )

-- The law of a SET.
pub set_apart : {V : Type 0} (cs : List (ComponentType V)) → set_clash (tagged_components cs) ≡ None → AllApart cs
set_apart [] e = tt
set_apart (c ∷ cs) e =
    let parts = no_clash_parts (λ d after. after) (record { presence = c.presence; tree = c.tree }) (tagged_components cs) e in
    (apart_from_each c.tree cs parts.0, set_apart cs parts.1)

passes_or_stays : (tree : Tree) {V : Type 0} (c : ComponentType V) (v : V) (rest : List Record) → ShareNone (tree_tags tree) (tree_tags c.tree) → Fits c.presence c.tree (c.records v) →
    When (may_be_absent c.presence) (BeginsApart tree rest) → BeginsApart tree (c.records v ++ rest)
passes_or_stays tree c v rest apart (inl b) later =
    subst (λ a. ShareNone (tree_tags tree) a) (sym (first_stays (c.records v) rest b.some)) (apart_within (tree_tags tree) (first_tags (c.records v)) (tree_tags c.tree) apart b.within)
passes_or_stays tree c v rest apart (inr m) later =
    subst (λ a. ShareNone (tree_tags tree) a) (sym (first_passes (c.records v) rest m.1)) (subst (λ b. When b (BeginsApart tree rest)) m.0 later)

when_and : (a b : Bool) (P : Type 0) → When (a && b) P → When a (When b P)
when_and true b P h = h
when_and false b P h = tt

when_both : (b : Bool) (P Q R : Type 0) → (P → Q → R) → When b P → When b Q → When b R
when_both true P Q R f p q = f p q
when_both false P Q R f p q = tt

-- over the components after one that may be absent
over_all : {V : Type 0} (tree : Tree) (cs : List (ComponentType V)) (v : V) (rest : List Record) → ApartFrom tree cs → EachIsWellTagged cs →
    When (all_may_be_absent cs) (BeginsApart tree rest) → BeginsApart tree (records_then cs v rest)
over_all tree [] v rest apart can later = later
over_all tree (c ∷ cs) v rest apart can later =
    passes_or_stays tree c v (records_then cs v rest) apart.0 (c.fits can.0 v)
    (when_both (may_be_absent c.presence) (ApartFrom tree cs) (When (all_may_be_absent cs) (BeginsApart tree rest)) (BeginsApart tree (records_then cs v rest))
    (λ a l. over_all tree cs v rest a can.1 l) apart.1 (when_and (may_be_absent c.presence) (all_may_be_absent cs) (BeginsApart tree rest) later))

each_apart : {V : Type 0} (cs : List (ComponentType V)) (v : V) (rest : List Record) → Distinct cs → EachIsWellTagged cs → EndsApart cs rest → EachApart cs v rest
each_apart [] v rest distinct can ends = tt
each_apart (c ∷ cs) v rest distinct can ends = (
  when_both (may_be_absent c.presence) (ApartFrom c.tree cs) (When (all_may_be_absent cs) (BeginsApart c.tree rest)) (BeginsApart c.tree (records_then cs v rest))
      (λ a l. over_all c.tree cs v rest a can.1 l) distinct.0 (when_and (may_be_absent c.presence) (all_may_be_absent cs) (BeginsApart c.tree rest) ends.0),
  each_apart cs v rest distinct.1 can.1 ends.1,
)

-- The law: also where the run of absent components goes on past the end.
pub sequence_apart : {V : Type 0} (cs : List (ComponentType V)) → CanBeInSequence cs → (v : V) (rest : List Record) → EndsApart cs rest → EachApart cs v rest
sequence_apart cs sequence v rest ends = each_apart cs v rest (distinct_by_test cs sequence.1) sequence.0 ends

-- Records that do not begin with a tag of a group do not begin with one of its last components.
when_const : (b : Bool) (P : Type 0) → P → When b P
when_const true P h = h
when_const false P h = tt

-- of what comes after the first component of a group, the same holds
after_first : {V : Type 0} (c : ComponentType V) (cs : List (ComponentType V)) (rest : List Record) → BeginsApart (choice (trees_of (c ∷ cs))) rest →
    (BeginsApart (choice (trees_of cs)) rest → EndsApart cs rest) → EndsApart cs rest
after_first c [] rest apart later = tt
after_first c (d ∷ ds) rest apart later = later (λ t h.
    apart t (lies_has (tree_tags (choice (trees_of (d ∷ ds)))) (tree_tags (choice (trees_of (c ∷ d ∷ ds))))
    (in_later_trees (tree_tags (choice (trees_of (d ∷ ds)))) c.tree d.tree (trees_of ds) (lies_itself (tree_tags (choice (trees_of (d ∷ ds)))))) t h))

pub group_ends : {V : Type 0} (cs : List (ComponentType V)) (rest : List Record) → BeginsApart (choice (trees_of cs)) rest → EndsApart cs rest
group_ends [] rest apart = tt
group_ends (c ∷ cs) rest apart = (
  when_const (may_be_absent c.presence && all_may_be_absent cs) (BeginsApart c.tree rest) (λ t h.
      apart t (lies_has (tree_tags c.tree) (tree_tags (choice (trees_of (c ∷ cs)))) (in_first_tree (tree_tags c.tree) c.tree (trees_of cs) (lies_itself (tree_tags c.tree))) t h)),
  after_first c cs rest apart (group_ends cs rest),
)

-- nothing follows a SEQUENCE inside its own record
none_in : (t : Tag) → Has (among []) t → ⊥
none_in t (k, below, same) = omega (arith, below)

pub nothing_follows : {V : Type 0} (cs : List (ComponentType V)) → EndsApart cs []
nothing_follows [] = tt
nothing_follows (c ∷ cs) = (
  when_const (may_be_absent c.presence && all_may_be_absent cs) (BeginsApart c.tree []) (λ t of_tree of_none. none_in t of_none),
  nothing_follows cs,
)

pub all_then : {V : Type 0} (cs : List (ComponentType V)) (v : V) (rest : List Record) → all_records cs v ++ rest ≡ records_then cs v rest
all_then [] v rest = refl
all_then (c ∷ cs) v rest = append_assoc (c.records v) (all_records cs v) rest ∙ ap (λ l. c.records v ++ l) (all_then cs v rest)
