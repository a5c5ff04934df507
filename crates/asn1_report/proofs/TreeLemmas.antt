-- The leaves that several trees add, one after another, and the definition on texts with brackets and without.
use Rattle.std.proofs.Common.{◌≡◌, ℕ, zero, suc, ◌-◌, ◌<◌, arith, false, ◌||◌, Option, Some, None, List, ◌++◌, option_map, option_and_then, refl, sym, ap, ◌∙◌, append_assoc}
use Rattle.std.specs.Option.{option_map_or}
use Rattle.std.proofs.lemmas.List.{append-nil}
use Rattle.std.proofs.Math.Bool.{or_assoc, or-false}
use Rattle.asn1_tags.specs.Trees.{Tree, Trees, leaf, choice, none, more, leaves, leaves_of, is_open, is_any_open, is_nothing}
use Rattle.asn1_clash.specs.Views.{Adds}
use Rattle.asn1_clash.specs.declared.flat_tree.FlatTree.{FlatTree}
use Rattle.asn1_report.specs.Elements.{elements_of}
use Rattle.asn1_report.specs.Grammar.{tag_of, between_brackets, all_trees, tree_of}

-- the trees of one list, then those of the other
abbrev pub join : Trees → Trees → Trees
join none us = us
join (more t ts) us = more t (join ts us)

pub leaves_of-join : (ts us : Trees) → leaves_of (join ts us) ≡ leaves_of ts ++ leaves_of us
leaves_of-join none us = refl
leaves_of-join (more t ts) us = ap (λ rest. leaves t ++ rest) (leaves_of-join ts us) ∙ sym (append_assoc (leaves t) (leaves_of ts) (leaves_of us))

is_any_open-join : (ts us : Trees) → is_any_open (join ts us) ≡ (is_any_open ts || is_any_open us)
is_any_open-join none us = refl
is_any_open-join (more t ts) us =
    ap (λ rest. is_open t || rest) (is_any_open-join ts us) ∙ sym (or_assoc (is_open t) (is_any_open ts) (is_any_open us))

-- what is kept of several trees was added to what was kept before
pub record AddsAll (old new : FlatTree) (trees : Trees) : Type 0 where
  pub tags : new.tags.items ≡ old.tags.items ++ leaves_of trees
  pub empty_choice : new.has_empty_choice ≡ (old.has_empty_choice || is_any_open trees)

pub adds_nothing : (kept : FlatTree) → AddsAll kept kept none
adds_nothing kept = record { tags = sym (append-nil kept.tags.items); empty_choice = sym (or-false kept.has_empty_choice) }

-- one more tree
pub adds_one : (old mid new : FlatTree) (ts : Trees) (t : Tree) → AddsAll old mid ts → Adds mid new t → AddsAll old new (join ts (more t none))
adds_one old mid new ts t before one = record {
  tags =
      one.tags
      ∙ (ap (λ front. front ++ leaves t) before.tags
      ∙ (append_assoc old.tags.items (leaves_of ts) (leaves t)
      ∙ ap (λ back. old.tags.items ++ back)
      (ap (λ back. leaves_of ts ++ back) (sym (append-nil (leaves t))) ∙ sym (leaves_of-join ts (more t none)))));
  empty_choice =
      one.empty_choice
      ∙ (ap (λ b. b || is_open t) before.empty_choice
      ∙ (or_assoc old.has_empty_choice (is_any_open ts) (is_open t)
      ∙ ap (λ b. old.has_empty_choice || b)
      (ap (λ b. is_any_open ts || b) (sym (or-false (is_open t))) ∙ sym (is_any_open-join ts (more t none)))));
}

-- some trees make a choice
pub adds_choice : (old new : FlatTree) (ts : Trees) → AddsAll old new ts → is_nothing ts ≡ false → Adds old new (choice ts)
adds_choice old new ts all some = record {
  tags = all.tags;
  empty_choice = all.empty_choice ∙ ap (λ b. old.has_empty_choice || (b || is_any_open ts)) (sym some);
}

-- trees with a first one are not none
pub no_tree_less : (r : Option Tree) (rest : Option Trees) → option_and_then (λ tree. option_map (more tree) rest) r ≡ Some none → ⊥
no_tree_less None rest h = cc
no_tree_less (Some t) None h = cc
no_tree_less (Some t) (Some us) h = cc

-- the trees of a text with brackets are those between them
pub tree_of-inside : (depth : ℕ) (text inside : List ℕ) → between_brackets text ≡ Some inside → 0 < depth →
    tree_of depth text ≡ option_map choice (all_trees (tree_of (depth - 1)) (elements_of inside))
unfolding tree_of
tree_of-inside zero text inside has deep = absurd (omega arith)
tree_of-inside (suc depth) text inside has deep =
    let less : depth ≡ suc depth - 1 = omega arith in
    ap (λ found. option_map_or (λ bs. option_map choice (all_trees (tree_of depth) (elements_of bs))) found (option_map leaf (tag_of text))) has
    ∙ ap (λ d. option_map choice (all_trees (tree_of d) (elements_of inside))) less

-- a text without brackets is a tag, or no tree
pub tree_of-tag : (depth : ℕ) (text : List ℕ) → between_brackets text ≡ None → tree_of depth text ≡ option_map leaf (tag_of text)
unfolding tree_of
tree_of-tag zero text none_there = refl
tree_of-tag (suc depth) text none_there =
    ap (λ found. option_map_or (λ bs. option_map choice (all_trees (tree_of depth) (elements_of bs))) found (option_map leaf (tag_of text))) none_there
