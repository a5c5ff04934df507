-- Chain ::= CHOICE { end NULL, link [1] SET { next Chain, count [k] INTEGER } }, which holds itself without a tag.
use Rattle.std.specs.Prelude.{ℤ, [], ◌∷◌, codes, refl}
use Rattle.std.proofs.Common.{inl, inr}
use Rattle.std.proofs.lemmas.Bool.{ltb-true}
use Rattle.asn1_tags.specs.Trees.{Trees}
use Rattle.asn1_tags.specs.declared.tags.Tag.{Tag}
use Rattle.asn1_model.specs.Meaning.{Meaning}
use Rattle.asn1_model.specs.RecordTables.{Row, Table}
use Rattle.asn1_model.specs.TaggedTypes.{tagged, untagged}
use Rattle.asn1_model.specs.Tags.{context}
use Rattle.asn1_model.specs.contracts.impls.integer.IntegerAsnType.TheImpl.{ghosts as integer}
use Rattle.asn1_model.specs.contracts.impls.null.UnitAsnType.TheImpl.{ghosts as null}
use Rattle.asn1_components.specs.ComponentTypes.{required}
use Rattle.asn1_components.specs.Components.{Components, constructed_type, set}
use Rattle.asn1_components.specs.Alternatives.{Alternatives, OneOf, MeansTheSame, all_of, alternative, chosen_meaning, closed, means_itself, value_meaning}
use Rattle.asn1_components.specs.ChoiceTypes.{table_with_itself}
use Rattle.asn1_components.specs.UntaggedItself.{MeaningWithin, alternatives_with_untagged_itself, choice_holding_untagged_itself, trees_with_itself, untagged_inside_itself}

-- its values
pub data Chain : Type 0 where
  end : Chain
  link : Chain → ℤ → Chain

-- SET { next V, count [k] INTEGER }
abbrev link_components : {V : Type 0} → Tag → Meaning V → Components (V × ℤ)
link_components k itself = set (
    required (codes "next") (λ v. v.0) (untagged itself) ∷
    required (codes "count") (λ v. v.1) (tagged k integer.meaning) ∷ [])

abbrev link_type : {V : Type 0} → Tag → Meaning V → Meaning (V × ℤ)
link_type k itself = constructed_type (codes "Link") (link_components k itself)

-- the alternatives, beside what a chain inside another is to them
abbrev chain_alternatives_with : Tag → Meaning Chain → Alternatives
chain_alternatives_with k itself = closed (
    alternative (codes "end") (untagged null.meaning) ∷
    alternative (codes "link") (tagged (context 1) (link_type k itself)) ∷ [])

abbrev chain_table : Tag → Table Row
chain_table k = table_with_itself (codes "Chain") (chain_alternatives_with k)

abbrev chain_trees : Tag → Trees
chain_trees k = trees_with_itself (codes "Chain") (chain_alternatives_with k)

-- what a link says, by what the chain in it says
abbrev link_says : (k : Tag) → MeaningWithin (chain_trees k) → ℤ → MeaningWithin (chain_trees k)
link_says k next count = record {
  meaning = value_meaning (tagged (context 1)
      (link_type k (untagged_inside_itself {V = Unit} (codes "Chain") (chain_table k) (chain_trees k) (λ _. next))))
      (tt, count);
  within = (1, ltb-true 1 2 refl, refl);
}

abbrev chain_means : (k : Tag) → Chain → MeaningWithin (chain_trees k)
chain_means k end = record { meaning = value_meaning (untagged null.meaning) tt; within = (0, ltb-true 0 2 refl, refl) }
chain_means k (link next count) = link_says k (chain_means k next) count

abbrev chain_alternatives : Tag → Alternatives
chain_alternatives k = alternatives_with_untagged_itself (codes "Chain") (chain_alternatives_with k) (chain_means k)

abbrev chain_pick : (k : Tag) → Chain → OneOf (all_of (chain_alternatives k))
chain_pick k end = inl tt
chain_pick k (link next count) = inr (inl (next, count))

pub chain_agrees : (k : Tag) (v : Chain) → MeansTheSame (chain_means k v).meaning (chosen_meaning (all_of (chain_alternatives k)) (chain_pick k v))
chain_agrees k end = means_itself
chain_agrees k (link next count) = record { records = refl; read = λ _. (λ h. h, λ h. h); of_type = (λ h. h, λ h. h); valid = λ _. (λ h. h, λ h. h) }

-- The meaning of a chain.
abbrev pub chain_meaning : Tag → Meaning Chain
chain_meaning k = choice_holding_untagged_itself (codes "Chain") (chain_alternatives_with k) (chain_means k) (chain_pick k) (chain_agrees k)
