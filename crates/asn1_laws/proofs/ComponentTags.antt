-- The tags of components, by the lines of their table.
use Rattle.std.proofs.Common.{◌≡◌, ℕ, zero, suc, ◌+◌, ◌<◌, List, [], ◌∷◌, Contains, length, refl, ap, sym, ◌∙◌, subst, arith}
use Rattle.std.specs.Prelude.{Some}
use Rattle.std.specs.List.{slice_get}
use Rattle.std.proofs.lemmas.List.Sorted.{Contains-permutation, IsPermutation-sym}
use Rattle.std.proofs.lemmas.Option.{slice_get-get_or}
use Rattle.asn1_components.specs.ComponentLists.{views_from}
use Rattle.asn1_components.specs.Components.{Components, all_components, table}
use Rattle.asn1_components.specs.ComponentTypes.{ComponentType}
use Rattle.asn1_components.proofs.TableOrder.{table_rearranges}
use Rattle.asn1_fields.specs.FieldViews.{FieldView}
use Rattle.asn1_model.specs.Tags.{Has, tree_tags}
use Rattle.asn1_tags.proofs.ListPositions.{Contains-from_slice_get}
use Rattle.asn1_tags.specs.declared.tags.Tag.{Tag}
use Rattle.asn1_laws.specs.SetParts.{CanBeginWith}

-- the component of a line, whose index is given from this on
record ViewOf {V : Type 0} (cs : List (ComponentType V)) (from : ℕ) (e : FieldView) (t : Tag) : Type 0 where
  position : ℕ
  index : e.index ≡ from + position
  begins : CanBeginWith cs position t

of_view : {V : Type 0} (cs : List (ComponentType V)) (from : ℕ) (e : FieldView) (t : Tag) → Contains (views_from from cs) e → Has (tree_tags e.tree) t → ViewOf cs from e t
of_view [] from e t (k, below, same) has = absurd (omega (arith, below))
of_view (c ∷ cs) from e t (zero, below, same) has =
    record { position = 0; index = omega (arith, ap (λ d. d.index) same); begins = subst (λ d. Has (tree_tags d.tree) t) (sym same) has }
of_view (c ∷ cs) from e t (suc k, below, same) has =
    let l = of_view cs (from + 1) e t (k, omega (arith, below), same) has in
    record { position = suc l.position; index = omega (arith, l.index); begins = l.begins }

-- and the line of a component
record HasLine {V : Type 0} (cs : List (ComponentType V)) (from : ℕ) (t : Tag) : Type 0 where
  view : FieldView
  is_there : Contains (views_from from cs) view
  has : Has (tree_tags view.tree) t

row_of : {V : Type 0} (cs : List (ComponentType V)) (from k : ℕ) (t : Tag) → CanBeginWith cs k t → HasLine cs from t
row_of [] from k t begins = absurd begins
row_of (c ∷ cs) from zero t begins =
    record { view = record { index = from; tag = c.tag; tree = c.tree; presence = c.presence; name = c.name }; is_there = (0, omega arith, refl); has = begins }
row_of (c ∷ cs) from (suc k) t begins =
    let l = row_of cs (from + 1) k t begins in
    record { view = l.view; is_there = (suc l.is_there.0, omega (arith, l.is_there.1), l.is_there.2); has = l.has }

module _ {V : Type 0} (components : Components V) (t : Tag) where
  -- a line of the table that has the tag is of a component that has it
  pub found : (position : ℕ) (e : FieldView) → slice_get (table components) position ≡ Some e → Has (tree_tags e.tree) t → CanBeginWith (all_components components) e.index t
  found position e at has =
      let l = of_view (all_components components) 0 e t
      (Contains-permutation (table components) (views_from 0 (all_components components)) e (IsPermutation-sym _ _ (table_rearranges components)) (Contains-from_slice_get (table components) position e at)) has in
      subst (λ k. CanBeginWith (all_components components) k t) (omega (arith, l.index)) l.begins

  -- where no line has the tag, no component has it
  pub not_found : ((position : ℕ) (e : FieldView) → position < length (table components) → slice_get (table components) position ≡ Some e → Has (tree_tags e.tree) t → ⊥) →
      (k : ℕ) → CanBeginWith (all_components components) k t → ⊥
  not_found none k begins =
      let l = row_of (all_components components) 0 k t begins in
      let in_table = Contains-permutation (views_from 0 (all_components components)) (table components) l.view (table_rearranges components) l.is_there in
      none in_table.0 l.view in_table.1 (slice_get-get_or (table components) in_table.0 l.view in_table.1 ∙ ap Some in_table.2) l.has
