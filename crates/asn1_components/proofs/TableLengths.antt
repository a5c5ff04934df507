-- A field table has as many fields as there are components.
use Rattle.std.proofs.Common.{◌≡◌, ℕ, suc, ◌+◌, Bool, true, false, cond, List, [], ◌∷◌, ◌++◌, drop, length, map, take, None, Some, refl, sym, ap, ◌∙◌, append-nil, length-append, arith}
use Rattle.std.proofs.lemmas.List.{length-map, map-append}
use Rattle.std.proofs.Math.Seq.{drop-append_seam, take-append_seam}
use Rattle.asn1_components.specs.ComponentLists.{views_from}
use Rattle.asn1_components.specs.Components.{Components, Extension, Kind, is_sequence, is_set, added, all_components, rows, marker, extension_index, no_marker, split_at_marker, in_canonical_order, insert_in_order, table, table_of_kind}
use Rattle.asn1_components.specs.ComponentTypes.{ComponentType}
use Rattle.asn1_fields.specs.CanonicalOrder.{in_order}
use Rattle.asn1_fields.specs.FieldViews.{FieldView, component_of, row_of}

one_view_more : (b : Bool) (e f : FieldView) (put es : List FieldView) → length put ≡ suc (length es) → length (cond b (e ∷ f ∷ es) (f ∷ put)) ≡ suc (suc (length es))
one_view_more true e f put es h = refl
one_view_more false e f put es h = ap suc h

length-put : (e : FieldView) (es : List FieldView) → length (insert_in_order e es) ≡ suc (length es)
length-put e [] = refl
length-put e (f ∷ fs) = one_view_more (in_order (component_of e) (component_of f)) e f (insert_in_order e fs) fs (length-put e fs)

length-ordered : (es : List FieldView) → length (in_canonical_order es) ≡ length es
length-ordered [] = refl
length-ordered (e ∷ es) = length-put e (in_canonical_order es) ∙ ap suc (length-ordered es)

length-views : {V : Type 0} (k : ℕ) (cs : List (ComponentType V)) → length (views_from k cs) ≡ length cs
length-views k [] = refl
length-views k (c ∷ cs) = ap suc (length-views (k + 1) cs)

length-table_of_kind : (kind : Kind) (es : List FieldView) → length (table_of_kind kind es) ≡ length es
length-table_of_kind is_sequence es = refl
length-table_of_kind is_set es = length-ordered es

pub length-table : {V : Type 0} (components : Components V) → length (table components) ≡ length (all_components components)
length-table components =
    let root = views_from 0 components.root in
    let rest = views_from (length components.root) (added components) in
    omega (
      arith,
      length-append (table_of_kind components.kind root) rest,
      length-append components.root (added components),
      length-table_of_kind components.kind root,
      length-views 0 components.root,
      length-views (length components.root) (added components),
    )

-- The table in records has the rows of the table.
pub rows_of_table : {V : Type 0} (components : Components V) → rows components ≡ split_at_marker (map row_of (table components)) (extension_index components)
rows_of_table components = by_extension components.extension
  where
    rs : List FieldView
    rs = table_of_kind components.kind (views_from 0 components.root)

    as_long : length (map row_of rs) ≡ length components.root
    as_long = length-map rs row_of ∙ length-table_of_kind components.kind (views_from 0 components.root) ∙ length-views 0 components.root

    by_extension : (x : Extension _) →
        rows (record components { extension = x }) ≡ split_at_marker (map row_of (table (record components { extension = x }))) (extension_index (record components { extension = x }))
    by_extension no_marker = ap (λ es. record { root = map row_of es; additions = None }) (sym (append-nil rs))
    by_extension (marker additions) =
        let n = length components.root in
        let added = views_from n additions in
        let all = map row_of rs in
        let more = map row_of added in
        let joined : map row_of (rs ++ added) ≡ all ++ more = map-append row_of rs added in
        let first : take n (map row_of (rs ++ added)) ≡ all = ap (take n) joined ∙ ap (λ k. take k (all ++ more)) (sym as_long) ∙ take-append_seam all more in
        let second : drop n (map row_of (rs ++ added)) ≡ more = ap (drop n) joined ∙ ap (λ k. drop k (all ++ more)) (sym as_long) ∙ drop-append_seam all more in
        ap (λ l. record { root = l; additions = Some more }) (sym first)
        ∙ ap (λ l. record { root = take n (map row_of (rs ++ added)); additions = Some l }) (sym second)
