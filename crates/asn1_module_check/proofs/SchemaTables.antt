-- The tables of a schema have distinct tags if and only if its types are free of clashes.
use Rattle.std.proofs.Common.{◌≡◌, ◌↔◌, List, [], ◌∷◌, ◌++◌, map, sym}
use Rattle.std.specs.List.{All, flat_map}
use Rattle.std.proofs.lemmas.List.Elements.{All-append, All-cons, All-head, All-map, All-nil, All-tail, All-same}
use Rattle.asn1_resolved.specs.TypesInside.{types_of}
use Rattle.asn1_resolved.specs.declared.schema.Schema.{Schema}
use Rattle.asn1_module_check.specs.DistinctTags.{HasDistinctTags, IsDistinct, IsFreeOfClashes}
use Rattle.asn1_module_check.specs.Tables.{schema_tables, table_view, tables_of}
use Rattle.asn1_module_check.specs.declared.constructed.Constructed.{Constructed}

All-left : {X : Type 0} (P : X → Type 0) (xs ys : List X) → All P (xs ++ ys) → All P xs
All-left P [] ys h = All-nil P
All-left P (x ∷ xs) ys h = All-cons P x xs (All-head P x (xs ++ ys) h) (All-left P xs ys (All-tail P x (xs ++ ys) h))

All-right : {X : Type 0} (P : X → Type 0) (xs ys : List X) → All P (xs ++ ys) → All P ys
All-right P [] ys h = h
All-right P (x ∷ xs) ys h = All-right P xs ys (All-tail P x (xs ++ ys) h)

-- all of a list of lists
together : {X Y : Type 0} (P : Y → Type 0) (f : X → List Y) (xs : List X) → All (λ x. All P (f x)) xs → All P (flat_map f xs)
together P f [] h = All-nil P
together P f (x ∷ xs) h = All-append P (f x) (flat_map f xs) (All-head (λ y. All P (f y)) x xs h) (together P f xs (All-tail (λ y. All P (f y)) x xs h))

apart : {X Y : Type 0} (P : Y → Type 0) (f : X → List Y) (xs : List X) → All P (flat_map f xs) → All (λ x. All P (f x)) xs
apart P f [] h = All-nil (λ x. All P (f x))
apart P f (x ∷ xs) h = All-cons (λ y. All P (f y)) x xs (All-left P (f x) (flat_map f xs) h) (apart P f xs (All-right P (f x) (flat_map f xs) h))

All-unmap : {X Y : Type 0} (P : X → Type 0) (f : Y → X) (ys : List Y) → All P (map f ys) → All (λ y. P (f y)) ys
All-unmap P f [] h = All-nil (λ y. P (f y))
All-unmap P f (y ∷ ys) h = All-cons (λ z. P (f z)) y ys (All-head P (f y) (map f ys) h) (All-unmap P f ys (All-tail P (f y) (map f ys) h))

-- a schema whose tables are all listed
pub free_if_listed : (schema : Schema) (list : List Constructed) → map table_view list ≡ schema_tables schema →
    All HasDistinctTags list ↔ All (IsFreeOfClashes schema) (types_of schema)
free_if_listed schema list listed = (
  λ h. apart IsDistinct (tables_of schema) (types_of schema) (All-same IsDistinct (schema_tables schema) (map table_view list) (sym listed) (All-map IsDistinct table_view list h)),
  λ h. All-unmap IsDistinct table_view list (All-same IsDistinct (map table_view list) (schema_tables schema) listed (together IsDistinct (tables_of schema) (types_of schema) h)),
)
