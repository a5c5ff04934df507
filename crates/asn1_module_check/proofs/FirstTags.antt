-- Tags that are collected until there are too many.
use Rattle.std.proofs.Common.{◌≡◌, ℕ, ◌+◌, ◌<◌, Bool, true, false, ◌||◌, List, [], ◌∷◌, ◌++◌, length, get_or, take, None, Some, refl, sym, ap, ◌∙◌, arith, add-one, length-append, append_assoc}
use Rattle.std.specs.List.{flat_map, list_any}
use Rattle.std.proofs.lemmas.List.{take_more, append-nil}
use Rattle.std.proofs.lemmas.List.Folds.{list_any-append}
use Rattle.std.proofs.lemmas.Bool.Decides.{nat_tests}
use Rattle.std.proofs.lemmas.Grind.{flat_map-append}
use Rattle.std.specs.List.{slice_get}
use Rattle.asn1_clash.specs.Views.{Adds}
use Rattle.asn1_clash.specs.declared.flat_tree.FlatTree.{FlatTree}
use Rattle.asn1_resolved.specs.declared.components.Alternative.{Alternative}
use Rattle.asn1_resolved.specs.declared.components.Alternatives.{Alternatives, out-Alternatives}
use Rattle.asn1_resolved.specs.declared.schema.Schema.{Schema}
use Rattle.asn1_resolved.specs.declared.schema.TypeDefinition.{TypeDefinition}
use Rattle.asn1_resolved.specs.declared.types.TypeKind.{TypeKind, Choice, Reference}
use Rattle.asn1_tags.specs.Trees.{choice, none}
use Rattle.asn1_module_check.specs.FirstTags.{FirstTags, any_tag, both, capped, first_by, first_within, is_full, of_definition, of_each, seen}

-- what is full stays full
full_both : (a b : FirstTags) → is_full a ≡ true → is_full (both a b) ≡ true
full_both a b full = let l = length-append a.tags b.tags in grind (arith, nat_tests)

capped_full : (a : FirstTags) → is_full a ≡ true → capped a ≡ any_tag
capped_full a full = rw full refl

capped_not : (a : FirstTags) → is_full a ≡ false → capped a ≡ a
capped_not a not_full = rw not_full refl

-- full tags stay any tag
pub capped-full_both : (a b : FirstTags) → is_full a ≡ true → capped a ≡ capped (both a b)
capped-full_both a b full = capped_full a full ∙ sym (capped_full (both a b) (full_both a b full))

-- what was capped before may be capped again
pub capped_both : (a b t : FirstTags) → capped a ≡ capped b → capped (both a t) ≡ capped (both b t)
capped_both a b t same = by_full (is_full a) refl (is_full b) refl
  where
    by_full : (p : Bool) → is_full a ≡ p → (q : Bool) → is_full b ≡ q → capped (both a t) ≡ capped (both b t)
    by_full true f true g = capped_full (both a t) (full_both a t f) ∙ sym (capped_full (both b t) (full_both b t g))
    by_full false f false g = ap (λ x. capped (both x t)) (sym (capped_not a f) ∙ (same ∙ capped_not b g))
    by_full true f false g =
        let e : any_tag ≡ b = sym (capped_full a f) ∙ (same ∙ capped_not b g) in
        let h : true ≡ is_full b = ap is_full e in cc
    by_full false f true g =
        let e : a ≡ any_tag = sym (capped_not a f) ∙ (same ∙ capped_full b g) in
        let h : is_full a ≡ true = ap is_full e in cc

or_assoc : (a b c : Bool) → ((a || b) || c) ≡ (a || (b || c))
or_assoc true b c = refl
or_assoc false b c = refl

both_assoc : (a b c : FirstTags) → both (both a b) c ≡ both a (both b c)
both_assoc a b c i = record { tags = append_assoc a.tags b.tags c.tags i; is_any = or_assoc a.is_any b.is_any c.is_any i }

or_false : (a : Bool) → (a || false) ≡ a
or_false true = refl
or_false false = refl

one_more : {A : Type 0} (first : A → FirstTags) (xs : List A) (x : A) → of_each first (xs ++ x ∷ []) ≡ both (of_each first xs) (first x)
one_more first xs x i = record {
  tags = (flat_map-append (λ y. (first y).tags) xs (x ∷ []) ∙ ap (λ l. flat_map (λ y. (first y).tags) xs ++ l) (append-nil (first x).tags)) i;
  is_any = (list_any-append (λ y. (first y).is_any) xs (x ∷ []) ∙ ap (λ b. list_any (λ y. (first y).is_any) xs || b) (or_false (first x).is_any)) i;
}

-- a loop that adds the tags of each element
pub capped_more : {A : Type 0} (first : A → FirstTags) (xs : List A) (i : ℕ) (d : A) (start before after : FirstTags) → i < length xs →
    capped before ≡ capped (both start (of_each first (take i xs))) → capped after ≡ capped (both before (first (get_or xs i d))) →
    capped after ≡ capped (both start (of_each first (take (i + 1) xs)))
capped_more first xs i d start before after lt was added =
    added ∙ (capped_both before (both start (of_each first (take i xs))) (first (get_or xs i d)) was
    ∙ ap capped (both_assoc start (of_each first (take i xs)) (first (get_or xs i d))
    ∙ ap (both start) (sym (one_more first (take i xs) (get_or xs i d)) ∙ ap (of_each first) (sym (take_more xs i d lt)))))

-- those of two lists
of_two : {A : Type 0} (first : A → FirstTags) (xs ys : List A) → of_each first (xs ++ ys) ≡ both (of_each first xs) (of_each first ys)
of_two first xs ys i = record {
  tags = flat_map-append (λ y. (first y).tags) xs ys i;
  is_any = list_any-append (λ y. (first y).is_any) xs ys i;
}

pub capped_two : {A : Type 0} (first : A → FirstTags) (xs ys : List A) (start middle after : FirstTags) →
    capped middle ≡ capped (both start (of_each first xs)) → capped after ≡ capped (both middle (of_each first ys)) →
    capped after ≡ capped (both start (of_each first (xs ++ ys)))
capped_two first xs ys start middle after was added =
    added ∙ (capped_both middle (both start (of_each first xs)) (of_each first ys) was
    ∙ ap capped (both_assoc start (of_each first xs) (of_each first ys) ∙ ap (both start) (sym (of_two first xs ys))))

-- an open type was added
pub seen_open : (old new : FlatTree) → Adds old new (choice none) → seen new ≡ both (seen old) any_tag
seen_open old new added i = record { tags = added.tags i; is_any = added.empty_choice i }

-- one step
step : (schema : Schema) (steps rest : ℕ) (kind to : TypeKind) → steps ≡ rest + 1 → kind ≡ to →
    first_within schema steps kind ≡ first_by schema (first_within schema rest) to
step schema steps rest kind to is same = (λ i. first_within schema ((is ∙ add-one rest) i) (same i))

pub to_definition : (schema : Schema) (steps rest index : ℕ) (kind : TypeKind) (defined : TypeDefinition) →
    steps ≡ rest + 1 → kind ≡ Reference index → slice_get schema.types.items index ≡ Some defined →
    first_within schema steps kind ≡ first_within schema rest defined.definition.kind
to_definition schema steps rest index kind defined is same at =
    step schema steps rest kind (Reference index) is same ∙ ap (of_definition (first_within schema rest)) at

pub to_none : (schema : Schema) (steps rest index : ℕ) (kind : TypeKind) →
    steps ≡ rest + 1 → kind ≡ Reference index → slice_get schema.types.items index ≡ None →
    first_within schema steps kind ≡ any_tag
to_none schema steps rest index kind is same at =
    step schema steps rest kind (Reference index) is same ∙ ap (of_definition (first_within schema rest)) at

pub to_alternatives : (schema : Schema) (steps rest : ℕ) (kind : TypeKind) (alternatives : Alternatives) (root additions : List Alternative)
    (start middle after : FirstTags) → steps ≡ rest + 1 → kind ≡ Choice alternatives →
    root ≡ (out-Alternatives alternatives).root.items → additions ≡ (out-Alternatives alternatives).additions.items →
    capped middle ≡ capped (both start (of_each (λ a. first_within schema rest a.definition.kind) root)) →
    capped after ≡ capped (both middle (of_each (λ a. first_within schema rest a.definition.kind) additions)) →
    capped after ≡ capped (both start (first_within schema steps kind))
to_alternatives schema steps rest kind alternatives root additions start middle after is same at_root at_additions was added =
    capped_two (λ a. first_within schema rest a.definition.kind) root additions start middle after was added
    ∙ ap (λ t. capped (both start t))
    ((λ i. of_each (λ a. first_within schema rest a.definition.kind) (at_root i ++ at_additions i))
    ∙ sym (step schema steps rest kind (Choice alternatives) is same))
