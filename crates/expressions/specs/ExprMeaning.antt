-- The meaning of `Expr`.
use Rattle.std.specs.Prelude.{◌≡◌, ◌↔◌, [], ◌∷◌, ℕ, Bool, List, Option, None, Some, codes, flat_map, refl}
use Rattle.std.proofs.Common.{◌∙◌, ap}
use Rattle.asn1_circles.specs.Words.{Alternatives, ComponentsAreRead, IsMadeOf, KnotLaws, KnotOf, Meaning, MeansTheSame, OneOf, ReadAtSome, Record, Tag, Vec, all_of, both_at_all, choice_itself, choice_itself_is_read, choice_knot, chosen_meaning, context, each_by, elements_at_some, explicit_tag, flat_map-map, head_of_kind, if_some_by, in_additions, in_root, in_turn_at_some, inner, inside_at_some, is_sequence, itself_at_all, knot_is_made, knot_meaning, list_by, list_meaning, of_first, of_some, option_at_some, own_records, read_level, rows, same_at_all, same_read, sequence_of, set_meaning, set_of, type_level, unconstrained, valid_level}
use Rattle.expressions.specs.ExprLists.{call_has_then, call_has_rest, call_components, call_meaning, expr_of_alternatives, expr_of_pick, expr_of_meaning}
use Rattle.expressions.specs.Validity.{EachIsValid, ValidRecords, ValueMeaning, all_valid, valid_records, written_valid}
use Rattle.expressions.specs.ExprValidity.{expr_of_is_valid}
use Rattle.expressions.specs.declared.expr.Expr.{Expr as Knot, Expr-F as Knot-F, out-Expr as out-Knot, fold-Expr as fold-Knot, fold_out-Expr as fold_out-Knot, map-Expr as map-Knot}
use Rattle.expressions.specs.declared.call.CallOf.{CallOf}
use Rattle.expressions.specs.declared.expr_of.ExprOf.{ExprOf}
use Rattle.expressions.specs.declared.expr_of.ExprOf.TheVariants.{Number as expr_of-Number, Sum as expr_of-Sum, Call as expr_of-Call, Not as expr_of-Not}

abbrev pub alternatives : (V : Type 0) → Meaning V → Alternatives
alternatives V m = expr_of_alternatives m

abbrev pub pick : (V : Type 0) (m : Meaning V) → ExprOf V → OneOf (all_of (alternatives V m))
pick V m v = expr_of_pick m v

-- the value in the box
abbrev pub in_knot : Knot → ExprOf Knot
in_knot v = (out-Knot v).0.value

-- a value inside another, by its records alone
abbrev already : Meaning ValidRecords
already = written_valid (choice_itself (codes "Expr") alternatives pick)

-- the meaning of the content of a value, by these
abbrev content : ExprOf ValidRecords → ValueMeaning
content = (choice_knot (codes "Expr") alternatives pick in_knot (λ _. [])).content ValidRecords already

-- the records inside a value, which are well formed
abbrev write : Knot-F ValidRecords → ValidRecords
write f = valid_records (content f.0.value) (λ accepts. expr_of_is_valid already (λ a rs. rs.well_formed a) accepts f.0.value)

abbrev pub folded : Knot → ValidRecords
folded = fold-Knot ValidRecords write

abbrev pub inside : Knot → List Record
inside v = (folded v).records

abbrev pub knot : KnotOf Knot ExprOf
knot = choice_knot (codes "Expr") alternatives pick in_knot inside

-- a value inside another
abbrev pub within : Meaning Knot
within = inner knot

-- a whole value, with these in place of those inside it
abbrev mapped : Knot-F Knot → ExprOf Knot → ExprOf ValidRecords
mapped f v = (map-Knot Knot ValidRecords folded (record f { 0 = record f.0 { value = v } })).0.value

-- what is read as a value inside another
within_read : (t : Tag) (v : Knot) → ReadAtSome (λ n. (read_level knot n).IsReadAs v t unconstrained) (within.IsReadAs v t unconstrained)
within_read t v = choice_itself_is_read (codes "Expr") alternatives pick in_knot inside t unconstrained v

call_of_type : (v : CallOf Knot) → ((n : ℕ) → (call_meaning (type_level knot n)).IsOfType v) ↔ (call_meaning within).IsOfType v
call_of_type v = both_at_all (same_at_all) (both_at_all (each_by (λ n. (type_level knot n).IsOfType) (within.IsOfType) (λ e1. itself_at_all) v.args.items) (both_at_all (if_some_by (λ n. (type_level knot n).IsOfType) (within.IsOfType) (λ x. itself_at_all) v.then) (both_at_all (same_at_all) (both_at_all (if_some_by (λ n. (set_meaning (list_meaning (type_level knot n))).IsOfType) ((set_meaning (list_meaning within)).IsOfType) (λ x. each_by (λ n. (list_meaning (type_level knot n)).IsOfType) ((list_meaning within).IsOfType) (λ e1. each_by (λ n. (type_level knot n).IsOfType) (within.IsOfType) (λ e2. itself_at_all) e1.items) x) v.rest) (same_at_all)))))

expr_of_of_type : (v : ExprOf Knot) → ((n : ℕ) → (expr_of_meaning (type_level knot n)).IsOfType v) ↔ (expr_of_meaning within).IsOfType v
expr_of_of_type (expr_of-Number v) = same_at_all
expr_of_of_type (expr_of-Sum v) = each_by (λ n. (type_level knot n).IsOfType) (within.IsOfType) (λ e1. itself_at_all) v.items
expr_of_of_type (expr_of-Call v) = call_of_type v
expr_of_of_type (expr_of-Not v) = itself_at_all

call_valid : (accepts : List ℕ → Bool) (v : CallOf Knot) → ((n : ℕ) → (call_meaning (valid_level knot n)).IsValid accepts v) ↔ (call_meaning within).IsValid accepts v
call_valid accepts v = both_at_all (same_at_all) (both_at_all (each_by (λ n. (valid_level knot n).IsValid accepts) (within.IsValid accepts) (λ e1. itself_at_all) v.args.items) (both_at_all (if_some_by (λ n. (valid_level knot n).IsValid accepts) (within.IsValid accepts) (λ x. itself_at_all) v.then) (both_at_all (same_at_all) (both_at_all (if_some_by (λ n. (set_meaning (list_meaning (valid_level knot n))).IsValid accepts) ((set_meaning (list_meaning within)).IsValid accepts) (λ x. each_by (λ n. (list_meaning (valid_level knot n)).IsValid accepts) ((list_meaning within).IsValid accepts) (λ e1. each_by (λ n. (valid_level knot n).IsValid accepts) (within.IsValid accepts) (λ e2. itself_at_all) e1.items) x) v.rest) (same_at_all)))))

expr_of_valid : (accepts : List ℕ → Bool) (v : ExprOf Knot) → ((n : ℕ) → (expr_of_meaning (valid_level knot n)).IsValid accepts v) ↔ (expr_of_meaning within).IsValid accepts v
expr_of_valid accepts (expr_of-Number v) = same_at_all
expr_of_valid accepts (expr_of-Sum v) = each_by (λ n. (valid_level knot n).IsValid accepts) (within.IsValid accepts) (λ e1. itself_at_all) v.items
expr_of_valid accepts (expr_of-Call v) = call_valid accepts v
expr_of_valid accepts (expr_of-Not v) = itself_at_all

call_read_inside : (v : CallOf Knot) → ReadAtSome (λ n. ComponentsAreRead (call_components (read_level knot n)) v) (ComponentsAreRead (call_components within) v)
call_read_inside v = in_turn_at_some (same_read) (in_turn_at_some (inside_at_some (sequence_of (context 1) unconstrained) (elements_at_some v.args.items (λ e1. within_read within.tag e1))) (in_turn_at_some (option_at_some in_root (context 2) v.then (λ x. inside_at_some (explicit_tag (context 2)) (within_read within.tag x))) (in_turn_at_some (same_read) (in_turn_at_some (option_at_some in_additions (context 4) v.rest (λ x. inside_at_some (set_of (context 4) unconstrained) (elements_at_some x (λ e1. inside_at_some (sequence_of (list_meaning within).tag unconstrained) (elements_at_some e1.items (λ e2. within_read within.tag e2)))))) (same_read)))))

call_read : (t : Tag) (v : CallOf Knot) → ReadAtSome (λ n. (call_meaning (read_level knot n)).IsReadAs v t unconstrained) ((call_meaning within).IsReadAs v t unconstrained)
call_read t v = inside_at_some (head_of_kind is_sequence t (rows (call_components within))) (call_read_inside v)

expr_of_read_inside : (v : ExprOf Knot) → ReadAtSome (λ n. (chosen_meaning (all_of (expr_of_alternatives (read_level knot n))) (expr_of_pick (read_level knot n) v)).AreReadAs) (chosen_meaning (all_of (expr_of_alternatives within)) (expr_of_pick within v)).AreReadAs
expr_of_read_inside (expr_of-Number v) = same_read
expr_of_read_inside (expr_of-Sum v) = inside_at_some (sequence_of (context 1) unconstrained) (elements_at_some v.items (λ e1. within_read within.tag e1))
expr_of_read_inside (expr_of-Call v) = call_read (context 2) v
expr_of_read_inside (expr_of-Not v) = inside_at_some (explicit_tag (context 3)) (within_read within.tag v)

abbrev of-expr_of-Call : ((CallOf ValidRecords) → List Record) → ExprOf ValidRecords → List Record
of-expr_of-Call g (expr_of-Call v) = g v
of-expr_of-Call g _ = []

same_records-Call-then : (f : Knot-F Knot) (v0 : (CallOf Knot)) (o : Option Knot) → (of-expr_of-Call (call_has_then already).records) (mapped f ((expr_of-Call (record v0 { then = o })))) ≡ (call_has_then within).records (record v0 { then = o })
same_records-Call-then f v0 None = refl
same_records-Call-then f v0 (Some v1) = refl

same_records-Call-rest-elements-each : (f : Knot-F Knot) (v0 : (CallOf Knot)) (v1 : (List (Vec Knot))) (v2 : (List (Vec Knot))) (v3 : (Vec Knot)) → (of-expr_of-Call (λ (x : CallOf ValidRecords). of_some ((of_first ((own_records (list_meaning already))))) x.rest)) (mapped f ((expr_of-Call (record v0 { rest = Some (v3 ∷ []) })))) ≡ own_records (list_meaning within) v3
same_records-Call-rest-elements-each f v0 v1 v2 v3 = rw (flat_map-map (own_records already) folded v3.items) refl

same_records-Call-rest-elements : (f : Knot-F Knot) (v0 : (CallOf Knot)) (v1 : (List (Vec Knot))) (v2 : (List (Vec Knot))) → (of-expr_of-Call (λ (x : CallOf ValidRecords). of_some ((flat_map (own_records (list_meaning already)))) x.rest)) (mapped f ((expr_of-Call (record v0 { rest = Some v2 })))) ≡ flat_map (own_records (list_meaning within)) v2
same_records-Call-rest-elements f v0 v1 v2 = list_by (own_records (list_meaning already)) (own_records (list_meaning within)) _ (λ v3. same_records-Call-rest-elements-each f v0 v1 v2 v3) v2

same_records-Call-rest : (f : Knot-F Knot) (v0 : (CallOf Knot)) (o : Option (List (Vec Knot))) → (of-expr_of-Call (call_has_rest already).records) (mapped f ((expr_of-Call (record v0 { rest = o })))) ≡ (call_has_rest within).records (record v0 { rest = o })
same_records-Call-rest f v0 None = refl
same_records-Call-rest f v0 (Some v1) = rw (same_records-Call-rest-elements f v0 v1 v1) refl

same_records : (f : Knot-F Knot) (v : ExprOf Knot) → (write (map-Knot Knot ValidRecords folded (record f { 0 = record f.0 { value = v } }))).records ≡ (knot.content Knot within v).records
same_records f (expr_of-Number v0) = refl
same_records f (expr_of-Sum v0) = rw (flat_map-map (own_records already) folded v0.items) refl
same_records f (expr_of-Call v0) = rw (same_records-Call-then f v0 v0.then, same_records-Call-rest f v0 v0.rest, flat_map-map (own_records already) folded v0.args.items) refl
same_records f (expr_of-Not v0) = refl

pub laws : KnotLaws knot
laws = record {
  of_type = expr_of_of_type;
  valid_inside = expr_of_valid;
  read_inside = expr_of_read_inside;
  records = λ v. ap (λ rs. rs.records) (fold_out-Knot ValidRecords write v) ∙ same_records (out-Knot v) (out-Knot v).0.value;
}

-- The meaning of the type.
abbrev pub meaning : Meaning Knot
meaning = knot_meaning (codes "Expr") alternatives pick in_knot inside laws

unrolled : (v : ExprOf Knot) → MeansTheSame (knot.content Knot within v) (knot.content Knot meaning v)
unrolled (expr_of-Number v) = record { records = refl; read = λ _. (λ h. h, λ h. h); of_type = (λ h. h, λ h. h); valid = λ _. (λ h. h, λ h. h) }
unrolled (expr_of-Sum v) = record { records = refl; read = λ _. (λ h. h, λ h. h); of_type = (λ h. h, λ h. h); valid = λ _. (λ h. h, λ h. h) }
unrolled (expr_of-Call v) = record { records = refl; read = λ _. (λ h. h, λ h. h); of_type = (λ h. h, λ h. h); valid = λ _. (λ h. h, λ h. h) }
unrolled (expr_of-Not v) = record { records = refl; read = λ _. (λ h. h, λ h. h); of_type = (λ h. h, λ h. h); valid = λ _. (λ h. h, λ h. h) }

-- It is the meaning of what a value is made of.
pub is_made : IsMadeOf in_knot meaning (expr_of_meaning meaning)
is_made = knot_is_made (codes "Expr") alternatives pick in_knot inside laws refl unrolled

-- Each value is valid.
pub each_is_valid : EachIsValid meaning
each_is_valid accepts v n = all_valid knot (λ _ _ _ h. h) (λ a w. (folded w).well_formed a) (λ m. expr_of_is_valid m) n accepts v
