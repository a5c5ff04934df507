use Rattle.std.proofs.Common.{◌≡◌, ◌<◌, ◌≤◌, [], ◌∷◌, ◌++◌, length, get_or, take, sym, ap, ◌∙◌, arith}
use Rattle.std.specs.List.{flat_map}
use Rattle.std.proofs.lemmas.List.{flat_map_more, take_all, take_more}
use Rattle.asn1_resolved.proofs.TypesInside.{in_schema}
use Rattle.asn1_module_check.specs.Tables.{tables_in, tables_of}
use Rattle.asn1_module_check.proofs.list.list_constructed.Goals as goal

pub loop-value-preserved : goal.loop-value-preserved
loop-value-preserved c =
    let schema = c.args.schema.now in
    let values = c.args.schema.now.values.items in
    let index = c.loop-value.value-index in
    let item = c.value-item.result in
    let listed = flat_map (λ defined. tables_in c.args.schema.now defined.definition.kind) c.args.schema.now.types.items in
    let within : index < length c.deref-value-items.result.now = omega arith in
    let inside : index < length values = omega (arith, within, ap length c.deref-value-items.ensures.value) in
    let at : item ≡ get_or values index item = c.value-item.is ∙ ap (λ xs. get_or xs index item) c.deref-value-items.ensures.value in
    c.in_ok-list_type-2.ensures
    ∙ (ap (λ l. l ++ tables_in schema item.definition.kind) c.loop-value.invariant
    ∙ (flat_map_more (λ defined. tables_in schema defined.definition.kind) listed (take index values) item
    ∙ ap (λ xs. listed ++ flat_map (λ defined. tables_in schema defined.definition.kind) xs)
    (ap (λ x. take index values ++ x ∷ []) at ∙ sym (take_more values index item inside))))

pub returns : goal.returns
returns c =
    let values = c.args.schema.now.values.items in
    let index = c.loop-value.value-index in
    let over : length c.deref-value-items.result.now ≤ index = omega arith in
    let all : length values ≤ index = omega (arith, over, ap length c.deref-value-items.ensures.value) in
    record {
      complete = c.loop-value.invariant
          ∙ (ap (λ xs. flat_map (λ defined. tables_in c.args.schema.now defined.definition.kind) c.args.schema.now.types.items
          ++ flat_map (λ defined. tables_in c.args.schema.now defined.definition.kind) xs) (take_all index values all)
          ∙ sym (in_schema (tables_of c.args.schema.now) c.args.schema.now));
    }
