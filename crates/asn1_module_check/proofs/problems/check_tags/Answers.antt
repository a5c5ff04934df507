use Rattle.std.proofs.Common.{◌≡◌, ◌↔◌, [], map, ap, ◌∙◌}
use Rattle.std.specs.List.{All}
use Rattle.std.proofs.lemmas.Result.{IfOk-weaker}
use Rattle.asn1_resolved.specs.TypesInside.{types_of}
use Rattle.asn1_module_check.specs.DistinctTags.{HasDistinctTags, IsFreeOfClashes}
use Rattle.asn1_module_check.specs.Tables.{table_view}
use Rattle.asn1_module_check.proofs.SchemaTables.{free_if_listed}
use Rattle.asn1_module_check.proofs.problems.check_tags.Goals as goal

pub returns : goal.returns
returns c =
    let free = free_if_listed c.args.schema.now c.as_slice.result.now (ap (map table_view) c.as_slice.ensures.value ∙ c.in_ok-list.ensures.complete) in
    record {
      accepted = IfOk-weaker c.check_constructed.result
          (λ problems. (problems.items ≡ []) ↔ All HasDistinctTags c.as_slice.result.now)
          (λ problems. (problems.items ≡ []) ↔ All (IsFreeOfClashes c.args.schema.now) (types_of c.args.schema.now))
          (λ problems accepted. (λ none. free.0 (accepted.0 none), λ all. accepted.1 (free.1 all)))
          c.check_constructed.ensures.accepted;
      errors = c.check_constructed.ensures.errors;
    }
