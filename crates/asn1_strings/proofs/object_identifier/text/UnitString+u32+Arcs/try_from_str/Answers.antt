use Rattle.std.proofs.Common.{◌≡◌, ◌∙◌, ◌++◌, ◌∷◌, [], ap, inr, length, sym, true, is_ok, vec_len, Err, arith}
use Rattle.std.proofs.lemmas.Iterator.Consumers.{YieldsList-end, YieldsList-turn}
use Rattle.std.proofs.lemmas.List.{length_push}
use Rattle.asn1_strings.specs.declared.error.ObjectIdentifierError.TheVariants.{Arc}
use Rattle.asn1_strings.proofs.DottedTexts.{arcs_after-all, arcs_after-more, arcs_after-refused, dotted-arcs_of, yields_parts}
use Rattle.asn1_strings.proofs.object_identifier.text.UnitString+u32+Arcs.try_from_str.Goals as goal

pub loop-part-preserved : goal.loop-part-preserved
loop-part-preserved c =
    let split = c.split-part-items.ensures in
    let parts = yields_parts c.args.text.now c.into_iter-part-iterator.ensures.into_iter_gives split.text split.has_more split.pattern in
    let turn = YieldsList-turn parts c.loop-part.yielded _ c.loop-part.yielded_by _ _ c.in-Some.part c.in-Some.is c.next.ensures.steps in
    let ok : is_ok c.push.result ≡ true = sym c.map_err.ensures.variant ∙ ap is_ok c.in_ok-map_err-in-Ok.was in
    let pushed : c.push.new.self.items ≡ c.loop-part.arcs.items ++ c.in-Ok.arc ∷ [] = rw ok at c.push.ensures.items in
    let one_more = length_push c.loop-part.yielded c.in-Some.part in
    let as_long = ap length pushed ∙ length_push c.loop-part.arcs.items c.in-Ok.arc in
    (omega arith, arcs_after-more _ _ _ _ _ c.in-Ok.arc _ _ c.loop-part.invariant.1 turn c.in-Ok.ensures pushed one_more)

pub returns-in-Err-clause-refused : goal.returns-in-Err-clause-refused
returns-in-Err-clause-refused c =
    let split = c.split-part-items.ensures in
    let parts = yields_parts c.args.text.now c.into_iter-part-iterator.ensures.into_iter_gives split.text split.has_more split.pattern in
    let turn = YieldsList-turn parts c.loop-part.yielded _ c.loop-part.yielded_by _ _ c.in-Some.part c.in-Some.is c.next.ensures.steps in
    let refused = arcs_after-refused c.loop-part.arcs.items _ _ _ c.in-Err.why _ c.loop-part.invariant.1 turn c.in-Err.ensures in
    let as_long : length c.loop-part.arcs.items ≡ vec_len c.loop-part.arcs = omega (arith, c.loop-part.arcs.ok.0) in
    inr (refused ∙ ap (λ index. Err (Arc index c.in-Err.why)) (as_long ∙ sym c.len.ensures))

pub returns-clause-arcs : goal.returns-clause-arcs
returns-clause-arcs c =
    let split = c.split-part-items.ensures in
    let parts = yields_parts c.args.text.now c.into_iter-part-iterator.ensures.into_iter_gives split.text split.has_more split.pattern in
    let end = YieldsList-end parts c.loop-part.yielded _ c.loop-part.yielded_by _ _ c.in-None.is c.next.ensures.steps in
    let all = arcs_after-all c.loop-part.arcs.items _ _ _ c.loop-part.invariant.1 end.1 in
    rw c.new.ensures all

pub returns-clause-written : goal.returns-clause-written
returns-clause-written c = dotted-arcs_of c.args.text.now c.new.result (returns-clause-arcs c)
