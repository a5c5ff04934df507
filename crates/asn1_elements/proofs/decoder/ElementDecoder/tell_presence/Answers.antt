use Rattle.asn1_elements.proofs.ReadExactly.{answered_mark_taken}
use Rattle.std.proofs.Common.{Ok, false}
use Rattle.std.proofs.lemmas.Result.{err_from_is_err_and}
use Rattle.asn1_laws.proofs.ReadingUpToOrder.{tells_presence}
use Rattle.asn1_elements.proofs.PresenceByTag.{not_found, found, none_found}
use Rattle.asn1_elements.specs.Decoder.{in_one_order}
use Rattle.asn1_model.specs.Tags.{tree_tags}
use Rattle.asn1_tags.specs.Trees.{shape}
use Rattle.asn1_elements.proofs.decoder.ElementDecoder.tell_presence.Goals as goal

pub returns-in_err-tag-clause-read : goal.returns-in_err-tag-clause-read
returns-in_err-tag-clause-read g c = λ there away.
    let own = tree_tags (shape c.args.tree) in
    let p = err_from_is_err_and c.from_residual.result c.from_residual.ensures.1 in
    tells_presence (in_one_order g.F.ElementForm.form) c.args.self.now c.next_tag.new.self there away own c.from_residual.result
    (not_found g.met.F.ElementForm.lawful c.args.self.now c.next_tag.new.self there away own c.from_residual.result _ p.1 c.in_err-tag.ensures.found)

pub returns-in-Some-clause-read : goal.returns-in-Some-clause-read
returns-in-Some-clause-read g c = λ there away.
    let own = tree_tags (shape c.args.tree) in
    tells_presence (in_one_order g.F.ElementForm.form) c.args.self.now c.next_tag.new.self there away own (Ok c.can_begin_with.result)
    (found g.met.F.ElementForm.lawful c.args.self.now c.next_tag.new.self there away own c.in-Some.tag c.can_begin_with.result c.in_ok-tag.field-0 c.in-Some.is
    c.in_ok-tag.ensures.opens_nothing.keeps_depth.no_failure c.in_ok-tag.ensures.same_bytes c.in_ok-tag.ensures.found c.can_begin_with.ensures)

pub returns-in-None-clause-read : goal.returns-in-None-clause-read
returns-in-None-clause-read g c = λ there away.
    let own = tree_tags (shape c.args.tree) in
    tells_presence (in_one_order g.F.ElementForm.form) c.args.self.now c.next_tag.new.self there away own (Ok _)
    (none_found g.met.F.ElementForm.lawful c.args.self.now c.next_tag.new.self there away own c.in_ok-tag.field-0 c.in-None.is
    c.in_ok-tag.ensures.opens_nothing.keeps_depth.no_failure c.in_ok-tag.ensures.same_bytes c.in_ok-tag.ensures.found)

pub returns-in-Some-clause-only : goal.returns-in-Some-clause-only
returns-in-Some-clause-only g c = λ there away.
    answered_mark_taken g.met.F.ElementForm.lawful c.args.self.now c.next_tag.new.self there away c.can_begin_with.result c.in_ok-tag.ensures.no_failure c.in_ok-tag.ensures.same_bytes

pub returns-in-None-clause-only : goal.returns-in-None-clause-only
returns-in-None-clause-only g c = λ there away.
    answered_mark_taken g.met.F.ElementForm.lawful c.args.self.now c.next_tag.new.self there away false c.in_ok-tag.ensures.no_failure c.in_ok-tag.ensures.same_bytes
