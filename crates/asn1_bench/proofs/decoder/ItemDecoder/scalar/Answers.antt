use Rattle.std.proofs.Common.{refl, sym, ap, subst, ◌∙◌, Ok, Err, arith, inl}
use Rattle.asn1_laws.specs.declared.decode_error.DecodeError.TheVariants.{Failed}
use Rattle.asn1_laws.proofs.ReadingUpToOrder.{reads_content}
use Rattle.asn1_items.specs.Contents.{IsContent}
use Rattle.asn1_items.specs.Kinds.{content_byte}
use Rattle.asn1_model.specs.Records.{scalar}
use Rattle.asn1_bench.proofs.ReadItems.{content_taken, had_not_failed}
use Rattle.asn1_bench.proofs.RemainingItems.{is_form, scalar_at}
use Rattle.asn1_bench.specs.Decoder.{in_one_order}
use Rattle.asn1_items.proofs.DecodeStates.{next_is}
use Rattle.asn1_bench.proofs.decoder.ItemDecoder.scalar.Goals as goal

pub returns-in_err-item-clause-read : goal.returns-in_err-item-clause-read
returns-in_err-item-clause-read g c = λ content same k.
    let marks = g.P.Presence.mark_bytes in
    reads_content (in_one_order marks) c.args.self.now c.take.new.self c.args.tag k content g.V.FromContent.IsOfType g.V.FromContent.Is c.from_residual.result
    (λ x n rest outer of_type at.
    let next = next_is (is_form marks) c.args.self.now.state (scalar c.args.tag k n (content x)) rest outer at in
    absurd (c.in_err-item.ensures.took _ next.has.inside next.back at.no_failure (scalar_at marks c.args.tag k n (content x) next.front next.back _ next.has next.left) refl refl
    (refl, refl, ap content_byte ((same x).kind ∙ g.met.V.FromContent.has_kind x ∙ sym c.kind.ensures))))

pub returns-in-Ok-clause-read : goal.returns-in-Ok-clause-read
returns-in-Ok-clause-read g c = λ content same k.
    let marks = g.P.Presence.mark_bytes in
    reads_content (in_one_order marks) c.args.self.now c.take.new.self c.args.tag k content g.V.FromContent.IsOfType g.V.FromContent.Is (Ok c.in-Ok.value)
    (λ x n rest outer of_type at.
    let next = next_is (is_form marks) c.args.self.now.state (scalar c.args.tag k n (content x)) rest outer at in
    let taken = c.in_ok-item.ensures.took _ next.has.inside next.back at.no_failure (scalar_at marks c.args.tag k n (content x) next.front next.back _ next.has next.left) refl refl
    (refl, refl, ap content_byte ((same x).kind ∙ g.met.V.FromContent.has_kind x ∙ sym c.kind.ensures)) in
    record {
      answer = c.in-Ok.ensures.read x of_type (subst (IsContent (g.V.FromContent.content x)) (sym taken.inside_is) ((same x).bytes next.has.inside next.has.is));
      at = next.after c.take.new.self.state c.in_ok-item.ensures.opens_nothing.keeps_depth.no_failure taken.left c.in_ok-item.ensures.outside;
      within_depth_left = omega arith;
    })

pub returns-in-Err-clause-read : goal.returns-in-Err-clause-read
returns-in-Err-clause-read g c = λ content same k.
    let marks = g.P.Presence.mark_bytes in
    reads_content (in_one_order marks) c.args.self.now c.take.new.self c.args.tag k content g.V.FromContent.IsOfType g.V.FromContent.Is (Err c.fail_with.result)
    (λ x n rest outer of_type at.
    let next = next_is (is_form marks) c.args.self.now.state (scalar c.args.tag k n (content x)) rest outer at in
    let taken = c.in_ok-item.ensures.took _ next.has.inside next.back at.no_failure (scalar_at marks c.args.tag k n (content x) next.front next.back _ next.has next.left) refl refl
    (refl, refl, ap content_byte ((same x).kind ∙ g.met.V.FromContent.has_kind x ∙ sym c.kind.ensures)) in
    inl (c.fail_with.ensures.memory (c.in-Err.ensures.read x of_type (subst (IsContent (g.V.FromContent.content x)) (sym taken.inside_is) ((same x).bytes next.has.inside next.has.is)))))

pub returns-in-Ok-clause-only : goal.returns-in-Ok-clause-only
returns-in-Ok-clause-only g c =
    let of = c.in-Ok.ensures.only in
    let item = c.in_ok-item.ensures in
    record {
      value = of.value;
      is = of.is;
      read = λ x like k.
          content_taken g.P.Presence.mark_bytes c.args.self.now c.take.new.self (had_not_failed c.in_ok-item.item Failed c.args.self.now.state.failed item.opens_nothing.keeps_depth.failed_before) c.in_ok-item.item c.args.tag c.kind.result x k item.outside item.only
          (sym like.kind ∙ g.met.V.FromContent.has_kind of.value ∙ sym c.kind.ensures) (like.bytes c.in_ok-item.item.body.now of.has_bytes);
    }
