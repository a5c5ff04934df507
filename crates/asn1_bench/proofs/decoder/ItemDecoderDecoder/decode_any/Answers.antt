use Rattle.std.proofs.Common.{◌≡◌, ◌++◌, Ok, Err, sym, ap, ◌∙◌, arith, inl}
use Rattle.asn1_laws.proofs.ReadingUpToOrder.{reads_open_type}
use Rattle.asn1_items.proofs.Items.{one_item, same_front}
use Rattle.asn1_items.specs.Headers.{header_at}
use Rattle.asn1_model.specs.Records.{open_type}
use Rattle.asn1_bench.proofs.RemainingItems.{is_form}
use Rattle.asn1_bench.specs.Decoder.{in_one_order}
use Rattle.asn1_items.proofs.DecodeStates.{next_is}
use Rattle.asn1_bench.proofs.ReadItems.{had_not_failed, open_type_taken}
use Rattle.asn1_laws.specs.declared.decode_error.DecodeError.TheVariants.{Failed}
use Rattle.asn1_bench.proofs.decoder.ItemDecoderDecoder.decode_any.Goals as goal

pub returns-in_err-item-clause-read : goal.returns-in_err-item-clause-read
returns-in_err-item-clause-read g c =
    let marks = g.P.Presence.mark_bytes in
    reads_open_type (in_one_order marks) c.args.self.now c.take.new.self (λ w bytes. w ≡ bytes) c.from_residual.result
    (λ bytes n rest outer accepts at.
    let next = next_is (is_form marks) c.args.self.now.state (open_type n bytes) rest outer at in
    let one = one_item bytes next.back accepts in
    absurd (c.in_err-item.ensures.took one.header one.inside next.back at.no_failure (ap header_at (next.left ∙ ap (λ l. l ++ next.back) next.has.0) ∙ one.at) one.body one.size tt))

pub returns-in-Ok-clause-read : goal.returns-in-Ok-clause-read
returns-in-Ok-clause-read g c =
    let marks = g.P.Presence.mark_bytes in
    reads_open_type (in_one_order marks) c.args.self.now c.take.new.self (λ w bytes. w ≡ bytes) (Ok c.new.result)
    (λ bytes n rest outer accepts at.
    let next = next_is (is_form marks) c.args.self.now.state (open_type n bytes) rest outer at in
    let one = one_item bytes next.back accepts in
    let left = next.left ∙ ap (λ l. l ++ next.back) next.has.0 in
    let taken = c.in_ok-item.ensures.took one.header one.inside next.back at.no_failure (ap header_at left ∙ one.at) one.body one.size tt in
    let whole : c.in_ok-item.item.bytes.now ≡ bytes = same_front _ bytes next.back (sym taken.bytes ∙ left) in
    record {
      answer = c.new.ensures ∙ c.in-Ok.ensures.items ∙ whole;
      at = next.after c.take.new.self.state c.in_ok-item.ensures.opens_nothing.keeps_depth.no_failure taken.left c.in_ok-item.ensures.outside;
      within_depth_left = omega arith;
    })

pub returns-in-Err-clause-read : goal.returns-in-Err-clause-read
returns-in-Err-clause-read g c =
    reads_open_type (in_one_order g.P.Presence.mark_bytes) c.args.self.now c.take.new.self (λ w bytes. w ≡ bytes) (Err c.fail.result)
    (λ bytes n rest outer accepts at. inl c.fail.ensures.same)

pub returns-in-Ok-clause-only : goal.returns-in-Ok-clause-only
returns-in-Ok-clause-only g c =
    let item = c.in_ok-item.ensures in
    open_type_taken g.P.Presence.mark_bytes c.args.self.now c.take.new.self (had_not_failed c.in_ok-item.item Failed c.args.self.now.state.failed item.opens_nothing.keeps_depth.failed_before)
    c.in_ok-item.item _ item.outside item.only (c.new.ensures ∙ c.in-Ok.ensures.items)
