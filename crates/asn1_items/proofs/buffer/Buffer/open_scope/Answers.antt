use Rattle.std.proofs.Common.{◌≡◌, ◌++◌, ◌∷◌, ◌<◌, ◌^◌, ◌+◌, [], sym, ap, subst, ◌∙◌, arith, length}
use Rattle.asn1_laws.specs.Writing.{in_scope}
use Rattle.asn1_items.specs.Buffers.{IsWrittenAsItems, inward}
use Rattle.asn1_items.specs.Headers.{tag_bytes}
use Rattle.asn1_items.specs.Kinds.{item_byte, kind_of, scope_byte}
use Rattle.asn1_items.specs.Numbers.{four_bytes}
use Rattle.asn1_model.specs.Tags.{head_tag}
use Rattle.asn1_items.proofs.Writing.{scope_opened, start_within}
use Rattle.asn1_items.proofs.buffer.Buffer.open_scope.Goals as goal

pub returns-clause-opened : goal.returns-clause-opened
returns-clause-opened c = λ marks h w kind tag wrote.
    let old = c.args.self.now in
    let linked = c.link_to_outer.new.self in
    let link = c.in_ok-link.link in
    let headed = c.push_scope_header.new.bytes.items in
    let was_far = inward [] old.far_starts.items in
    let far = inward [] linked.far_starts.items in
    let groups = inward [] old.groups.items in
    let start = c.len-start.result + 10 in
    let same = c.in_ok-link.ensures.same_bytes in
    let starts : start ≡ length old.bytes.items + 10 = omega (arith, c.len-start.ensures, old.bytes.ok.0) in
    let starts_again : start ≡ length linked.bytes.items + 10 = starts ∙ ap (λ b. length b.items + 10) (sym same) in
    let header : headed ≡ (old.bytes.items ++ item_byte (kind_of h) ∷ tag_bytes (head_tag h)) ++ four_bytes link =
    c.in_ok-push_scope_header.ensures.appended starts_again ∙ ap (λ b. (b.items ++ scope_byte c.args.kind ∷ tag_bytes c.args.tag) ++ four_bytes link) same ∙ ap (λ k. (old.bytes.items ++ scope_byte k ∷ tag_bytes c.args.tag) ++ four_bytes link) (sym kind)
    ∙ ap (λ t. (old.bytes.items ++ item_byte (kind_of h) ∷ tag_bytes t) ++ four_bytes link) (sym tag) in
    let further : old.scope_start < start = omega (arith, starts, start_within marks w old.scope_start was_far groups old.bytes.items wrote.0) in
    let tag_fits = subst (λ t. t.value < 2 ^ 32) (sym tag) c.in_ok-push_scope_header.ensures.fits in
    let leads = c.in_ok-link.ensures.leads further in
    let opened = scope_opened marks h w start link old.scope_start far was_far groups old.bytes.items headed starts tag_fits c.in_ok-link.ensures.fits leads header wrote.0 in (
      subst (λ g. IsWrittenAsItems marks (in_scope h [] w) start far (inward [] g.items) headed) (sym c.in_ok-link.ensures.same_groups) opened,
      tt,
    )
