use Rattle.std.proofs.Common.{◌∙◌, ◌++◌, ◌+◌, ◌-◌, ℕ, List, ap, arith, drop, length, subst, sym, take}
use Rattle.std.proofs.lemmas.List.{length-drop, take_rest}
use Rattle.std.specs.String.{string_bytes}
use Rattle.asn1_ldap_stream.specs.Octets.{AreLinesOf, BeginWithLines, IsNext, none, one_more}
use Rattle.asn1_ldap_stream.specs.declared.octets.Next.{Next}
use Rattle.asn1_ldap_stream.proofs.octets.lines_of.Goals as goal

pub loop-init : goal.loop-init
loop-init c = record {
  lines = subst (λ (text : List ℕ). AreLinesOf c.args.octets.now text 0) (sym c.new-text.ensures.items) none;
  within = omega arith;
}

pub loop-preserved : goal.loop-preserved
loop-preserved c =
    let octets = c.args.octets.now in
    let used = c.loop.used in
    let count = c.in-Lines.count in
    let lines = string_bytes c.in-Lines.lines in
    let rest = take (length octets - used) (drop used octets) in
    let begins : BeginWithLines 135 rest count lines = subst (λ (n : Next). IsNext 135 rest n) c.in-Lines.is c.in_ok-count.ensures in
    let next : BeginWithLines 135 (drop used octets) count lines = subst (λ (l : List ℕ). BeginWithLines 135 l count lines) (take_rest octets used) begins in
    record {
      lines = subst (λ (text : List ℕ). AreLinesOf octets text (used + count))
          (sym (c.in_ok-extend_from_slice-in-Lines.ensures.items ∙ ap (λ (l : List ℕ). c.loop.text.items ++ l) c.as_bytes.ensures.value))
          (one_more c.loop.text.items lines used count c.loop.invariant.lines next);
      within = omega (arith, c.loop.invariant.within, next.long, length-drop used octets);
    }
