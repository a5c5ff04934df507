use Rattle.std.proofs.Common.{eq-eqb, eqb-true, sym, ◌∙◌, arith}
use Rattle.asn1_ber_items.specs.Segments.{octets_of_each}
use Rattle.asn1_ber_items.proofs.Joined.{no_octets, none_of}
use Rattle.asn1_ber_items.proofs.segments.Segments.is_empty.Goals as goal

pub returns-then-self-gt0 : goal.returns-then-self-gt0
returns-then-self-gt0 c = λ counted. (
  λ wrong. cc,
  λ none. absurd (omega (arith, c.if-self-gt0.true, counted, none_of (octets_of_each c.args.self.now.full.items) c.args.self.now.last.items none)),
)

pub returns : goal.returns
returns c = λ counted. (
  λ none. no_octets (octets_of_each c.args.self.now.full.items) c.args.self.now.last.items (omega (arith, c.if-self-gt0.false, counted))
      (omega (arith, c.args.self.now.last.ok.0, eqb-true c.args.self.now.last.len 0 (sym c.is_empty.ensures ∙ none))),
  λ none. c.is_empty.ensures ∙ eq-eqb c.args.self.now.last.len 0 (omega (arith, c.args.self.now.last.ok.0, none_of (octets_of_each c.args.self.now.full.items) c.args.self.now.last.items none)),
)
