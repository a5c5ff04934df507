use Rattle.std.proofs.Common.{[], ◌∷◌, append_assoc, refl, ◌∙◌}
use Rattle.asn1_ber_items.specs.Segments.{octets_of_each}
use Rattle.asn1_ber_items.proofs.segments.Segments.make_room.Goals as goal

pub returns : goal.returns
returns c = λ counted. record {
  after = [] ∷ [];
  are = c.in_ok-begin_segment.ensures.segments ∙ append_assoc (octets_of_each c.args.self.now.full.items) (c.args.self.now.last.items ∷ []) ([] ∷ []);
  none_after = refl;
  counted = c.in_ok-begin_segment.ensures.counted counted;
}
