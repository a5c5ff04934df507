use Rattle.std.proofs.Common.{◌∷◌, ◌++◌, [], length, length-append, ap, arith}
use Rattle.std.proofs.lemmas.List.{length-map}
use Rattle.std.specs.Prelude.{Vec, ℕ}
use Rattle.std.specs.declared.alloc.Global.{Global}
use Rattle.asn1_ber_items.specs.Segments.{octets_of_each}
use Rattle.asn1_ber_items.proofs.segments.Segments.begin_constructed.Goals as goal

pub returns : goal.returns
returns c = λ counted.
    let a = c.in_ok-begin_element.ensures in
    let full = c.args.self.now.full in
    record {
      front = a.added;
      begun = a.is;
      are = ap (λ l. octets_of_each full.items ++ l ∷ []) a.joined;
      segment = omega (arith, c.len.ensures, full.ok.0, length-map full.items (λ (b : Vec ℕ Global). b.items));
      index = omega (arith, c.len-2.ensures, c.begin_element.new.bytes.ok.0, ap length a.joined, ap length a.is.are, length-append a.is.identifier (a.is.room ∷ []), length-append c.args.self.now.last.items a.added);
      counted = counted;
    }
