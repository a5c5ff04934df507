use Rattle.std.proofs.Common.{rules, ℕ, List, ◌≡◌, ◌∷◌, ◌++◌, [], append_assoc, length-append, sym, ◌∙◌, arith}
use Rattle.asn1_items.specs.Headers.{tag_bytes}
use Rattle.asn1_items.specs.Kinds.{scope_byte}
use Rattle.asn1_items.specs.Numbers.{four_bytes}
use Rattle.asn1_items.proofs.bytes.push_scope_header.Goals as goal

pub returns-clause-appended : goal.returns-clause-appended
returns-clause-appended c = λ starts.
    let before = c.args.bytes.now.items ++ scope_byte c.args.kind ∷ tag_bytes c.args.tag in
    let zeros : List ℕ = 0 ∷ 0 ∷ 0 ∷ 0 ∷ [] in
    let joined : c.extend_from_slice.new.self.items ≡ c.args.bytes.now.items ++ (scope_byte c.args.kind ∷ (tag_bytes c.args.tag ++ zeros)) = search rules in
    let appended : c.extend_from_slice.new.self.items ≡ before ++ (four_bytes 0 ++ []) = joined ∙ sym (append_assoc c.args.bytes.now.items (scope_byte c.args.kind ∷ tag_bytes c.args.tag) zeros) in
    (c.exchange.ensures before [] 0 (omega arith) appended (omega (arith, starts, length-append c.args.bytes.now.items (scope_byte c.args.kind ∷ tag_bytes c.args.tag)))).0
