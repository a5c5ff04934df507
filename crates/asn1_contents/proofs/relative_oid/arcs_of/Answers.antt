use Rattle.std.proofs.Common.{◌≡◌, List, ℕ, ◌∷◌, subst, sym, ap, ◌∙◌}
use Rattle.std.specs.Prelude.{drop}
use Rattle.asn1_der_items.specs.Arcs.{AreArcs}
use Rattle.asn1_contents.proofs.NumbersOfArcs.{rooted}
use Rattle.asn1_contents.proofs.relative_oid.arcs_of.Goals as goal

pub returns-in-Ok-clause-read : goal.returns-in-Ok-clause-read
returns-in-Ok-clause-read c = λ list fit are.
    (let octets : 0 ∷ c.args.octets.now ≡ c.deref.result.now = cc (c.deref.ensures.value, c.in_ok-rooted.ensures) in
    let read : c.in-Ok.arcs.items ≡ 0 ∷ 0 ∷ list = c.in-Ok.ensures.read (0 ∷ 0 ∷ list) (subst (AreArcs (0 ∷ 0 ∷ list)) octets (rooted list c.args.octets.now fit are)) in
    let all : c.deref-in-Ok.result.now ≡ 0 ∷ 0 ∷ list = c.deref-in-Ok.ensures.value ∙ read in
    c.in_ok-without_root-in-Ok.ensures ∙ ap (drop 2) all)

pub returns-clause-read : goal.returns-clause-read
returns-clause-read c = λ list fit are.
    (let octets : 0 ∷ c.args.octets.now ≡ c.deref.result.now = cc (c.deref.ensures.value, c.in_ok-rooted.ensures) in
    c.reading_error.ensures.memory (c.in-Err.ensures.read (0 ∷ 0 ∷ list) (subst (AreArcs (0 ∷ 0 ∷ list)) octets (rooted list c.args.octets.now fit are))))
