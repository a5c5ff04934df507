use Rattle.std.proofs.lemmas.Int.{to_z-of_z}
use Rattle.asn1_elements.specs.Decoder.{element_reader}
use Rattle.asn1_laws.specs.ReadingExactly.{HasReadContent}
use Rattle.asn1_elements.proofs.ReadExactly.{read_as_answered}
use Rattle.asn1_model.specs.RecordTables.{no_table}
use Rattle.std.proofs.Common.{SFits, refl, rules, subst, sym, w64}
use Rattle.std.proofs.lemmas.Result.{err_from_is_err_and}
use Rattle.asn1_components.specs.Labels.{all_labels}
use Rattle.asn1_model.specs.ConstraintSets.{unconstrained}
use Rattle.asn1_model.specs.Records.{discriminant}
use Rattle.asn1_components.proofs.NumbersInTables.{same_has_item}
use Rattle.asn1_elements.proofs.decoder.ElementDecoderDecoder.decode_enumerated_number.Goals as goal

pub returns-in_err-number-clause-read : goal.returns-in_err-number-clause-read
returns-in_err-number-clause-read g c = λ z n rest outer there at.
    let p = err_from_is_err_and c.from_residual.result c.from_residual.ensures.1 in
    rw (p.1, p.2) (c.in_err-number.ensures.read (discriminant g.E.EnumeratedTable.labels) (λ x. record { kind = refl; octets = λ own p. p }) unconstrained z n rest outer tt at)

pub returns-in-Some-clause-read : goal.returns-in-Some-clause-read
returns-in-Some-clause-read g c = λ z n rest outer there at.
    let m = c.in_ok-number.ensures.read (discriminant g.E.EnumeratedTable.labels) (λ x. record { kind = refl; octets = λ own p. p }) unconstrained z n rest outer tt at in
    search rules

pub returns-in-None-clause-read : goal.returns-in-None-clause-read
returns-in-None-clause-read g c = λ z n rest outer there at.
    let m = c.in_ok-number.ensures.read (discriminant g.E.EnumeratedTable.labels) (λ x. record { kind = refl; octets = λ own p. p }) unconstrained z n rest outer tt at in
    let ls = all_labels g.E.EnumeratedTable.labels in
    absurd (same_has_item ls _ z there c.in-None.ensures (let answer = m.answer in search rules))

pub returns-in-Some-clause-only : goal.returns-in-Some-clause-only
returns-in-Some-clause-only g c =
    let fits : SFits w64 c.in_ok-number.number = search rules in
    subst (λ z. HasReadContent (element_reader g.F.ElementForm.form) c.args.self.now c.scalar.new.self c.args.tag unconstrained (discriminant g.E.EnumeratedTable.labels z)) (sym (to_z-of_z w64 c.in_ok-number.number fits))
    (read_as_answered c.args.tag c.args.self.now c.scalar.new.self (discriminant no_table) (discriminant g.E.EnumeratedTable.labels) unconstrained c.in_ok-number.number (λ x. record { kind = refl; octets = λ own p. p }) c.in_ok-number.ensures.carried)
