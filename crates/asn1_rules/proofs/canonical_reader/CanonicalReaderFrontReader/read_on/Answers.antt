use Rattle.std.proofs.Common.{◌≡◌, ap, inl, inr, refl, slice_get, subst, sym, ◌∙◌}
use Rattle.std.proofs.lemmas.List.{length-take-le}
use Rattle.std.specs.Prelude.{take}
use Rattle.asn1_model.specs.Records.{highest}
use Rattle.asn1_model.specs.Meaning.{own_records}
use Rattle.asn1_rules.proofs.CanonicalFronts.{fails_too, first_octets}
use Rattle.asn1_rules.proofs.Spellings.{not_written, spelled}
use Rattle.asn1_rules.specs.CanonicalReading.{AreOctets}
use Rattle.asn1_rules.proofs.canonical_reader.CanonicalReaderFrontReader.read_on.Goals as goal

pub returns-in-Err-clause-read : goal.returns-in-Err-clause-read
returns-in-Err-clause-read g c = λ came v n front.
    let inner = g.F.FrontReader.fronts in
    let format = g.R.Rules.format in
    let m = g.T.AsnType.meaning in
    let same = (c.in_ok-value.ensures.read came).as_written v n front.front in
    let why = not_written format g.met.R.Rules.lawful m inner.same v (take n c.args.input.now) (front.only_spelling (first_octets c.args.input.now n c.type_inv.input)) c.in_ok-value.value same.1 c.args.self.now.depth c.in-Err.error c.in-Err.ensures in
    fails_too (inner.depth c.args.self.now.reader) c.args.self.now.depth (highest (own_records m v)) c.in-Err.error c.as_error_of_reading.result c.as_error_of_reading.ensures why

pub returns-in-Err-clause-departs : goal.returns-in-Err-clause-departs
returns-in-Err-clause-departs g c = λ came. inr (inl (record {
  answer = (c.in_ok-value.value, c.in_ok-value.length);
  may_be_read = c.in_ok-value.ensures.read came;
  refusal = c.in-Err.error;
  not_written = c.in-Err.ensures;
  is = c.as_error_of_reading.ensures;
}))

pub returns-in-None-clause-read : goal.returns-in-None-clause-read
returns-in-None-clause-read g c = λ came. record {
  cut = (
    (c.in_ok-value.ensures.read came).cut,
    (
      c.in_ok-value.value,
      (
        c.args.self.now.depth,
        record {
          output = c.in-Ok.output;
          has_bytes = sym c.deref.ensures.value ∙ sym c.in-None.ensures.first;
          written = c.in-Ok.ensures;
        },
      ),
    ),
  );
  is_read = (
    (c.in_ok-value.ensures.read came).is_read,
    (
      c.args.self.now.depth,
      record {
        output = c.in-Ok.output;
        has_bytes = sym c.deref.ensures.value ∙ sym c.in-None.ensures.first;
        written = c.in-Ok.ensures;
      },
    ),
  );
  as_written = λ v n front. (c.in_ok-value.ensures.read came).as_written v n front.front;
}

pub returns-in-None-clause-canonical : goal.returns-in-None-clause-canonical
returns-in-None-clause-canonical g c = λ came. record {
  output = c.in-Ok.output;
  has_bytes = sym c.deref.ensures.value ∙ sym c.in-None.ensures.first;
  written = c.in-Ok.ensures;
}

pub returns-in-Some-clause-departs : goal.returns-in-Some-clause-departs
returns-in-Some-clause-departs g c = λ came. inr (inr (record {
  answer = (c.in_ok-value.value, c.in_ok-value.length);
  bytes = c.deref.result.now;
  at = c.in-Some._at;
  may_be_read = c.in_ok-value.ensures.read came;
  written = record {
    output = c.in-Ok.output;
    has_bytes = sym c.deref.ensures.value;
    written = c.in-Ok.ensures;
  };
  first = c.in-Some.ensures.first;
  is = refl;
}))

pub slice_bounds-first_difference-end : goal.slice_bounds-first_difference-end
slice_bounds-first_difference-end g c = sym (length-take-le c.in_ok-value.length c.args.input.now c.in_ok-value.ensures.within)

pub returns-in-Some-clause-read : goal.returns-in-Some-clause-read
returns-in-Some-clause-read g c = λ came v n front.
    let inner = g.F.FrontReader.fronts in
    let format = g.R.Rules.format in
    let m = g.T.AsnType.meaning in
    let input = c.args.input.now in
    let same = (c.in_ok-value.ensures.read came).as_written v n front.front in
    let octets : AreOctets c.in-Ok.output.items = subst AreOctets c.deref.ensures.value c.in-Some.ensures.right in
    let written = spelled format g.met.R.Rules.lawful m inner.same v (take n input) (front.only_spelling (first_octets input n c.type_inv.input)) c.in_ok-value.value same.1 c.args.self.now.depth c.in-Ok.output octets c.in-Ok.ensures in
    let whole : take c.in_ok-value.length input ≡ c.deref.result.now = ap (λ k. take k input) same.0 ∙ sym written ∙ sym c.deref.ensures.value in
    absurd (c.in-Some.ensures.first.differ (ap (λ l. slice_get l c.in-Some._at) whole))
