-- A canonical reader is steady if the inner reader is, and belongs to the rules by which each value has one spelling.
use Rattle.std.proofs.Common.{◌≡◌, ◌<◌, ◌⊎◌, inl, inr, ℕ, Bool, List, ◌++◌, ap, subst, sym, ◌∙◌, arith, get_or, Fits, w8}
use Rattle.std.proofs.Math.Seq.{take-length}
use Rattle.std.proofs.Math.Facts.{Fits-lt-pow}
use Rattle.std.proofs.lemmas.List.{get_or-take, get_or_default, length-take, take-append-le}
use Rattle.std.specs.Prelude.{Vec, min, take}
use Rattle.std.specs.declared.alloc.Global.{Global}
use Rattle.asn1_laws.specs.Reading.{MayFail}
use Rattle.asn1_laws.specs.declared.decode_error.DecodeError.{DecodeError}
use Rattle.asn1_laws.specs.declared.encode_error.EncodeError.{EncodeError}
use Rattle.asn1_laws.specs.declared.encode_error.EncodeError.TheVariants as writing
use Rattle.asn1_model.specs.Meaning.{Meaning, own_records}
use Rattle.asn1_model.specs.Records.{highest}
use Rattle.asn1_rules.specs.CanonicalFronts.{HasOneSpellingEach, IsCanonicalFront, as_error_of_reading, canonical_fronts}
use Rattle.asn1_rules.specs.CanonicalReading.{AreOctets, HasOneSpelling, IsSpelled}
use Rattle.asn1_rules.specs.Fronts.{BelongsTo, Fronts, IsLawful, IsSteady}
use Rattle.asn1_rules.specs.Rules.{Format}
use Rattle.asn1_rules.specs.declared.canonical_reader.CanonicalReader.{CanonicalReader}

-- the first of some octets are octets
pub first_octets : (bytes : List ℕ) (n : ℕ) → ((i : ℕ) → Fits w8 (get_or bytes i 0)) → AreOctets (take n bytes)
first_octets bytes n fits = λ k d within.
    let short = length-take n bytes in
    let same = get_or-take n bytes k d (omega (arith, short, within)) in
    rw same (rw (get_or_default bytes k d 0 (omega (arith, short, within))) (Fits-lt-pow (fits k)))

-- writing that fails for memory or depth is a reading that may fail
pub fails_too : (a b height : ℕ) (e : EncodeError) (answer : DecodeError) → answer ≡ as_error_of_reading e →
    (e ≡ writing.Memory) ⊎ ((e ≡ writing.Depth) × (b < height)) → MayFail (min a b) height answer
fails_too a b height e answer is (inl memory) = inl (is ∙ ap as_error_of_reading memory)
fails_too a b height e answer is (inr deep) = inr (is ∙ ap as_error_of_reading deep.0, omega (arith, deep.1))

module _ {F R V : Type 0} (inner : Fronts F V) (lawful : IsLawful inner) (format : Format (Vec ℕ Global)) (m : Meaning V) (reader : CanonicalReader F R) where
  -- the first bytes are the same, whatever follows
  same_first : (bytes behind : List ℕ) (n : ℕ) → inner.cut reader.reader bytes n → take n bytes ≡ take n (bytes ++ behind)
  same_first bytes behind n cut = sym (take-append-le n bytes behind (lawful.within reader.reader bytes n cut))

  front_remains : IsSteady inner reader.reader → (bytes behind : List ℕ) (v : V) (n : ℕ) →
      IsCanonicalFront inner format m reader.reader bytes v n → IsCanonicalFront inner format m reader.reader (bytes ++ behind) v n
  front_remains steady bytes behind v n front =
      let same = same_first bytes behind n (lawful.is_cut reader.reader bytes v n front.front) in
      record {
        front = steady.front_remains bytes behind v n front.front;
        spelled = subst (λ own. IsSpelled format m v own) same front.spelled;
        only_spelling = subst (λ own. AreOctets own → HasOneSpelling format m inner.same v own) same front.only_spelling;
        as_deep = front.as_deep;
      }

  pub canonical_steady : IsSteady inner reader.reader → IsSteady (canonical_fronts inner format m {R = R}) reader
  canonical_steady steady = record {
    cut_remains = λ bytes behind n cut.
        (steady.cut_remains bytes behind n cut.0, (cut.1.0, subst (λ own. IsSpelled format m cut.1.0 own) (same_first bytes behind n cut.0) cut.1.1));
    front_remains = λ bytes behind v n front. front_remains steady bytes behind v n front;
    one_cut = λ bytes m n a b. steady.one_cut bytes m n a.0 b.0;
  }

  pub canonical_belongs : (eq : V → V → Bool) → HasOneSpellingEach inner format m → BelongsTo inner reader.reader format m eq →
      BelongsTo (canonical_fronts inner format m {R = R}) reader format m eq
  canonical_belongs eq each belongs = record {
    whole = λ output v of_type valid carried.
        let all = sym (take-length output.items) in
        record {
          front = belongs.whole output v of_type valid carried;
          spelled = (
            highest (own_records m v),
            record {
              output = output;
              has_bytes = all;
              written = record { carried = carried; within_depth_left = omega arith; of_type = of_type };
            },
          );
          only_spelling = subst (λ own. AreOctets own → HasOneSpelling format m inner.same v own) all (λ octets. each output v octets of_type valid carried);
          as_deep = belongs.as_deep v;
        };
    only = λ output w is. belongs.only output w is.0;
    equal = λ w v same. belongs.equal w v same;
    as_deep = λ v. omega arith;
  }
