-- Values that were written one after another are fronts, and come back equal.
use Rattle.std.proofs.Common.{◌≡◌, ℕ, ◌≤◌, List, [], ◌∷◌, inl, inr, arith, subst, sym}
use Rattle.std.specs.Prelude.{All, Bool, Err, IfOk, MatchResult, Ok, Option, None, Result, Some, Vec}
use Rattle.std.specs.Result.{IsErrAnd}
use Rattle.std.specs.declared.alloc.Global.{Global}
use Rattle.std.proofs.lemmas.List.Elements.{All-head, All-tail}
use Rattle.asn1_laws.specs.declared.decode_error.DecodeError.{DecodeError}
use Rattle.asn1_laws.specs.Reading.{MayFail}
use Rattle.asn1_model.specs.Meaning.{Meaning, own_records}
use Rattle.asn1_model.specs.Records.{highest}
use Rattle.asn1_rules.specs.Rules.{Format}
use Rattle.asn1_laws.specs.declared.encode_error.EncodeError.{EncodeError}
use Rattle.asn1_rules.specs.declared.round_trips.RoundTripError.{RoundTripError}
use Rattle.asn1_rules.specs.declared.pieces.Pieces.{Pieces}
use Rattle.asn1_rules.specs.Fronts.{BelongsTo, Fronts, IsSteady}
use Rattle.asn1_rules.specs.Outputs.{AreOutputs, no_output, output_and}
use Rattle.asn1_rules.specs.Pieces.{AreFronts, ComeBack, one_and, rest}

module _ {R V : Type 0} (F : Fronts R V) (reader : R) (format : Format (Vec ℕ Global)) (m : Meaning V) (eq : V → V → Bool) (belongs : BelongsTo F reader format m eq) where
  pub outputs_are_fronts : {depth : ℕ} {vs : List V} {bytes : List ℕ} → AreOutputs format m depth vs bytes →
      All (m.IsValid format.accepts) vs → AreFronts F reader vs bytes
  outputs_are_fronts no_output valid = rest
  outputs_are_fronts (output_and {v = v} {vs} output is others) valid =
      one_and output.items (belongs.whole output v is.of_type (All-head (m.IsValid format.accepts) v vs valid) is.carried) (outputs_are_fronts others (All-tail (m.IsValid format.accepts) v vs valid))

  may_fail : (depth : ℕ) (v : V) (e : DecodeError) → MayFail depth (F.height v) e → MayFail depth (highest (own_records m v)) e
  may_fail depth v e (inl memory) = inl memory
  may_fail depth v e (inr deep) = let low : F.height v ≤ highest (own_records m v) = belongs.as_deep v in inr (deep.0, omega (arith, deep.1))

  pub come_back_equal : (depth : ℕ) (ws vs : List V) (last : Option DecodeError) → ComeBack F.same F.height depth ws vs last →
      ComeBack eq (λ v. highest (own_records m v)) depth ws vs last
  come_back_equal depth [] [] last back = tt
  come_back_equal depth [] (v ∷ vs) None back = tt
  come_back_equal depth [] (v ∷ vs) (Some e) back = may_fail depth v e back
  come_back_equal depth (w ∷ ws) [] last back = tt
  come_back_equal depth (w ∷ ws) (v ∷ vs) last back = (belongs.equal w v back.0, come_back_equal depth ws vs last back.1)

  -- The values that were read of the pieces come back, also through an error that is put into another one.
  pub stream_comes_back : (read : Result (Pieces V) DecodeError) (answer : Result (Pieces V) RoundTripError) (post : DecodeError → RoundTripError → Type 0) (vs : List V) (bytes : List ℕ) →
      IsSteady F reader → AreFronts F reader vs bytes → MatchResult read (λ x. answer ≡ Ok x) (λ e. IsErrAnd answer (post e)) →
      IfOk read (λ x. (us : List V) → IsSteady F reader → AreFronts F reader us bytes → ComeBack F.same F.height (F.depth reader) x.values.items us x.last) →
      IfOk answer (λ x. ComeBack eq (λ v. highest (own_records m v)) (F.depth reader) x.values.items vs x.last)
  stream_comes_back (Ok x) answer post vs bytes steady fronts same came =
      subst (λ a. IfOk a (λ y. ComeBack eq (λ v. highest (own_records m v)) (F.depth reader) y.values.items vs y.last)) (sym same)
      (come_back_equal (F.depth reader) x.values.items vs x.last (came vs steady fronts))
  stream_comes_back (Err e) (Ok x) post vs bytes steady fronts same came = absurd same
  stream_comes_back (Err e) (Err d) post vs bytes steady fronts same came = tt

abbrev mapped : Vec ℕ Global → Result (Vec ℕ Global) RoundTripError
mapped bytes = Ok bytes

-- The list was written, if its answer is still one where an error would be put into another one.
pub was_written : {V : Type 0} (format : Format (Vec ℕ Global)) (m : Meaning V) (depth : ℕ) (vs : List V) (written : Result (Vec ℕ Global) EncodeError) (bytes : Vec ℕ Global) →
    MatchResult written (λ x. mapped bytes ≡ Ok x) (λ e. ⊥) →
    IfOk written (λ x. AreOutputs format m depth vs x.items) → AreOutputs format m depth vs bytes.items
was_written format m depth vs (Ok x) bytes same outputs = let is : bytes ≡ x = cc in subst (λ b. AreOutputs format m depth vs b.items) (sym is) outputs
was_written format m depth vs (Err e) bytes same outputs = absurd same
