-- The facts for the reader of an `Open`: an INSTANCE OF around one is well tagged, and what is read as such is read as the alternative.
use Rattle.std.proofs.Common.{◌≡◌, Bool, Result, Ok, Err, inl, rules}
use Rattle.std.specs.Global.{Box}
use Rattle.std.specs.Prelude.{IfOk, MatchResult, Some, codes}
use Rattle.asn1_laws.specs.Reading.{Reader, ReadsValue}
use Rattle.asn1_laws.specs.ReadingExactly.{HasReadValue}
use Rattle.asn1_laws.specs.declared.decode_error.DecodeError.{DecodeError}
use Rattle.asn1_laws.specs.declared.decode_error.DecodeError.TheVariants.{Memory}
use Rattle.asn1_model.specs.ConstraintSets.{unconstrained}
use Rattle.asn1_model.specs.Meaning.{IsWellTagged}
use Rattle.asn1_model.specs.TaggedTypes.{untagged}
use Rattle.asn1_model.specs.Tags.{universal}
use Rattle.asn1_nesting.specs.InsideItself.{eq_in_box}
use Rattle.asn1_slots.specs.Cases.{ReadsValueOf}
use Rattle.asn1_types.specs.declared.instance_of.InstanceOf.{InstanceOf as Instance}
use Rattle.asn1_open.specs.OpenAlternatives.{inner_instance, instance_type, open_meaning}
use Rattle.asn1_open.specs.declared.open_value.Open.{Open}

instance_can : IsWellTagged (instance_type open_meaning)
instance_can = search rules

pub in_its_box : {D : Type 0} (R : Reader D) (eq : Instance Open → Instance Open → Bool) (old new : D) (answer : Result (Instance Open) DecodeError)
    (result : Result (Box (Instance Open)) DecodeError) → ReadsValue R (instance_type open_meaning) eq (universal 8) unconstrained old new answer →
    IfOk answer (HasReadValue R old new (instance_type open_meaning) (universal 8) unconstrained) →
    MatchResult answer (λ v. MatchResult result (λ b. b.value ≡ v) (λ e. e ≡ Memory)) (λ e. result ≡ Err e) →
    ReadsValueOf R (untagged inner_instance) (eq_in_box eq) old new result
in_its_box R eq old new (Ok w) (Ok b) reads was same = record {
  reads = λ v rest outer can of_type valid at.
      let r = reads v.value (Some (codes "SEQUENCE")) rest outer instance_can.1 of_type valid (inl tt) at in
      record { answer = rw same r.answer; at = r.at; within_depth_left = r.within_depth_left };
  exactly = rw same was;
}
in_its_box R eq old new (Ok w) (Err e) reads was memory = record { reads = λ v rest outer can of_type valid at. inl memory; exactly = tt }
in_its_box R eq old new (Err e) result reads was same =
    rw same (record { reads = λ v rest outer can of_type valid at. reads v.value (Some (codes "SEQUENCE")) rest outer instance_can.1 of_type valid (inl tt) at; exactly = tt })
