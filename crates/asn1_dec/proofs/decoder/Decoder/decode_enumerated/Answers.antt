use Rattle.std.proofs.Common.{◌≡◌, Bool, Result, [], ◌∷◌, true, sym, subst}
use Rattle.std.specs.Cmp.{IsEquivalence}
use Rattle.std.specs.Prelude.{⊤}
use Rattle.asn1_laws.proofs.ReadingChoices.{leaves_kept}
use Rattle.asn1_laws.proofs.ReadingSteps.{in_other_words, same_is_equal}
use Rattle.asn1_laws.specs.Reading.{Reader, ReadsBack, ReadsValue}
use Rattle.asn1_laws.specs.ReadingTypes.{ReadsContent}
use Rattle.asn1_laws.specs.declared.decode_error.DecodeError.{DecodeError}
use Rattle.asn1_model.specs.ConstraintSets.{unconstrained}
use Rattle.asn1_model.specs.Meaning.{Meaning}
use Rattle.asn1_model.specs.Records.{Content, Name, scalar}
use Rattle.asn1_tags.specs.declared.tags.Tag.{Tag}
use Rattle.asn1_laws.proofs.ReadingWhole.{value_of_content}
use Rattle.asn1_dec.proofs.decoder.Decoder.decode_enumerated.Goals as goal

-- the value of a type is read where its content is
of_content : {D V : Type 0} (R : Reader D) (m : Meaning V) (eq : V → V → Bool) (content : V → Content) (t : Tag) (old new : D) (result : Result V DecodeError) →
    IsEquivalence eq → ((v : V) (n : Name) → m.records v t unconstrained n ≡ scalar t unconstrained n (content v) ∷ []) →
    ReadsContent R t unconstrained content (λ _. ⊤) (λ w v. w ≡ v) old new result → ReadsValue R m eq t unconstrained old new result
of_content R m eq content t old new result law has reads v n rest outer distinct of_type valid follow =
    subst (λ rs. ReadsBack R old new rs rest outer (λ w. eq w v ≡ true) result) (sym (has v n))
    (in_other_words R old new _ _ _ result (λ w. same_is_equal law w v) (reads v n rest outer tt))

pub returns-clause-value : goal.returns-clause-value
returns-clause-value g c =
    of_content g.Self.Decoder.reader g.E.AsnType.meaning g.E.PartialEq.eq _ c.args.tag _ _ c.read_enumerated.result g.met.E.Eq.laws
    (λ v n. g.met.E.Enumerated.agrees.records v c.args.tag unconstrained n) c.read_enumerated.ensures.read

pub returns-clause-after_reading : goal.returns-clause-after_reading
returns-clause-after_reading g c = λ constraints.
    leaves_kept g.Self.Decoder.reader g.E.AsnType.meaning c.args.tag constraints _ _ _ c.read_enumerated.ensures.opens_nothing.keeps_depth

pub returns-clause-only_value : goal.returns-clause-only_value
returns-clause-only_value g c =
    value_of_content g.Self.Decoder.reader g.E.AsnType.meaning _ c.args.tag unconstrained unconstrained _ _ c.read_enumerated.result
    (λ v n. g.met.E.Enumerated.agrees.records v c.args.tag unconstrained n) c.read_enumerated.ensures.only
