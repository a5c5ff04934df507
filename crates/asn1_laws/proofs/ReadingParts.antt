-- How a component of a SET is read, by its type.
use Rattle.std.proofs.Common.{◌≡◌, ◌≢◌, ℕ, Bool, true, cond, List, [], ◌∷◌, Option, None, Some, Result, Ok, Err, refl, ap, sym, ◌∙◌, subst}
use Rattle.std.specs.Option.{IfSome, option_eq, option_map}
use Rattle.std.specs.Result.{IsOkAnd, MatchResult}
use Rattle.asn1_components.specs.ComponentLists.{EachIsWellTagged, EachIsOfType, EachIsValid}
use Rattle.asn1_components.specs.ComponentTypes.{ComponentType}
use Rattle.asn1_laws.specs.Reading.{Remaining, MayFail, HasAdvanced, Advances, Reader, ReadsBack, Outside}
use Rattle.asn1_laws.specs.declared.decode_error.DecodeError.{DecodeError}
use Rattle.asn1_model.specs.Composites.{option_records}
use Rattle.asn1_model.specs.Records.{Record, Side, unmarked}
use Rattle.asn1_model.specs.TaggedTypes.{TaggedType}
use Rattle.asn1_model.specs.Tags.{IsOneRecord, Tags}
use Rattle.asn1_laws.specs.SetParts.{ReadsPart, written_of}

-- one record has no marks
one_unmarked : (tags : Tags) (rs : List Record) → IsOneRecord tags rs → unmarked rs ≡ rs
one_unmarked tags rs one = ap unmarked one.alone ∙ ap (λ b. cond b [] (one.item ∷ [])) one.no_mark ∙ sym one.alone

module _ {D P W : Type 0} (R : Reader D) (old new : D) (make : W → P) where
  -- the part that is made of what was read
  made_part : (height : ℕ) (before after : Remaining) (Is : W → Type 0) (As : P → Type 0) (result : Result W DecodeError) (made : Result P DecodeError) → ((w : W) → Is w → As (make w)) →
      MatchResult result (λ w. IsOkAnd made (λ p. p ≡ make w)) (λ e. made ≡ Err e) → Advances R old new height before after Is result → Advances R old new height before after As made
  made_part height before after Is As (Ok w) (Ok p) gives is moves at = let m = moves at in record { answer = subst As (sym is) (gives w m.answer); at = m.at; within_depth_left = m.within_depth_left }
  made_part height before after Is As (Ok w) (Err e) gives is moves at = absurd is
  made_part height before after Is As (Err e) made gives is moves at =
      subst (λ r. MatchResult r (λ p. HasAdvanced R old new height after (As p)) (MayFail (R.depth_left old) height)) (sym is) (moves at)

  module _ {V : Type 0} (cs : List (ComponentType V)) (index_of : P → ℕ) (IsPartOf : V → P → Type 0) (type : TaggedType W) (eq : W → W → Bool) (k index : ℕ) (result : Result W DecodeError) (made : Result P DecodeError) where
    abbrev ReadsOne : Type 0
    ReadsOne = type.IsWellTagged → (w : W) (rest : List Record) (outer : Outside) → type.IsOfType w → type.IsValid R.accepts w → ReadsBack R old new (type.records w) rest outer (λ x. eq x w ≡ true) result

    one_part : (v : V) (w : W) (rest : List Record) (outer : Outside) → ReadsOne → MatchResult result (λ x. IsOkAnd made (λ p. p ≡ make x)) (λ e. made ≡ Err e) →
        ((x : W) → eq x w ≡ true → (index_of (make x) ≡ k) × IsPartOf v (make x)) → type.IsWellTagged → type.IsOfType w → type.IsValid R.accepts w → (rs : List Record) → rs ≡ unmarked (type.records w) →
        ReadsBack R old new rs rest outer (λ p. (index_of p ≡ k) × IsPartOf v p) made
    one_part v w rest outer reads cases is can of_type valid rs same =
        subst (λ l. ReadsBack R old new l rest outer (λ p. (index_of p ≡ k) × IsPartOf v p) made) (sym (same ∙ one_unmarked _ (type.records w) (type.one_record can w)))
        (made_part _ _ _ (λ x. eq x w ≡ true) (λ p. (index_of p ≡ k) × IsPartOf v p) result made is cases (reads can w rest outer of_type valid))

    -- of a component that is always there
    pub required_part : index ≡ k → (get : V → W) → ((v : V) → written_of cs v k ≡ unmarked (type.records (get v))) → (EachIsWellTagged cs → type.IsWellTagged) →
        ((v : V) → EachIsOfType cs v → type.IsOfType (get v)) → ((v : V) → EachIsValid cs R.accepts v → type.IsValid R.accepts (get v)) →
        ReadsOne → MatchResult result (λ x. IsOkAnd made (λ p. p ≡ make x)) (λ e. made ≡ Err e) →
        ((v : V) (x : W) → eq x (get v) ≡ true → (index_of (make x) ≡ k) × IsPartOf v (make x)) →
        ReadsPart cs index_of IsPartOf R index old new made
    required_part own get written can of_type valid reads cases is =
        subst (λ j. ReadsPart cs index_of IsPartOf R j old new made) (sym own) (λ v rest outer can_all of_types valids there.
        one_part v (get v) rest outer reads cases (is v) (can can_all) (of_type v of_types) (valid v valids) (written_of cs v k) (written v))

    -- of one that may be absent
    pub optional_part : (side : Side) → index ≡ k → (get : V → Option W) → ((v : V) → written_of cs v k ≡ unmarked (option_records side type.tag (option_map type.records (get v)))) → (EachIsWellTagged cs → type.IsWellTagged) →
        ((v : V) → EachIsOfType cs v → IfSome (get v) type.IsOfType) → ((v : V) → EachIsValid cs R.accepts v → IfSome (get v) (type.IsValid R.accepts)) →
        ReadsOne → MatchResult result (λ x. IsOkAnd made (λ p. p ≡ make x)) (λ e. made ≡ Err e) →
        ((v : V) (x : W) → option_eq eq (Some x) (get v) ≡ true → (index_of (make x) ≡ k) × IsPartOf v (make x)) →
        ReadsPart cs index_of IsPartOf R index old new made
    optional_part side own get written can of_type valid reads cases is =
        subst (λ j. ReadsPart cs index_of IsPartOf R j old new made) (sym own) (λ v rest outer can_all of_types valids there.
        where_there v rest outer can_all there (get v) (of_type v of_types) (valid v valids) (written v) (is v))
      where
        where_there : (v : V) (rest : List Record) (outer : Outside) → EachIsWellTagged cs → written_of cs v k ≢ [] → (o : Option W) → IfSome o type.IsOfType → IfSome o (type.IsValid R.accepts) →
            written_of cs v k ≡ unmarked (option_records side type.tag (option_map type.records o)) → ((x : W) → option_eq eq (Some x) o ≡ true → (index_of (make x) ≡ k) × IsPartOf v (make x)) →
            ReadsBack R old new (written_of cs v k) rest outer (λ p. (index_of p ≡ k) × IsPartOf v p) made
        where_there v rest outer can_all there None of_type valid same is = absurd (there same)
        where_there v rest outer can_all there (Some w) of_type valid same is = one_part v w rest outer reads cases is (can can_all) of_type valid (written_of cs v k) same
