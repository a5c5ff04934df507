-- The kinds of type of this crate, and what each of them means.
use Rattle.std.specs.Prelude.{◌≡◌, ℕ, ⊤, true, false, List, [], ◌∷◌, IsTrue, None, Some, codes, refl}
use Rattle.std.proofs.Common.{subst}
use Rattle.asn1_tags.specs.declared.tags.Tag.{Tag}
use Rattle.asn1_tags.specs.Trees.{leaf, choice, none}
use Rattle.asn1_model.specs.ConstraintSets.{unconstrained}
use Rattle.asn1_model.specs.Composites.{open_type_records}
use Rattle.asn1_model.specs.Readings.{IsOpenType, IsReadInside}
use Rattle.asn1_model.specs.Records.{Record, explicit_tag, open_type, sequence, set_of}
use Rattle.asn1_model.specs.Kinds.{elements_type, object_identifier, scope_type}
use Rattle.asn1_model.specs.Meaning.{IsReadAsOwn, Meaning, own_is_read, tags, own_records, IsWellTagged}
use Rattle.asn1_model.specs.TaggedTypes.{explicitly_tagged_as, untagged}
use Rattle.asn1_model.specs.Tags.{universal, context, CHOICE, IsATag, LiesIn, first_tags, only}
use Rattle.asn1_fields.specs.FieldViews.{FieldView, view}
use Rattle.asn1_fields.specs.declared.presence.FieldPresence.TheVariants.{Required}
use Rattle.asn1_components.specs.ComponentTypes.{required}
use Rattle.asn1_components.specs.ComponentLists.{AreReadInTurn}
use Rattle.asn1_components.specs.Components as components
use Rattle.asn1_components.specs.Components.{Components, all_components, rows}

-- A SET OF (X.680, 28).
abbrev pub set_of_type : {V W : Type 0} → (W → List V) → Meaning V → Meaning W
set_of_type = elements_type set_of (λ _ _ _. refl) (universal 17) (codes "SET_OF") unconstrained

-- An open type (X.681, 14): a value of any type, as the bytes that a codec makes of it. It has no tag and can begin with
-- every one. It is valid if and only if the codec accepts the bytes as one value.
abbrev pub any_type : {V : Type 0} → (V → List ℕ) → Meaning V
any_type bytes = record {
  tag = CHOICE;
  name = None;
  constraints = unconstrained;
  tree = λ _. choice none;
  is_choice = false;
  is_present = λ _. true;
  records = λ v t c n. open_type_records n (bytes v);
  IsReadAs = λ v t c. IsOpenType (bytes v);
  reads_own = λ v t c n. (n, refl);
  IsSingleRecord = ⊤;
  HasDistinctTags = λ _. ⊤;
  IsOfType = λ _. ⊤;
  IsValid = λ accepts v. IsTrue (accepts (bytes v));
  one_record = λ v t c n _ _. record { item = open_type n (bytes v); alone = refl; no_mark = refl; within = tt };
  well_formed = λ accepts v t c n valid. (valid, tt);
}

-- A type under another tag, which replaces its own (X.680, 31). The tag is not the CHOICE marker tag, and a value
-- of the content begins with it alone: so the content is no open type.
abbrev pub implicit_type : {V W : Type 0} → Tag → (W → V) → Meaning V → Meaning W
implicit_type tag content m = record {
  tag = tag;
  name = None;
  constraints = unconstrained;
  tree = leaf;
  is_choice = false;
  is_present = λ _. true;
  records = λ w t c n. m.records (content w) t c n;
  IsReadAs = λ w. m.IsReadAs (content w);
  reads_own = λ w. m.reads_own (content w);
  IsSingleRecord = m.IsSingleRecord;
  HasDistinctTags = λ t. IsATag t × m.HasDistinctTags t × (tags m t ≡ only t);
  IsOfType = λ w. m.IsOfType (content w);
  IsValid = λ accepts w. m.IsValid accepts (content w);
  well_formed = λ accepts w. m.well_formed accepts (content w);
  one_record = λ w t c n single well.
      let one = m.one_record (content w) t c n single well.1 in
      record {
        item = one.item;
        alone = one.alone;
        no_mark = one.no_mark;
        within = subst (LiesIn (first_tags (m.records (content w) t c n))) well.2 one.within;
      };
}

-- A type after another tag, which comes before its own (X.680, 31). The tag is not the CHOICE marker tag.
abbrev pub explicit_type : {V W : Type 0} → Tag → (W → V) → Meaning V → Meaning W
explicit_type tag content m =
    scope_type (λ t c n. explicit_tag t n) (λ _ _ _. refl) tag unconstrained None (record {
      records = λ w. own_records m (content w);
      AreReadAs = λ w. IsReadAsOwn m (content w);
      read_own = λ w. own_is_read m (content w);
      IsWellTagged = IsWellTagged m;
      AreOfType = λ w. m.IsOfType (content w);
      AreValid = λ accepts w. m.IsValid accepts (content w);
      well_formed = λ accepts w. m.well_formed accepts (content w) m.tag m.constraints m.name;
    })

-- The components of an INSTANCE OF (X.681, annex C): the name of a type, and a value of the type after the explicit tag
-- Context 0.
abbrev pub instance_of_components : {V W : Type 0} → (W → List ℕ) → (W → V) → Meaning V → Components W
instance_of_components type_id content m =
    components.sequence (
    required (codes "type_id") type_id (untagged object_identifier) ∷
    required (codes "value") content (explicitly_tagged_as (Some (codes "SEQUENCE")) (context 0) m) ∷ [])

-- An INSTANCE OF this type and value is read of one record of both, one after the other.
abbrev pub IsReadAsInstance : {V : Type 0} → Tag → Meaning V → List ℕ → V → List Record → Type 0
IsReadAsInstance {V = V} t m type_id value =
    IsReadInside (AreReadInTurn (all_components {V = List ℕ × V} (instance_of_components (λ both. both.0) (λ both. both.1) m)))
    (sequence t (rows {V = List ℕ × V} (instance_of_components (λ both. both.0) (λ both. both.1) m))) (type_id, value)

-- Its field table: the name of the type is an OBJECT IDENTIFIER, the value has the tag Context 0, and both are always there.
abbrev pub instance_of_fields : List FieldView
instance_of_fields =
    view 0 (universal 6) (leaf (universal 6)) Required (codes "type_id") ∷
    view 1 (context 0) (leaf (context 0)) Required (codes "value") ∷ []
