-- Which types have equal values that are written alike.
use Rattle.std.proofs.Common.{◌≡◌, Bool, true, false, List, [], ◌∷◌, ◌++◌, Option, None, Some, subst}
use Rattle.std.specs.Cmp.Lexicographic.{pointwise}
use Rattle.std.specs.List.{flat_map}
use Rattle.std.specs.Option.{option_eq, option_map}
use Rattle.std.specs.Prelude.{codes}
use Rattle.std.proofs.lemmas.Bool.{and_parts}
use Rattle.asn1_tags.specs.declared.tags.Tag.{Tag}
use Rattle.asn1_model.proofs.SameUpToOrder.{SameAll-append, SameAll-refl, SameRecords-refl, same_holding}
use Rattle.asn1_model.specs.Composites.{default_records, option_records}
use Rattle.asn1_model.specs.ConstraintSets.{ConstraintSet}
use Rattle.asn1_model.specs.Kinds.{list_type, wrapper_type}
use Rattle.asn1_model.specs.Meaning.{IsWellTagged, Meaning, own_records}
use Rattle.asn1_model.specs.Orders.{SameRecords, at_end, equal, next}
use Rattle.asn1_model.specs.Records.{Name, Record, Side, explicit_tag, name_or, sequence_of}
use Rattle.asn1_model.specs.TaggedTypes.{explicitly_tagged_as, tagged}
use Rattle.asn1_model.specs.WrittenAlike.{AreAlikeInside, AreWrittenAlike, HaveSameRecords}

-- where equal values are one
pub alike_if_one : {V : Type 0} (m : Meaning V) {eq : V → V → Bool} → ((v w : V) → eq v w ≡ true → v ≡ w) → AreWrittenAlike m eq
alike_if_one m one t c n can v w same =
    subst (λ x. SameRecords (m.records v t c n) (m.records x t c n)) (one v w same) (SameRecords-refl (m.records v t c n))

-- those that a type wraps
pub wrapped_alike : {V W : Type 0} (target : W → V) (m : Meaning V) {eq : V → V → Bool} → AreWrittenAlike m eq →
    AreWrittenAlike (wrapper_type target m) (λ a b. eq (target a) (target b))
wrapped_alike target m alike t c n can a b same = alike t c n can (target a) (target b) same

-- the elements of lists that are equal one by one
pub elements_alike : {V : Type 0} {eq : V → V → Bool} (f : V → List Record) → HaveSameRecords eq f → HaveSameRecords (pointwise eq) (flat_map f)
elements_alike f alike [] [] same = at_end
elements_alike f alike [] (w ∷ ws) same = cc
elements_alike f alike (v ∷ vs) [] same = cc
elements_alike f alike (v ∷ vs) (w ∷ ws) same =
    let both = and_parts _ _ same in
    SameAll-append (f v) (f w) (flat_map f vs) (flat_map f ws) (alike v w both.0) (elements_alike f alike vs ws both.1)

-- lists
pub lists_alike : {V W : Type 0} (elements : W → List V) (own : ConstraintSet) (m : Meaning V) {eq : V → V → Bool} → AreWrittenAlike m eq →
    AreWrittenAlike (list_type elements own m) (λ a b. pointwise eq (elements a) (elements b))
lists_alike elements own m alike t c n can a b same =
    same_holding (sequence_of t c (name_or n (Some (codes "SEQUENCE_OF")))) (flat_map (own_records m) (elements a)) (flat_map (own_records m) (elements b))
    (elements_alike (own_records m) (alike m.tag m.constraints m.name can.1.1) (elements a) (elements b) same)

-- a type under a tag in the place of its own, and after an explicit tag
pub tagged_alike : {V : Type 0} (t : Tag) (m : Meaning V) {eq : V → V → Bool} → AreWrittenAlike m eq → AreAlikeInside (tagged t m) eq
tagged_alike t m alike can v w same = alike t m.constraints m.name can.1 v w same

pub after_tag_alike : {V : Type 0} (name : Name) (t : Tag) (m : Meaning V) {eq : V → V → Bool} → AreWrittenAlike m eq →
    AreAlikeInside (explicitly_tagged_as name t m) eq
after_tag_alike name t m alike can v w same =
    same_holding (explicit_tag t name) (own_records m v) (own_records m w) (alike m.tag m.constraints m.name can.1.1 v w same)

-- a component that may be absent
pub options_alike : {W : Type 0} {eq : W → W → Bool} (side : Side) (t : Tag) (f : W → List Record) → HaveSameRecords eq f →
    HaveSameRecords (option_eq eq) (λ o. option_records side t (option_map f o))
options_alike side t f alike None None same = SameAll-refl _
options_alike side t f alike None (Some w) same = cc
options_alike side t f alike (Some v) None same = cc
options_alike side t f alike (Some v) (Some w) same = next (equal _) (alike v w same)

-- one with a default: both are the default, or neither is
pub defaults_alike : (side : Side) (t : Tag) (rs ss : List Record) (a b : Bool) → a ≡ b → SameRecords rs ss →
    SameRecords (default_records side a t rs) (default_records side b t ss)
defaults_alike side t rs ss true true both same = SameAll-refl _
defaults_alike side t rs ss true false both same = cc
defaults_alike side t rs ss false true both same = cc
defaults_alike side t rs ss false false both same = next (equal _) same
