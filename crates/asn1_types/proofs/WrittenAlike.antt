-- Sets and wrappers whose equal values are written alike.
use Rattle.std.proofs.Common.{◌≡◌, ◌∙◌, Bool, true, List, [], ◌∷◌, ◌++◌, None, Some, ap, map, refl, subst, sym}
use Rattle.std.specs.Cmp.{IsPartialEquivalence}
use Rattle.std.specs.List.{flat_map}
use Rattle.std.specs.Prelude.{IsPermutation, codes}
use Rattle.std.proofs.lemmas.List.Sorted.{IsPermutation-map}
use Rattle.asn1_tags.specs.declared.tags.Tag.{Tag}
use Rattle.asn1_model.proofs.SameUpToOrder.{same_holding, same_rearranged}
use Rattle.asn1_model.proofs.WrittenAlike.{elements_alike}
use Rattle.asn1_model.specs.Meaning.{IsWellTagged, Meaning, own_records}
use Rattle.asn1_model.specs.Orders.{at_end, next}
use Rattle.asn1_model.specs.Records.{Record, explicit_tag, name_or, set_of}
use Rattle.asn1_model.specs.WrittenAlike.{AreWrittenAlike}
use Rattle.asn1_types.specs.Kinds.{explicit_type, implicit_type, set_of_type}
use Rattle.asn1_types.specs.MultisetLaws.{same_counts-SameElements}
use Rattle.asn1_types.specs.Multisets.{same_counts}

-- elements of one record each
singles : {V : Type 0} (f : V → List Record) (one : V → Record) → ((v : V) → f v ≡ one v ∷ []) → (vs : List V) → flat_map f vs ≡ map one vs
singles f one alone [] = refl
singles f one alone (v ∷ vs) = ap (λ rs. rs ++ flat_map f vs) (alone v) ∙ ap (λ rs. one v ∷ rs) (singles f one alone vs)

-- a SET OF
pub sets_alike : {V W : Type 0} (elements : W → List V) (m : Meaning V) {eq : V → V → Bool} → IsPartialEquivalence eq → AreWrittenAlike m eq →
    AreWrittenAlike (set_of_type elements m) (λ a b. same_counts eq (elements a) (elements b))
sets_alike {V} elements m laws alike t c n can a b same =
    let found = (same_counts-SameElements laws (elements a) (elements b)).0 same in
    let one : V → Record = λ v. (m.one_record v m.tag m.constraints m.name can.1.0 can.1.1).item in
    let alone : (v : V) → own_records m v ≡ one v ∷ [] = λ v. (m.one_record v m.tag m.constraints m.name can.1.0 can.1.1).alone in
    let moved : IsPermutation (flat_map (own_records m) found.order) (flat_map (own_records m) (elements b)) =
    subst (λ l. IsPermutation l (flat_map (own_records m) (elements b))) (sym (singles (own_records m) one alone found.order))
    (subst (IsPermutation (map one found.order)) (sym (singles (own_records m) one alone (elements b)))
    (IsPermutation-map one found.order (elements b) found.rearranged)) in
    next (same_rearranged (set_of t c (name_or n (Some (codes "SET_OF")))) (flat_map (own_records m) (elements a)) (flat_map (own_records m) found.order) (flat_map (own_records m) (elements b)) refl
    (elements_alike (own_records m) (alike m.tag m.constraints m.name can.1.1) (elements a) found.order found.equal) moved) at_end

-- a type under another tag
pub implicit_alike : {V W : Type 0} (tag : Tag) (content : W → V) (m : Meaning V) {eq : V → V → Bool} → AreWrittenAlike m eq →
    AreWrittenAlike (implicit_type tag content m) (λ a b. eq (content a) (content b))
implicit_alike tag content m alike t c n can a b same = alike t c n can.1 (content a) (content b) same

-- and after one
pub explicit_alike : {V W : Type 0} (tag : Tag) (content : W → V) (m : Meaning V) {eq : V → V → Bool} → AreWrittenAlike m eq →
    AreWrittenAlike (explicit_type tag content m) (λ a b. eq (content a) (content b))
explicit_alike tag content m alike t c n can a b same =
    same_holding (explicit_tag t n) (own_records m (content a)) (own_records m (content b))
    (alike m.tag m.constraints m.name can.1.1 (content a) (content b) same)
