-- The equality of two values of an `Open`: they are of one alternative, and what they hold is equal.
use Rattle.std.proofs.Common.{◌≡◌, ◌∙◌, Bool, List, false, true, refl, subst, sym}
use Rattle.std.proofs.lemmas.Bool.{false≢true}
use Rattle.asn1_components.specs.Alternatives.{all_of, chosen}
use Rattle.asn1_open.specs.OpenAlternatives.{open_alternatives, open_pick}
use Rattle.asn1_open.specs.contracts.open_value.OpenPartialEq.TheImpl.{ghosts}
use Rattle.asn1_open.specs.contracts.open_value.OpenPartialEq.TheImpl.Laws.{is}
use Rattle.asn1_open.specs.declared.open_value.Open.{Open, BitString, Bool as Flag, Integer, Null, ObjectIdentifier, OctetString, UniversalString, VisibleString, InstanceOf'}
use Rattle.std.specs.Prelude.{◌↔◌, ℕ, IsTrue}

-- the name of the alternative that a value is of
abbrev chosen_name : Open → List ℕ
chosen_name v = (chosen (all_of open_alternatives) (open_pick v)).name

-- what is not so is not so
apart : {A : Type 0} {b : Bool} → b ≡ false → b ≡ true → A
apart is_not h = absurd (false≢true (sym is_not ∙ h))

-- what a test is, where it is another
pub by_content : {b d : Bool} {A : Type 0} → b ≡ d → IsTrue d ↔ A → IsTrue b ↔ A
by_content {A = A} same is = subst (λ t. IsTrue t ↔ A) (sym same) is

-- equal values are of one alternative
pub of_one_alternative : (v w : Open) → ghosts.eq v w ≡ true → chosen_name v ≡ chosen_name w
of_one_alternative (BitString x) (BitString x2) h = refl
of_one_alternative (BitString x) (Flag x2) h = apart (is _ _) h
of_one_alternative (BitString x) (Integer x2) h = apart (is _ _) h
of_one_alternative (BitString x) Null h = apart (is _ _) h
of_one_alternative (BitString x) (ObjectIdentifier x2) h = apart (is _ _) h
of_one_alternative (BitString x) (OctetString x2) h = apart (is _ _) h
of_one_alternative (BitString x) (UniversalString x2) h = apart (is _ _) h
of_one_alternative (BitString x) (VisibleString x2) h = apart (is _ _) h
of_one_alternative (BitString x) (InstanceOf' cell2 type_id2 value2) h = apart (is _ _) h
of_one_alternative (Flag x) (BitString x2) h = apart (is _ _) h
of_one_alternative (Flag x) (Flag x2) h = refl
of_one_alternative (Flag x) (Integer x2) h = apart (is _ _) h
of_one_alternative (Flag x) Null h = apart (is _ _) h
of_one_alternative (Flag x) (ObjectIdentifier x2) h = apart (is _ _) h
of_one_alternative (Flag x) (OctetString x2) h = apart (is _ _) h
of_one_alternative (Flag x) (UniversalString x2) h = apart (is _ _) h
of_one_alternative (Flag x) (VisibleString x2) h = apart (is _ _) h
of_one_alternative (Flag x) (InstanceOf' cell2 type_id2 value2) h = apart (is _ _) h
of_one_alternative (Integer x) (BitString x2) h = apart (is _ _) h
of_one_alternative (Integer x) (Flag x2) h = apart (is _ _) h
of_one_alternative (Integer x) (Integer x2) h = refl
of_one_alternative (Integer x) Null h = apart (is _ _) h
of_one_alternative (Integer x) (ObjectIdentifier x2) h = apart (is _ _) h
of_one_alternative (Integer x) (OctetString x2) h = apart (is _ _) h
of_one_alternative (Integer x) (UniversalString x2) h = apart (is _ _) h
of_one_alternative (Integer x) (VisibleString x2) h = apart (is _ _) h
of_one_alternative (Integer x) (InstanceOf' cell2 type_id2 value2) h = apart (is _ _) h
of_one_alternative Null (BitString x2) h = apart (is _ _) h
of_one_alternative Null (Flag x2) h = apart (is _ _) h
of_one_alternative Null (Integer x2) h = apart (is _ _) h
of_one_alternative Null Null h = refl
of_one_alternative Null (ObjectIdentifier x2) h = apart (is _ _) h
of_one_alternative Null (OctetString x2) h = apart (is _ _) h
of_one_alternative Null (UniversalString x2) h = apart (is _ _) h
of_one_alternative Null (VisibleString x2) h = apart (is _ _) h
of_one_alternative Null (InstanceOf' cell2 type_id2 value2) h = apart (is _ _) h
of_one_alternative (ObjectIdentifier x) (BitString x2) h = apart (is _ _) h
of_one_alternative (ObjectIdentifier x) (Flag x2) h = apart (is _ _) h
of_one_alternative (ObjectIdentifier x) (Integer x2) h = apart (is _ _) h
of_one_alternative (ObjectIdentifier x) Null h = apart (is _ _) h
of_one_alternative (ObjectIdentifier x) (ObjectIdentifier x2) h = refl
of_one_alternative (ObjectIdentifier x) (OctetString x2) h = apart (is _ _) h
of_one_alternative (ObjectIdentifier x) (UniversalString x2) h = apart (is _ _) h
of_one_alternative (ObjectIdentifier x) (VisibleString x2) h = apart (is _ _) h
of_one_alternative (ObjectIdentifier x) (InstanceOf' cell2 type_id2 value2) h = apart (is _ _) h
of_one_alternative (OctetString x) (BitString x2) h = apart (is _ _) h
of_one_alternative (OctetString x) (Flag x2) h = apart (is _ _) h
of_one_alternative (OctetString x) (Integer x2) h = apart (is _ _) h
of_one_alternative (OctetString x) Null h = apart (is _ _) h
of_one_alternative (OctetString x) (ObjectIdentifier x2) h = apart (is _ _) h
of_one_alternative (OctetString x) (OctetString x2) h = refl
of_one_alternative (OctetString x) (UniversalString x2) h = apart (is _ _) h
of_one_alternative (OctetString x) (VisibleString x2) h = apart (is _ _) h
of_one_alternative (OctetString x) (InstanceOf' cell2 type_id2 value2) h = apart (is _ _) h
of_one_alternative (UniversalString x) (BitString x2) h = apart (is _ _) h
of_one_alternative (UniversalString x) (Flag x2) h = apart (is _ _) h
of_one_alternative (UniversalString x) (Integer x2) h = apart (is _ _) h
of_one_alternative (UniversalString x) Null h = apart (is _ _) h
of_one_alternative (UniversalString x) (ObjectIdentifier x2) h = apart (is _ _) h
of_one_alternative (UniversalString x) (OctetString x2) h = apart (is _ _) h
of_one_alternative (UniversalString x) (UniversalString x2) h = refl
of_one_alternative (UniversalString x) (VisibleString x2) h = apart (is _ _) h
of_one_alternative (UniversalString x) (InstanceOf' cell2 type_id2 value2) h = apart (is _ _) h
of_one_alternative (VisibleString x) (BitString x2) h = apart (is _ _) h
of_one_alternative (VisibleString x) (Flag x2) h = apart (is _ _) h
of_one_alternative (VisibleString x) (Integer x2) h = apart (is _ _) h
of_one_alternative (VisibleString x) Null h = apart (is _ _) h
of_one_alternative (VisibleString x) (ObjectIdentifier x2) h = apart (is _ _) h
of_one_alternative (VisibleString x) (OctetString x2) h = apart (is _ _) h
of_one_alternative (VisibleString x) (UniversalString x2) h = apart (is _ _) h
of_one_alternative (VisibleString x) (VisibleString x2) h = refl
of_one_alternative (VisibleString x) (InstanceOf' cell2 type_id2 value2) h = apart (is _ _) h
of_one_alternative (InstanceOf' cell type_id value) (BitString x2) h = apart (is _ _) h
of_one_alternative (InstanceOf' cell type_id value) (Flag x2) h = apart (is _ _) h
of_one_alternative (InstanceOf' cell type_id value) (Integer x2) h = apart (is _ _) h
of_one_alternative (InstanceOf' cell type_id value) Null h = apart (is _ _) h
of_one_alternative (InstanceOf' cell type_id value) (ObjectIdentifier x2) h = apart (is _ _) h
of_one_alternative (InstanceOf' cell type_id value) (OctetString x2) h = apart (is _ _) h
of_one_alternative (InstanceOf' cell type_id value) (UniversalString x2) h = apart (is _ _) h
of_one_alternative (InstanceOf' cell type_id value) (VisibleString x2) h = apart (is _ _) h
of_one_alternative (InstanceOf' cell type_id value) (InstanceOf' cell2 type_id2 value2) h = refl
