-- Fields that are always there.
use Rattle.std.proofs.Common.{◌≡◌, Bool, true, not, List, refl, sym, ap, subst}
use Rattle.std.specs.List.{Any, list_any}
use Rattle.std.proofs.lemmas.Bool.{false≢true}
use Rattle.std.proofs.lemmas.List.Folds.{Any-from_list_any, list_any_at}
use Rattle.asn1_fields.specs.FieldViews.{may_be_absent}
use Rattle.asn1_fields.specs.declared.field.Field.{Field}
use Rattle.asn1_fields.specs.declared.presence.FieldPresence.{FieldPresence}
use Rattle.asn1_fields.specs.declared.presence.FieldPresence.TheVariants.{Required, Optional, Default}

-- a field that may not be absent is required
Required-from_test : (p : FieldPresence) → not (may_be_absent p) ≡ true → p ≡ Required
Required-from_test Required h = refl
Required-from_test Optional h = absurd (false≢true h)
Required-from_test Default h = absurd (false≢true h)

pub Any-from_required : (fs : List Field) → list_any (λ f. not (may_be_absent f.presence)) fs ≡ true → Any (λ f. f.presence ≡ Required) fs
Any-from_required fs h =
    let found = Any-from_list_any (λ f. not (may_be_absent f.presence)) fs h in
    (found.0, found.1, found.2, found.3, Required-from_test found.1.presence found.4)

pub required-from_Any : (fs : List Field) → Any (λ f. f.presence ≡ Required) fs → list_any (λ f. not (may_be_absent f.presence)) fs ≡ true
required-from_Any fs found =
    let test : FieldPresence → Bool = λ p. not (may_be_absent p) in
    list_any_at (λ f. not (may_be_absent f.presence)) fs found.0 found.1 found.2
    (subst (λ (f : Field). test f.presence ≡ true) (sym found.3) (ap test found.4))

-- whether some field is always there, by the test and by what it means
pub ruleset required_fields = (Any-from_required, required-from_Any)
