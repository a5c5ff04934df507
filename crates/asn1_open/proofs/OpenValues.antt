-- The facts of each `Open`: it is valid, and its record has a known nesting.
use Rattle.std.proofs.Common.{◌≡◌, ◌≢◌, ◌+◌, ℕ, Bool, List, refl, arith, ap, ◌∙◌}
use Rattle.asn1_model.specs.Meaning.{own_records}
use Rattle.asn1_model.specs.Records.{highest}
use Rattle.asn1_types.specs.declared.instance_of.InstanceOf.{InstanceOf as Instance}
use Rattle.asn1_open.specs.OpenAlternatives.{open_meaning, open_means}
use Rattle.asn1_open.specs.declared.open_value.Open.{Open, BitString, Bool as Flag, Integer, Null, ObjectIdentifier, OctetString, UniversalString, VisibleString, InstanceOf, InstanceOf'}
use Rattle.std.specs.declared.alloc.Global.{Global}
use Rattle.std.specs.declared.boxed.Box.{Box}

pub each_open_valid : (v : Open) (accepts : List ℕ → Bool) → (open_means v).IsValid accepts
each_open_valid (BitString string) accepts = tt
each_open_valid (Flag flag) accepts = tt
each_open_valid (Integer number) accepts = tt
each_open_valid Null accepts = tt
each_open_valid (ObjectIdentifier arcs) accepts = tt
each_open_valid (OctetString string) accepts = tt
each_open_valid (UniversalString string) accepts = tt
each_open_valid (VisibleString string) accepts = tt
each_open_valid (InstanceOf' cell type_id value) accepts = (tt, (each_open_valid value accepts, tt))

-- an INSTANCE OF, as the alternative that it is
pub instance_height : (v : Open) (instance : Box (Instance Open) Global) → v ≡ InstanceOf instance →
    highest (own_records open_meaning v) ≡ highest (own_records open_meaning instance.value.value) + 3
instance_height v instance is = ap (λ w. highest (own_records open_meaning w)) is ∙ omega arith

-- every other alternative
pub flat_height : (v : Open) → ((instance : Box (Instance Open) Global) → v ≢ InstanceOf instance) → highest (own_records open_meaning v) ≡ 1
flat_height (BitString string) other = refl
flat_height (Flag flag) other = refl
flat_height (Integer number) other = refl
flat_height Null other = refl
flat_height (ObjectIdentifier arcs) other = refl
flat_height (OctetString string) other = refl
flat_height (UniversalString string) other = refl
flat_height (VisibleString string) other = refl
flat_height (InstanceOf' cell type_id value) other = absurd (other (record { ptr = cell.ptr; alloc = cell.alloc; value = record { type_id = type_id; value = value } }) refl)
