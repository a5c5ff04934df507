use Rattle.std.proofs.Common.{ap, refl}
use Rattle.std.specs.Option.{option_map}
use Rattle.asn1_certificate_reader.proofs.ShownBy.{by_characters, by_none}
use Rattle.asn1_certificate_reader.proofs.attributes.value_of.Goals as goal

pub returns-in-Some : goal.returns-in-Some
returns-in-Some g c = by_characters _ _ _ _ _ _ _ _ _ c.in_ok-characters.ensures (ap (option_map (λ v. v.items)) c.in-Some.is) refl

pub returns-in-Some-2 : goal.returns-in-Some-2
returns-in-Some-2 g c =
    by_none _ _ _ _ _ _ _ _ c.in_ok-characters.ensures (ap (option_map (λ v. v.items)) c.in_default.is)
    (by_characters _ _ _ _ _ _ _ _ _ c.in_ok-characters-2.ensures (ap (option_map (λ v. v.items)) c.in-Some-2.is) refl)

pub returns-in-Some-3 : goal.returns-in-Some-3
returns-in-Some-3 g c =
    by_none _ _ _ _ _ _ _ _ c.in_ok-characters.ensures (ap (option_map (λ v. v.items)) c.in_default.is)
    (by_none _ _ _ _ _ _ _ _ c.in_ok-characters-2.ensures (ap (option_map (λ v. v.items)) c.in_default-2.is)
    (by_characters _ _ _ _ _ _ _ _ _ c.in_ok-characters-3.ensures (ap (option_map (λ v. v.items)) c.in-Some-3.is) refl))

pub returns-in-Some-4 : goal.returns-in-Some-4
returns-in-Some-4 g c =
    by_none _ _ _ _ _ _ _ _ c.in_ok-characters.ensures (ap (option_map (λ v. v.items)) c.in_default.is)
    (by_none _ _ _ _ _ _ _ _ c.in_ok-characters-2.ensures (ap (option_map (λ v. v.items)) c.in_default-2.is)
    (by_none _ _ _ _ _ _ _ _ c.in_ok-characters-3.ensures (ap (option_map (λ v. v.items)) c.in_default-3.is)
    (by_characters _ _ _ _ _ _ _ _ _ c.in_ok-characters-4.ensures (ap (option_map (λ v. v.items)) c.in-Some-4.is) refl)))

pub returns : goal.returns
returns g c =
    by_none _ _ _ _ _ _ _ _ c.in_ok-characters.ensures (ap (option_map (λ v. v.items)) c.in_default.is)
    (by_none _ _ _ _ _ _ _ _ c.in_ok-characters-2.ensures (ap (option_map (λ v. v.items)) c.in_default-2.is)
    (by_none _ _ _ _ _ _ _ _ c.in_ok-characters-3.ensures (ap (option_map (λ v. v.items)) c.in_default-3.is)
    (by_none _ _ _ _ _ _ _ _ c.in_ok-characters-4.ensures (ap (option_map (λ v. v.items)) c.in_default-4.is) c.in_ok-from_slice.ensures.items)))
