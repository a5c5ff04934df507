-- The lists of the types in the circle of `Filter`, by what it means inside them.
use Rattle.std.specs.Prelude.{[], ◌∷◌, codes}
use Rattle.asn1_circles.specs.Words.{Alternatives, Meaning, OneOf, all_of, alternative, choice_of, context, explicitly_tagged, extensible, inl, inr, set_meaning, tagged}
use Rattle.asn1_ldap.specs.contracts.filter_parts.FilterOfEqualitymatchPartMeant.TheImpl.{ghosts as filter_of_equalitymatch_part}
use Rattle.asn1_ldap.specs.contracts.filter_parts.FilterOfSubstringsPartMeant.TheImpl.{ghosts as filter_of_substrings_part}
use Rattle.asn1_ldap.specs.contracts.filter_parts.FilterOfPresentPartMeant.TheImpl.{ghosts as filter_of_present_part}
use Rattle.asn1_ldap.specs.contracts.filter_parts.FilterOfExtensiblematchPartMeant.TheImpl.{ghosts as filter_of_extensiblematch_part}
use Rattle.asn1_ldap.specs.declared.filter_of.FilterOf.{FilterOf}
use Rattle.asn1_ldap.specs.declared.filter_of.FilterOf.TheVariants.{And as filter_of-And, Or as filter_of-Or, Not as filter_of-Not, EqualityMatch as filter_of-EqualityMatch, Substrings as filter_of-Substrings, GreaterOrEqual as filter_of-GreaterOrEqual, LessOrEqual as filter_of-LessOrEqual, Present as filter_of-Present, ApproxMatch as filter_of-ApproxMatch, ExtensibleMatch as filter_of-ExtensibleMatch}

abbrev pub filter_of_alternatives : {T : Type 0} → Meaning T → Alternatives
filter_of_alternatives {T} m = extensible (
    alternative (codes "and") (tagged (context 0) (set_meaning m)) ∷
    alternative (codes "or") (tagged (context 1) (set_meaning m)) ∷
    alternative (codes "not") (explicitly_tagged (context 2) m) ∷
    alternative (codes "equalityMatch") (tagged (context 3) filter_of_equalitymatch_part.meaning) ∷
    alternative (codes "substrings") (tagged (context 4) filter_of_substrings_part.meaning) ∷
    alternative (codes "greaterOrEqual") (tagged (context 5) filter_of_equalitymatch_part.meaning) ∷
    alternative (codes "lessOrEqual") (tagged (context 6) filter_of_equalitymatch_part.meaning) ∷
    alternative (codes "present") (tagged (context 7) filter_of_present_part.meaning) ∷
    alternative (codes "approxMatch") (tagged (context 8) filter_of_equalitymatch_part.meaning) ∷
    alternative (codes "extensibleMatch") (tagged (context 9) filter_of_extensiblematch_part.meaning) ∷ []) ([])

abbrev pub filter_of_pick : {T : Type 0} (m : Meaning T) → FilterOf T → OneOf (all_of (filter_of_alternatives m))
filter_of_pick m (filter_of-And v) = inl v
filter_of_pick m (filter_of-Or v) = inr (inl v)
filter_of_pick m (filter_of-Not v) = inr (inr (inl v))
filter_of_pick m (filter_of-EqualityMatch v) = inr (inr (inr (inl v)))
filter_of_pick m (filter_of-Substrings v) = inr (inr (inr (inr (inl v))))
filter_of_pick m (filter_of-GreaterOrEqual v) = inr (inr (inr (inr (inr (inl v)))))
filter_of_pick m (filter_of-LessOrEqual v) = inr (inr (inr (inr (inr (inr (inl v))))))
filter_of_pick m (filter_of-Present v) = inr (inr (inr (inr (inr (inr (inr (inl v)))))))
filter_of_pick m (filter_of-ApproxMatch v) = inr (inr (inr (inr (inr (inr (inr (inr (inl v))))))))
filter_of_pick m (filter_of-ExtensibleMatch v) = inr (inr (inr (inr (inr (inr (inr (inr (inr (inl v)))))))))

abbrev pub filter_of_meaning : {T : Type 0} → Meaning T → Meaning (FilterOf T)
filter_of_meaning m = choice_of (codes "Filter") (filter_of_alternatives m) (filter_of_pick m)
