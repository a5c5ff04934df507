-- Tests of lists of tags, and what they decide.
use Rattle.std.proofs.Common.{◌≡◌, ◌≢◌, zero, suc, Bool, true, false, List, [], ◌∷◌, ◌++◌, ◌<◌, ◌&&◌, not, AllPairs, Contains, length, get_or, refl, sym, ap, ◌∙◌, subst, arith}
use Rattle.std.proofs.lemmas.Bool.{false≢true, and_parts}
use Rattle.std.proofs.lemmas.Grind.{common_steps}
use Rattle.std.proofs.lemmas.List.Elements.{Contains-append_right}
use Rattle.std.proofs.lemmas.List.Folds.{list_any_at, Any-from_list_any}
use Rattle.asn1_tags.specs.Tags.{HaveCommonTag, class_number, tag_eq, has, distinct}
use Rattle.asn1_tags.specs.Walks.{have_common_tag}
use Rattle.asn1_tags.specs.OrderLaws.{same_tag}
use Rattle.asn1_tags.specs.declared.tags.Tag.{Tag}

pub tag_eq-true : (s t : Tag) → tag_eq s t ≡ true → s ≡ t
tag_eq-true s t h =
    let classes : class_number s.class ≡ class_number t.class = grind (arith, common_steps) in
    let values : s.value ≡ t.value = grind (arith, common_steps) in
    same_tag s t classes values

pub tag_eq-refl : (t : Tag) → tag_eq t t ≡ true
tag_eq-refl t = grind (arith, common_steps)

-- a tag that the test finds is one of the list
pub Contains-from_has : (t : Tag) (ts : List Tag) → has t ts ≡ true → Contains ts t
Contains-from_has t ts h =
    let found = Any-from_list_any (λ s. tag_eq s t) ts h in
    let same : found.1 ≡ t = tag_eq-true found.1 t found.4 in
    (found.0, found.2, subst (λ s. get_or ts found.0 s ≡ s) same found.3)

-- the test finds each tag of the list
pub has-from_Contains : (t : Tag) (ts : List Tag) → Contains ts t → has t ts ≡ true
has-from_Contains t ts c = list_any_at (λ s. tag_eq s t) ts c.0 t c.1 (subst (λ s. tag_eq s t ≡ true) (sym c.2) (tag_eq-refl t))

-- if the test finds no tag twice, any two indices have two tags
pub AllPairs-from_distinct : (ts : List Tag) → distinct ts ≡ true → AllPairs (λ s t. s ≢ t) ts
AllPairs-from_distinct [] h i j d lt within = absurd (omega arith)
AllPairs-from_distinct (t ∷ ts) h zero zero d lt within = absurd (omega arith)
AllPairs-from_distinct (t ∷ ts) h (suc i) zero d lt within = absurd (omega arith)
AllPairs-from_distinct (t ∷ ts) h zero (suc j) d lt within =
    λ e.
    let absent : has t ts ≡ false = grind (arith, common_steps) in
    let here : tag_eq (get_or ts j d) t ≡ true = subst (λ s. tag_eq (get_or ts j d) s ≡ true) (sym e) (tag_eq-refl (get_or ts j d)) in
    false≢true (sym absent ∙ list_any_at (λ s. tag_eq s t) ts j d (omega arith) here)
AllPairs-from_distinct (t ∷ ts) h (suc i) (suc j) d lt within =
    let rest : distinct ts ≡ true = grind (arith, common_steps) in
    AllPairs-from_distinct ts rest i j d (omega arith) (omega arith)

-- the converse
pub distinct-from_AllPairs : (ts : List Tag) → AllPairs (λ s t. s ≢ t) ts → distinct ts ≡ true
distinct-from_AllPairs [] h = refl
distinct-from_AllPairs (t ∷ ts) h = by_test (distinct-from_AllPairs ts rest) (has t ts) refl
  where
    rest : AllPairs (λ s t. s ≢ t) ts
    rest i j d lt within = h (suc i) (suc j) d (omega arith) (omega arith)

    by_test : distinct ts ≡ true → (b : Bool) → has t ts ≡ b → (not b && distinct ts) ≡ true
    by_test apart false e = apart
    by_test apart true e =
        let found = Contains-from_has t ts e in
        let within : found.0 < length ts = found.1 in
        absurd (h zero (suc found.0) t (omega arith) (omega arith) (sym found.2))

-- a tag that the test finds in both lists is in both
pub HaveCommonTag-from_test : (ts us : List Tag) → have_common_tag ts us ≡ true → HaveCommonTag ts us
HaveCommonTag-from_test ts us h =
    let found = Any-from_list_any (λ t. has t us) ts h in
    record { tag = found.1; in_first = (found.0, found.2, found.3); in_second = Contains-from_has found.1 us found.4 }

-- and it finds each that does
pub have_common_tag-from_HaveCommonTag : (ts us : List Tag) → HaveCommonTag ts us → have_common_tag ts us ≡ true
have_common_tag-from_HaveCommonTag ts us c =
    let in_first = c.in_first in
    list_any_at (λ t. has t us) ts in_first.0 c.tag in_first.1
    (subst (λ t. has t us ≡ true) (sym in_first.2) (has-from_Contains c.tag us c.in_second))

-- if the test finds no tag twice in two lists that follow one another, it finds none in the second
pub distinct-after : (ts us : List Tag) → distinct (ts ++ us) ≡ true → distinct us ≡ true
distinct-after [] us h = h
distinct-after (t ∷ ts) us h = distinct-after ts us (and_parts (not (has t (ts ++ us))) (distinct (ts ++ us)) h).1

-- and no tag of the first is one of the second
pub apart-from_distinct : (ts us : List Tag) → distinct (ts ++ us) ≡ true → (t : Tag) → Contains ts t → Contains us t → ⊥
apart-from_distinct [] us h t (k, below, same) of_us = absurd (omega arith)
apart-from_distinct (s ∷ ts) us h t (zero, below, same) of_us =
    let absent : not (has s (ts ++ us)) ≡ true = (and_parts (not (has s (ts ++ us))) (distinct (ts ++ us)) h).0 in
    let present : has s (ts ++ us) ≡ true = has-from_Contains s (ts ++ us) (Contains-append_right ts us s (subst (Contains us) (sym same) of_us)) in
    false≢true (ap not (sym present) ∙ absent)
apart-from_distinct (s ∷ ts) us h t (suc k, below, same) of_us =
    apart-from_distinct ts us (and_parts (not (has s (ts ++ us))) (distinct (ts ++ us)) h).1 t (k, omega arith, same) of_us

-- the tags that two lists have in common
pub ruleset common_tags = (HaveCommonTag-from_test, have_common_tag-from_HaveCommonTag)

-- the tests of lists of tags, by what they decide
pub ruleset tag_tests = (Contains-from_has, has-from_Contains, AllPairs-from_distinct, distinct-from_AllPairs)
