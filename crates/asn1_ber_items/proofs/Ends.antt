-- The octets ahead of the search for the end of the first element, before a step and behind it.
use Rattle.std.proofs.Common.{◌≡◌, ◌⊎◌, inl, inr, ℕ, zero, suc, true, List, [], ◌∷◌, ◌++◌, Some, append_assoc, refl, ap, sym, subst, ◌∙◌}
use Rattle.asn1_der_items.proofs.OneElement.{some_bytes as one_has_bytes}
use Rattle.asn1_ber_items.specs.Ends.{BeginDefinite, BeginIndefinite, IsAhead, IsOver}
use Rattle.asn1_ber_items.specs.Headers.{Header, header_at}
use Rattle.asn1_ber_items.specs.Spellings.{BeginWith, IsDefinite, Spells, definite, indefinite, nothing, primitive}
use Rattle.asn1_ber_items.specs.Walks.{IsEnd, end_octets}
use Rattle.asn1_ber_items.proofs.Headers.{header_at-append, header_before}
use Rattle.asn1_ber_items.proofs.Splits.{Begins, no_element, none_begins, none_or_more, not_both, one_extent}

some_is : {A : Type 0} {x y : A} → Some x ≡ Some y → x ≡ y
some_is e = cc

-- an element begins where one is ahead, and where an open one does not end
pub begins : (n : ℕ) (left : List ℕ) → ¬ IsOver n left → IsAhead n left → Begins left
begins zero left more a = by (none_or_more left a.normal a.rest a.one.spells)
  where
    by : ((left ≡ a.rest) × (a.normal ≡ [])) ⊎ Begins left → Begins left
    by (inl none) = absurd (one_has_bytes a.normal a.one.one none.1)
    by (inr b) = b
begins (suc n) left more a = by (none_or_more left a.others (0 ∷ 0 ∷ a.back) a.spell)
  where
    by : ((left ≡ 0 ∷ 0 ∷ a.back) × (a.others ≡ [])) ⊎ Begins left → Begins left
    by (inl none) = absurd (more (a.back, none.0))
    by (inr b) = b

-- the elements behind one of a definite length
record Behind (back rest : List ℕ) : Type 0 where
  pub others : List ℕ
  pub spell : Spells back others rest

behind : (left others rest contents back : List ℕ) → Spells left others rest → IsEnd rest → BeginDefinite left contents back → Behind back rest
behind _ _ _ contents back (nothing bytes) end d = absurd (no_element d.header.constructed d.header bytes end (record { at = d.at; is_element = d.is_element; form = refl }))
behind _ _ _ contents back (primitive bytes held own after others rest g begin is element spells) end d =
    let same : g ≡ d.header = some_is (sym begin.at ∙ d.at) in
    let e = one_extent d.header held after contents back (subst (λ (h : Header). IsDefinite h held after) same is) d.is in
    record { others = others; spell = subst (λ l. Spells l others rest) e.back_is spells }
behind _ _ _ contents back (definite bytes held inside own after others rest g begin is inner element spells) end d =
    let same : g ≡ d.header = some_is (sym begin.at ∙ d.at) in
    let e = one_extent d.header held after contents back (subst (λ (h : Header). IsDefinite h held after) same is) d.is in
    record { others = others; spell = subst (λ l. Spells l others rest) e.back_is spells }
behind _ _ _ contents back (indefinite bytes inside own after others rest g begin size inner element spells) end d =
    let same : g ≡ d.header = some_is (sym begin.at ∙ d.at) in
    absurd (not_both d.header contents back d.is (sym (ap (λ (h : Header). h.size) same) ∙ size))

-- the elements inside one of an indefinite length, and those behind it
record Within (inside rest : List ℕ) : Type 0 where
  pub held : List ℕ
  pub back : List ℕ
  pub others : List ℕ
  pub inner : Spells inside held (0 ∷ 0 ∷ back)
  pub later : Spells back others rest

pub wrong_size : (left contents back inside : List ℕ) (g : Header) → header_at left ≡ Some g → IsDefinite g contents back → BeginIndefinite left inside → ⊥
wrong_size left contents back inside g at is b =
    let same : g ≡ b.header = some_is (sym at ∙ b.begin.at) in
    not_both g contents back is (ap (λ (h : Header). h.size) same ∙ b.size)

within : (left others rest inside : List ℕ) → Spells left others rest → ((left ≡ rest) → (others ≡ []) → ⊥) → BeginIndefinite left inside → Within inside rest
within _ _ _ inside (nothing bytes) some b = absurd (some refl refl)
within _ _ _ inside (primitive bytes contents own after others rest g begin is element spells) some b = absurd (wrong_size bytes contents after inside g begin.at is b)
within _ _ _ inside (definite bytes contents held own after others rest g begin is inner element spells) some b = absurd (wrong_size bytes contents after inside g begin.at is b)
within _ _ _ inside (indefinite bytes held own after others rest g begin size inner element spells) some b =
    let same : g ≡ b.header = some_is (sym begin.at ∙ b.begin.at) in
    record {
      held = held;
      back = after;
      others = others;
      inner = subst (λ l. Spells l held (0 ∷ 0 ∷ after)) (ap (λ (h : Header). h.rest) same ∙ b.are) inner;
      later = spells;
    }

-- behind an element of a definite length, inside another
pub ahead_behind : (n : ℕ) (left contents back : List ℕ) → BeginDefinite left contents back → IsAhead (suc n) left → IsAhead (suc n) back
ahead_behind n left contents back d a =
    let b = behind left a.others (0 ∷ 0 ∷ a.back) contents back a.spell (end_octets a.back) d in
    record { others = b.others; back = a.back; spell = b.spell; later = a.later }

-- inside an element of an indefinite length
pub ahead_inside : (n : ℕ) (left inside : List ℕ) → BeginIndefinite left inside → IsAhead n left → IsAhead (suc n) inside
ahead_inside zero left inside b a =
    let w = within left a.normal a.rest inside a.one.spells (λ same none. one_has_bytes a.normal a.one.one none) b in
    record { others = w.held; back = w.back; spell = w.inner; later = tt }
ahead_inside (suc n) left inside b a =
    let w = within left a.others (0 ∷ 0 ∷ a.back) inside a.spell (λ same none. no_element true b.header (0 ∷ 0 ∷ a.back) (end_octets a.back) (subst (λ l. BeginWith true b.header l) same b.begin)) b in
    record { others = w.held; back = w.back; spell = w.inner; later = record { others = w.others; back = a.back; spell = w.later; later = a.later } }

-- behind end-of-contents octets, inside another element
later_two : (back rest : List ℕ) → 0 ∷ 0 ∷ back ≡ 0 ∷ 0 ∷ rest → back ≡ rest
later_two back rest e = cc

pub ahead_end : (n : ℕ) (back : List ℕ) → IsAhead (suc (suc n)) (0 ∷ 0 ∷ back) → IsAhead (suc n) back
ahead_end n back a = by (none_or_more (0 ∷ 0 ∷ back) a.others (0 ∷ 0 ∷ a.back) a.spell)
  where
    by : ((0 ∷ 0 ∷ back ≡ 0 ∷ 0 ∷ a.back) × (a.others ≡ [])) ⊎ Begins (0 ∷ 0 ∷ back) → IsAhead (suc n) back
    by (inl none) = subst (IsAhead (suc n)) (sym (later_two back a.back none.0)) a.later
    by (inr b) = absurd (none_begins (0 ∷ 0 ∷ back) (end_octets back) b)

-- trailing bytes
pub definite_before : (left contents back more : List ℕ) → BeginDefinite left contents back → BeginDefinite (left ++ more) contents (back ++ more)
definite_before left contents back more d = record {
  header = header_before d.header more;
  at = header_at-append left more d.header d.at;
  is_element = d.is_element;
  is = record { size = d.is.size; are = ap (λ l. l ++ more) d.is.are ∙ append_assoc contents back more };
}

pub indefinite_before : (left inside more : List ℕ) → BeginIndefinite left inside → BeginIndefinite (left ++ more) (inside ++ more)
indefinite_before left inside more b = record {
  header = header_before b.header more;
  begin = record { at = header_at-append left more b.header b.begin.at; is_element = b.begin.is_element; form = b.begin.form };
  size = b.size;
  are = ap (λ l. l ++ more) b.are;
}
