-- Elements before trailing bytes, one after another, and again; and their one normal form.
use Rattle.std.proofs.Common.{◌≡◌, ◌≢◌, ◌⊎◌, inl, inr, ℕ, Bool, true, false, List, [], ◌∷◌, ◌++◌, append-nil, append_assoc, None, Some, length, refl, ap, sym, subst, ◌∙◌}
use Rattle.std.specs.Borrow.{Bor}
use Rattle.asn1_tags.specs.declared.tags.Tag.{Tag}
use Rattle.asn1_der_items.proofs.Encodings.{one_element}
use Rattle.asn1_der_items.proofs.OneElement.{alone as none_after, element_is_one, some_bytes as one_has_bytes}
use Rattle.asn1_der_items.specs.Elements.{IsElement}
use Rattle.asn1_der_items.specs.Series.{is_one_element}
use Rattle.asn1_ber_items.specs.Ends.{BeginWithOne}
use Rattle.asn1_ber_items.specs.Headers.{Header, end_of_contents}
use Rattle.asn1_ber_items.specs.Spellings.{BeginWith, IsDefinite, Spells, SpellsOne, definite, indefinite, nothing, primitive}
use Rattle.asn1_ber_items.specs.Walks.{IsEnd, end_octets, nothing_left}
use Rattle.asn1_ber_items.proofs.Headers.{element_header, header_at-append, header_before, header_leaving, header_read}
use Rattle.asn1_ber_items.proofs.Splits.{Begins, definite_splits, indefinite_splits, none_begins, none_or_more, none_there, primitive_splits}

-- trailing bytes
begin_before : (bytes more : List ℕ) (constructed : Bool) (h : Header) → BeginWith constructed h bytes → BeginWith constructed (header_before h more) (bytes ++ more)
begin_before bytes more constructed h begin = record { at = header_at-append bytes more h begin.at; is_element = begin.is_element; form = begin.form }

definite_before : (h : Header) (contents back more : List ℕ) → IsDefinite h contents back → IsDefinite (header_before h more) contents (back ++ more)
definite_before h contents back more is = record { size = is.size; are = ap (λ l. l ++ more) is.are ∙ append_assoc contents back more }

pub spells-append : (bytes normal rest more : List ℕ) → Spells bytes normal rest → Spells (bytes ++ more) normal (rest ++ more)
spells-append _ _ _ more (nothing bytes) = nothing (bytes ++ more)
spells-append _ _ _ more (primitive bytes contents own back others rest h begin is element spells) =
    primitive (bytes ++ more) contents own (back ++ more) others (rest ++ more) (header_before h more) (begin_before bytes more false h begin) (definite_before h contents back more is) element
    (spells-append back others rest more spells)
spells-append _ _ _ more (definite bytes contents inside own back others rest h begin is inner element spells) =
    definite (bytes ++ more) contents inside own (back ++ more) others (rest ++ more) (header_before h more) (begin_before bytes more true h begin) (definite_before h contents back more is) inner element
    (spells-append back others rest more spells)
spells-append _ _ _ more (indefinite bytes inside own back others rest h begin none inner element spells) =
    indefinite (bytes ++ more) inside own (back ++ more) others (rest ++ more) (header_before h more) (begin_before bytes more true h begin) none
    (spells-append h.rest inside (0 ∷ 0 ∷ back) more inner) element (spells-append back others rest more spells)

pub one-append : (bytes normal rest more : List ℕ) → SpellsOne bytes normal rest → SpellsOne (bytes ++ more) normal (rest ++ more)
one-append bytes normal rest more s = record { spells = spells-append bytes normal rest more s.spells; one = s.one }

-- Elements that are cut off the bytes after them.
pub record AreCutOff (bytes normal rest : List ℕ) : Type 0 where
  pub front : List ℕ
  pub are : bytes ≡ front ++ rest
  pub spells : Spells front normal []

pub spells-cut : (bytes normal rest : List ℕ) → Spells bytes normal rest → AreCutOff bytes normal rest
spells-cut _ _ _ (nothing bytes) = record { front = []; are = refl; spells = nothing [] }
spells-cut _ _ _ (primitive bytes contents own back others rest h begin is element spells) =
    let c = spells-cut back others rest spells in
    let r = header_read bytes h begin.at in
    let after = contents ++ c.front in
    record {
      front = r.front ++ after;
      are = r.are ∙ ap (λ l. r.front ++ l) (is.are ∙ ap (λ l. contents ++ l) c.are ∙ sym (append_assoc contents c.front rest)) ∙ sym (append_assoc r.front after rest);
      spells = primitive (r.front ++ after) contents own c.front others [] (header_leaving h after) (record { at = r.whatever after; is_element = begin.is_element; form = begin.form })
          (record { size = is.size; are = refl }) element c.spells;
    }
spells-cut _ _ _ (definite bytes contents inside own back others rest h begin is inner element spells) =
    let c = spells-cut back others rest spells in
    let r = header_read bytes h begin.at in
    let after = contents ++ c.front in
    record {
      front = r.front ++ after;
      are = r.are ∙ ap (λ l. r.front ++ l) (is.are ∙ ap (λ l. contents ++ l) c.are ∙ sym (append_assoc contents c.front rest)) ∙ sym (append_assoc r.front after rest);
      spells = definite (r.front ++ after) contents inside own c.front others [] (header_leaving h after) (record { at = r.whatever after; is_element = begin.is_element; form = begin.form })
          (record { size = is.size; are = refl }) inner element c.spells;
    }
spells-cut _ _ _ (indefinite bytes inside own back others rest h begin none inner element spells) =
    let c = spells-cut back others rest spells in
    let i = spells-cut h.rest inside (0 ∷ 0 ∷ back) inner in
    let r = header_read bytes h begin.at in
    let after = i.front ++ (0 ∷ 0 ∷ c.front) in
    record {
      front = r.front ++ after;
      are = r.are ∙ ap (λ l. r.front ++ l) (i.are ∙ ap (λ l. i.front ++ (0 ∷ 0 ∷ l)) c.are ∙ sym (append_assoc i.front (0 ∷ 0 ∷ c.front) rest)) ∙ sym (append_assoc r.front after rest);
      spells = indefinite (r.front ++ after) inside own c.front others [] (header_leaving h after) (record { at = r.whatever after; is_element = begin.is_element; form = begin.form }) none
          (spells-append i.front inside [] (0 ∷ 0 ∷ c.front) i.spells) element c.spells;
    }

-- elements after others
pub spells-follow : (first own back others rest : List ℕ) → Spells first own back → Spells back others rest → Spells first (own ++ others) rest
spells-follow _ _ _ later end (nothing bytes) second = second
spells-follow _ _ _ later end (primitive bytes contents own back others rest h begin is element spells) second =
    subst (λ l. Spells bytes l end) (sym (append_assoc own others later))
    (primitive bytes contents own back (others ++ later) end h begin is element (spells-follow back others rest later end spells second))
spells-follow _ _ _ later end (definite bytes contents inside own back others rest h begin is inner element spells) second =
    subst (λ l. Spells bytes l end) (sym (append_assoc own others later))
    (definite bytes contents inside own back (others ++ later) end h begin is inner element (spells-follow back others rest later end spells second))
spells-follow _ _ _ later end (indefinite bytes inside own back others rest h begin none inner element spells) second =
    subst (λ l. Spells bytes l end) (sym (append_assoc own others later))
    (indefinite bytes inside own back (others ++ later) end h begin none inner element (spells-follow back others rest later end spells second))

pub spells-in_front : (first own second others rest : List ℕ) → Spells first own [] → Spells second others rest → Spells (first ++ second) (own ++ others) rest
spells-in_front first own second others rest a b = spells-follow (first ++ second) own second others rest (spells-append first own [] second a) b

-- one element, by its header: primitive, and constructed of a definite and of an indefinite length
pub one_primitive : (bytes contents own back : List ℕ) (h : Header) → BeginWith false h bytes → IsDefinite h contents back → IsElement h.tag false contents own → SpellsOne bytes own back
one_primitive bytes contents own back h begin is element = record {
  spells = subst (λ l. Spells bytes l back) (append-nil own) (primitive bytes contents own back [] back h begin is element (nothing back));
  one = element_is_one h.tag false contents own element;
}

pub one_definite : (bytes contents inside own back : List ℕ) (h : Header) → BeginWith true h bytes → IsDefinite h contents back → Spells contents inside [] → IsElement h.tag true inside own → SpellsOne bytes own back
one_definite bytes contents inside own back h begin is inner element = record {
  spells = subst (λ l. Spells bytes l back) (append-nil own) (definite bytes contents inside own back [] back h begin is inner element (nothing back));
  one = element_is_one h.tag true inside own element;
}

pub one_indefinite : (bytes contents inside own back : List ℕ) (h : Header) → BeginWith true h bytes → h.size ≡ None → h.rest ≡ contents ++ (0 ∷ 0 ∷ back) → Spells contents inside [] → IsElement h.tag true inside own → SpellsOne bytes own back
one_indefinite bytes contents inside own back h begin none are inner element = record {
  spells = subst (λ l. Spells bytes l back) (append-nil own)
      (indefinite bytes inside own back [] back h begin none
      (subst (λ l. Spells l inside (0 ∷ 0 ∷ back)) (sym are) (spells-append contents inside [] (0 ∷ 0 ∷ back) inner)) element (nothing back));
  one = element_is_one h.tag true inside own element;
}

-- elements, where there are any, begin with one
pub first_there : (bytes others rest : List ℕ) → Spells bytes others rest → (bytes ≡ rest → ⊥) → BeginWithOne bytes
first_there _ _ _ (nothing bytes) some = absurd (some refl)
first_there _ _ _ (primitive bytes contents own back others rest h begin is element spells) some =
    record { normal = own; rest = back; one = one_primitive bytes contents own back h begin is element }
first_there _ _ _ (definite bytes contents inside own back others rest h begin is inner element spells) some =
    record { normal = own; rest = back; one = one_definite bytes contents inside own back h begin is inner element }
first_there _ _ _ (indefinite bytes inside own back others rest h begin none inner element spells) some = record {
  normal = own;
  rest = back;
  one = record {
    spells = subst (λ l. Spells bytes l back) (append-nil own) (indefinite bytes inside own back [] back h begin none inner element (nothing back));
    one = element_is_one h.tag true inside own element;
  };
}

-- elements of DER: the header of one, whatever follows
abbrev der_header : Tag → Bool → List ℕ → List ℕ → Header
der_header t constructed contents back = record { tag = t; constructed = constructed; size = Some (length contents); rest = contents ++ back }

der_begins : (t : Tag) (constructed : Bool) (contents own back : List ℕ) → t ≢ end_of_contents → IsElement t constructed contents own → BeginWith constructed (der_header t constructed contents back) (own ++ back)
der_begins t constructed contents own back some element = record { at = element_header t constructed contents own back element; is_element = some; form = refl }

der_definite : (t : Tag) (constructed : Bool) (contents back : List ℕ) → IsDefinite (der_header t constructed contents back) contents back
der_definite t constructed contents back = record { size = refl; are = refl }

pub der_primitive : (t : Tag) (contents own back : List ℕ) → t ≢ end_of_contents → IsElement t false contents own → SpellsOne (own ++ back) own back
der_primitive t contents own back some element =
    one_primitive (own ++ back) contents own back (der_header t false contents back) (der_begins t false contents own back some element) (der_definite t false contents back) element

pub der_constructed : (t : Tag) (contents own inside normal back : List ℕ) → t ≢ end_of_contents → IsElement t true contents own → Spells contents inside [] → IsElement t true inside normal → SpellsOne (own ++ back) normal back
der_constructed t contents own inside normal back some element inner its =
    one_definite (own ++ back) contents inside normal back (der_header t true contents back) (der_begins t true contents own back some element) (der_definite t true contents back) inner its

pub one_alone : (own normal : List ℕ) → SpellsOne (own ++ []) normal [] → SpellsOne own normal []
one_alone own normal s = subst (λ l. SpellsOne l normal []) (append-nil own) s

-- elements in their normal form are in it
pub spells_itself : (bytes normal rest : List ℕ) → Spells bytes normal rest → Spells normal normal []
spells_itself _ _ _ (nothing bytes) = nothing []
spells_itself _ _ _ (primitive bytes contents own back others rest h begin is element spells) =
    spells-follow (own ++ others) own others others [] (der_primitive h.tag contents own others begin.is_element element).spells (spells_itself back others rest spells)
spells_itself _ _ _ (definite bytes contents inside own back others rest h begin is inner element spells) =
    spells-follow (own ++ others) own others others [] (der_constructed h.tag inside own inside own others begin.is_element element (spells_itself contents inside [] inner) element).spells (spells_itself back others rest spells)
spells_itself _ _ _ (indefinite bytes inside own back others rest h begin none inner element spells) =
    spells-follow (own ++ others) own others others [] (der_constructed h.tag inside own inside own others begin.is_element element (spells_itself h.rest inside (0 ∷ 0 ∷ back) inner) element).spells
    (spells_itself back others rest spells)

-- an element has one normal form, and one end: first, elements up to an end
abbrev borrowed : List ℕ → Bor (List ℕ)
borrowed bytes = record { ref_ptr = (0, 0); now = bytes }

later_two : (back rest : List ℕ) → 0 ∷ 0 ∷ back ≡ 0 ∷ 0 ∷ rest → back ≡ rest
later_two back rest e = cc

pub one_spelling : (bytes normal rest other end : List ℕ) → Spells bytes normal rest → IsEnd rest → Spells bytes other end → IsEnd end → (normal ≡ other) × (rest ≡ end)
one_spelling _ _ _ other end (nothing bytes) ends b too = by (none_or_more bytes other end b)
  where
    by : ((bytes ≡ end) × (other ≡ [])) ⊎ Begins bytes → ([] ≡ other) × (bytes ≡ end)
    by (inl same) = (sym same.1, same.0)
    by (inr begins) = absurd (none_begins bytes ends begins)
one_spelling _ _ _ other end (primitive bytes contents own back others rest h begin is element spells) ends b too =
    let p = (primitive_splits h bytes contents own back begin is element).ahead other end too b in
    let later = one_spelling back others rest p.later end spells ends (subst (λ l. Spells l p.later end) p.is.back_is p.spell) too in
    (ap (λ l. own ++ l) later.0 ∙ ap (λ l. l ++ p.later) (sym p.is.own_is) ∙ sym p.are, later.1)
one_spelling _ _ _ other end (definite bytes contents inside own back others rest h begin is inner element spells) ends b too =
    let p = (definite_splits h bytes contents (borrowed back) begin is).ahead other end too b in
    let held = one_spelling contents inside [] p.is.others [] inner nothing_left p.is.spell nothing_left in
    let same : own ≡ p.own = one_element h.tag true p.is.others own p.own (subst (λ l. IsElement h.tag true l own) held.0 element) p.is.element in
    let later = one_spelling back others rest p.later end spells ends (subst (λ l. Spells l p.later end) (sym p.is.after) p.spell) too in
    (ap (λ l. l ++ others) same ∙ ap (λ l. p.own ++ l) later.0 ∙ sym p.are, later.1)
one_spelling _ _ _ other end (indefinite bytes inside own back others rest h begin none inner element spells) ends b too =
    let p = (indefinite_splits h bytes begin none).ahead other end too b in
    let held = one_spelling h.rest inside (0 ∷ 0 ∷ back) p.is.others (0 ∷ 0 ∷ p.back) inner (end_octets back) p.is.spell (end_octets p.back) in
    let same : own ≡ p.own = one_element h.tag true p.is.others own p.own (subst (λ l. IsElement h.tag true l own) held.0 element) p.is.element in
    let later = one_spelling back others rest p.later end spells ends (subst (λ l. Spells l p.later end) (sym (later_two back p.back held.1)) p.spell) too in
    (ap (λ l. l ++ others) same ∙ ap (λ l. p.own ++ l) later.0 ∙ sym p.are, later.1)

unique : (bytes normal rest other end : List ℕ) → Spells bytes normal rest → is_one_element normal ≡ true → SpellsOne bytes other end → (normal ≡ other) × (rest ≡ end)
unique _ _ _ other end (nothing bytes) one b = absurd (one_has_bytes [] one refl)
unique _ _ _ other end (primitive bytes contents own back others rest h begin is element spells) one b =
    let p = (primitive_splits h bytes contents own back begin is element).alone other end b in
    let none = none_after own others (element_is_one h.tag false contents own element) one in
    (ap (λ l. own ++ l) none ∙ append-nil own ∙ sym p.own_is, sym (none_there back others rest spells none) ∙ sym p.back_is)
unique _ _ _ other end (definite bytes contents inside own back others rest h begin is inner element spells) one b =
    let p = (definite_splits h bytes contents (borrowed back) begin is).alone other end b in
    let held = one_spelling contents inside [] p.others [] inner nothing_left p.spell nothing_left in
    let same : own ≡ other = one_element h.tag true p.others own other (subst (λ l. IsElement h.tag true l own) held.0 element) p.element in
    let none = none_after own others (element_is_one h.tag true inside own element) one in
    (ap (λ l. own ++ l) none ∙ append-nil own ∙ same, sym (none_there back others rest spells none) ∙ p.after)
unique _ _ _ other end (indefinite bytes inside own back others rest h begin size inner element spells) one b =
    let p = (indefinite_splits h bytes begin size).alone other end b in
    let held = one_spelling h.rest inside (0 ∷ 0 ∷ back) p.others (0 ∷ 0 ∷ end) inner (end_octets back) p.spell (end_octets end) in
    let same : own ≡ other = one_element h.tag true p.others own other (subst (λ l. IsElement h.tag true l own) held.0 element) p.element in
    let none = none_after own others (element_is_one h.tag true inside own element) one in
    (ap (λ l. own ++ l) none ∙ append-nil own ∙ same, sym (none_there back others rest spells none) ∙ later_two back end held.1)

pub one_normal_form : (bytes normal rest other end : List ℕ) → SpellsOne bytes normal rest → SpellsOne bytes other end → (normal ≡ other) × (rest ≡ end)
one_normal_form bytes normal rest other end a b = unique bytes normal rest other end a.spells a.one b
