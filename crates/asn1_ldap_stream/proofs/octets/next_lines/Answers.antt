use Rattle.std.proofs.Common.{◌≡◌, ◌∙◌, Bool, List, [], ℕ, ap, arith, false, inl, inr, length, subst, sym}
use Rattle.std.proofs.lemmas.Bool.{true≢false}
use Rattle.std.specs.Bool.{◌==◌}
use Rattle.asn1_ber.proofs.Cuts.{rest_within}
use Rattle.asn1_ber_items.proofs.NormalForms.{one_normal_form}
use Rattle.asn1_ber_items.specs.Spellings.{SpellsOne}
use Rattle.asn1_der_items.specs.Cuts.{IsMissing}
use Rattle.asn1_items.specs.declared.error.ItemError.{ItemError}
use Rattle.asn1_items.specs.declared.error.ItemError.TheVariants.{Malformed, Memory}
use Rattle.asn1_ldap_stream.specs.Beginnings.{IsNoBeginning}
use Rattle.asn1_ldap_stream.proofs.octets.next_lines.Goals as goal

-- octets that are there
not_empty : (octets : List ℕ) (empty : Bool) → empty ≡ (length octets == 0) → empty ≡ false → octets ≡ [] → ⊥
not_empty octets empty is not none = true≢false (sym (is ∙ ap (λ (l : List ℕ). length l == 0) none) ∙ not)

-- the errors differ
malformed_is_not_memory : Malformed ≡ Memory → ⊥
malformed_is_not_memory e = cc

pub overflow_sub-count : goal.overflow_sub-count
overflow_sub-count c =
    omega (arith, rest_within c.args.octets.now c.in-Ok.front.normal.items c.in-Ok.front.rest.now c.in-Ok.ensures.only.spells)

pub returns-in-Err-Malformed : goal.returns-in-Err-Malformed
returns-in-Err-Malformed c =
    let e = c.in-Err-Malformed in
    record {
      whole = λ inside. elim inside [
        | inl none ↦ not_empty c.args.octets.now c.is_empty.result c.is_empty.ensures c.if-is_empty.false none
        | inr cut ↦ subst (λ (error : ItemError). IsMissing error) e.field-0-is (e.ensures.cut cut)
      ];
      no_message = λ normal rest one. absurd (malformed_is_not_memory (sym e.field-0-is ∙ e.ensures.found normal rest one));
    }

-- octets begin with one element, so what it does not begin as, no other does
no_other : (octets normal rest : List ℕ) → SpellsOne octets normal rest → IsNoBeginning normal → (other back : List ℕ) → SpellsOne octets other back →
    IsNoBeginning other
no_other octets normal rest one none other back is =
    subst (λ (l : List ℕ). IsNoBeginning l) (one_normal_form octets normal rest other back one is).0 none

pub returns-in-Ok-element_text : goal.returns-in-Ok-element_text
returns-in-Ok-element_text c =
    let front = c.in-Ok.front in
    record {
      whole = λ inside. elim inside [
        | inl none ↦ not_empty c.args.octets.now c.is_empty.result c.is_empty.ensures c.if-is_empty.false none
        | inr cut ↦ c.in-Ok.ensures.cut cut
      ];
      normal = front.normal.items;
      rest = front.rest.now;
      one = c.in-Ok.ensures.only;
      long = omega (arith, rest_within c.args.octets.now front.normal.items front.rest.now c.in-Ok.ensures.only.spells);
      understood = c.in-Ok-element_text.shown.understood;
      lines = c.in-Ok-element_text.ensures.text;
    }

pub returns-in-Ok : goal.returns-in-Ok
returns-in-Ok c =
    let front = c.in-Ok.front in
    record {
      whole = λ inside. elim inside [
        | inl none ↦ not_empty c.args.octets.now c.is_empty.result c.is_empty.ensures c.if-is_empty.false none
        | inr cut ↦ c.in-Ok.ensures.cut cut
      ];
      no_message = λ normal rest one. no_other c.args.octets.now front.normal.items front.rest.now c.in-Ok.ensures.only
          (c.in-Err.ensures.no_message c.in_default.not-Memory).begins_otherwise normal rest one;
    }
