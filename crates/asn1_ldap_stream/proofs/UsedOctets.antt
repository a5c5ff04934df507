-- The octets that the lines of messages use end at one position.
use Rattle.std.proofs.Common.{◌≡◌, ◌+◌, ℕ, Bool, List, drop, length, ap, arith, inl, inr, refl, subst, sym}
use Rattle.std.specs.Prelude.{◌⊎◌}
use Rattle.asn1_ber.specs.Format.{ber_format}
use Rattle.asn1_ber_items.proofs.NormalForms.{one_normal_form}
use Rattle.asn1_ber_items.specs.Spellings.{SpellsOne}
use Rattle.asn1_ldap_stream.specs.Beginnings.{IsBeginning}
use Rattle.asn1_ldap_stream.specs.Elements.{IsTextOf, understood, unknown}
use Rattle.asn1_ldap_stream.specs.Octets.{AreLines, BeginNoMessage, BeginWithLines, BeginsNoMessage, EndInside, EndsInside, none, one_more}

-- The octets begin as a message does.
record Begin (octets : List ℕ) : Type 0 where
  message_id : List ℕ
  operation : List ℕ
  is : IsBeginning octets message_id operation

-- an element that has lines begins so
begin : (depth : ℕ) (octets text : List ℕ) (understood : Bool) → IsTextOf ber_format depth octets text understood → Begin octets
begin depth octets text _ (understood m) = record { message_id = m.message_id; operation = m.operation; is = m.begins }
begin depth octets text _ (unknown u) = record { message_id = u.message_id; operation = u.operation; is = u.begins }

-- The octets begin with an element of this many octets that begins as a message does.
record Step (octets : List ℕ) (count : ℕ) : Type 0 where
  whole : ¬ EndInside octets
  normal : List ℕ
  rest : List ℕ
  one : SpellsOne octets normal rest
  long : count + length rest ≡ length octets
  begins : Begin normal

step : (depth : ℕ) (octets : List ℕ) (count : ℕ) (lines : List ℕ) → BeginWithLines depth octets count lines → Step octets count
step depth octets count lines b = record {
  whole = b.whole;
  normal = b.normal;
  rest = b.rest;
  one = b.one;
  long = b.long;
  begins = begin depth b.normal lines b.understood b.lines;
}

-- Such elements lead from one position to another.
data Lead (octets : List ℕ) : ℕ → ℕ → Type 0 where
  here : (at : ℕ) → Lead octets at at
  ahead : (at count end : ℕ) → Step (drop at octets) count → Lead octets (at + count) end → Lead octets at end

-- one more leads on
later : (octets : List ℕ) (at end count : ℕ) → Lead octets at end → Step (drop end octets) count → Lead octets at (end + count)
later octets _ _ count (here at) last = ahead at count (at + count) last (here (at + count))
later octets _ _ count (ahead at first end next lead) last =
    ahead at first (end + count) next (later octets (at + first) end count lead last)

-- elements with lines lead to where these end
lead : (depth : ℕ) (octets text : List ℕ) (used : ℕ) → AreLines depth octets text used → Lead octets 0 used
lead depth octets _ _ none = here 0
lead depth octets _ _ (one_more text lines used count before more) =
    later octets 0 used count (lead depth octets text used before) (step depth (drop used octets) count lines more)

-- nothing is there, or no message
abbrev Stop : List ℕ → Type 0
Stop octets = EndInside octets ⊎ BeginNoMessage octets

no_step : (octets : List ℕ) (count : ℕ) → Stop octets → Step octets count → ⊥
no_step octets count (inl inside) next = next.whole inside
no_step octets count (inr stop) next = stop.no_message next.normal next.rest next.one next.begins.message_id next.begins.operation next.begins.is

one_count : (octets : List ℕ) (m n : ℕ) → Step octets m → Step octets n → m ≡ n
one_count octets m n a b = omega (arith, a.long, b.long, ap length (one_normal_form octets a.normal a.rest b.normal b.rest a.one b.one).1)

one_end : (octets : List ℕ) (at end other : ℕ) → Lead octets at end → Lead octets at other → Stop (drop end octets) → Stop (drop other octets) → end ≡ other
one_end octets _ _ _ (here at) (here _) stop last = refl
one_end octets _ _ _ (here at) (ahead _ count end next lead) stop last = absurd (no_step (drop at octets) count stop next)
one_end octets _ _ _ (ahead at count end next lead) (here _) stop last = absurd (no_step (drop at octets) count last next)
one_end octets _ _ _ (ahead at count end next lead) (ahead _ long other more leads) stop last =
    one_end octets (at + count) end other lead
    (subst (λ (n : ℕ). Lead octets (at + n) other) (one_count (drop at octets) long count more next) leads) stop last

-- octets do not end inside an element behind some lines, and begin no message behind others
pub not_both : (depth : ℕ) (octets text lines : List ℕ) (used at : ℕ) → AreLines depth octets text used → AreLines depth octets lines at →
    BeginsNoMessage octets used → EndsInside octets at → ⊥
not_both depth octets text lines used at some others stop inside =
    let same = one_end octets 0 used at (lead depth octets text used some) (lead depth octets lines at others) (inr stop) (inl inside) in
    stop.whole (subst (λ (n : ℕ). EndInside (drop n octets)) (sym same) inside)
