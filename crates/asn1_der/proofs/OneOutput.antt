-- There is one output of records whose sets have distinct tags, whatever the order inside sets.
use Rattle.std.proofs.Common.{◌≡◌, ◌<◌, ◌^◌, ℕ, Bool, true, List, [], ◌∷◌, arith, subst}
use Rattle.std.proofs.lemmas.List.Elements.{All-head, All-tail}
use Rattle.std.specs.Int.Digits.{AllBelowBase}
use Rattle.std.specs.Prelude.{Vec}
use Rattle.std.specs.declared.alloc.Global.{Global}
use Rattle.asn1_der.specs.Cuts.{der_fronts}
use Rattle.asn1_der.specs.Format.{Carries, der_format}
use Rattle.asn1_der.specs.OneOutput.{HasDistinctSetsIn, HasNoSet, HaveDistinctSetsInEach, HaveNoSet, HaveOneOutput, IsNoSet}
use Rattle.asn1_der_items.proofs.Canonical.{same_ders}
use Rattle.asn1_der_items.proofs.DistinctSets.{all_distinct}
use Rattle.asn1_der_items.proofs.NotBoth.{have_some, none_lacks}
use Rattle.asn1_der_items.specs.DistinctTags.{AreDistinctIn, HasDistinctSets, HaveDistinctSets}
use Rattle.asn1_model.proofs.SameUpToOrder.{SameAll-sym, SameAll-trans, SameRecords-refl}
use Rattle.asn1_model.specs.Meaning.{Meaning, own_records}
use Rattle.asn1_model.specs.Orders.{SameAll, SameRecords}
use Rattle.asn1_model.specs.Records.{Head, Record, Records, alternative, explicit_tag, held, more, none, open_type, presence_mark, scalar, scope, sequence, sequence_of, set, set_of}
use Rattle.asn1_rules.specs.CanonicalFronts.{HasOneSpellingEach}
use Rattle.asn1_rules.specs.CanonicalReading.{AreOctets, EqualHaveSameRecords, HasOneSpelling, HaveOneSpelling}

distinct_in : (h : Head) (rs : Records) → IsNoSet h → AreDistinctIn h rs
distinct_in (sequence t table n) rs free = tt
distinct_in (set t table n) rs free = absurd free
distinct_in (sequence_of t c n) rs free = tt
distinct_in (set_of t c n) rs free = tt
distinct_in (explicit_tag t n) rs free = tt
distinct_in (alternative t c table n) rs free = tt

mutual
  has_distinct_sets : (r : Record) → HasNoSet r → HasDistinctSets r
  has_distinct_sets (scalar t c n x) free = tt
  has_distinct_sets (scope h rs) free = (distinct_in h rs free.0, have_distinct_sets rs free.1)
  has_distinct_sets (open_type n own) free = tt
  has_distinct_sets (presence_mark m) free = tt

  pub have_distinct_sets : (rs : Records) → HaveNoSet rs → HaveDistinctSets rs
  have_distinct_sets none free = tt
  have_distinct_sets (more r rs) free = (has_distinct_sets r free.0, have_distinct_sets rs free.1)

-- So records have one output, in whatever order.
pub one_output : (rs ss : List Record) → SameRecords rs ss → HaveDistinctSets (held rs) → HaveOneOutput rs ss
one_output rs ss same distinct own other below above a b =
    let there : SameAll (held a.exactly) (held b.exactly) = SameAll-trans a.same (SameAll-trans same (SameAll-sym b.same)) in
    same_ders (held a.exactly) (held b.exactly) there (all_distinct (SameAll-sym a.same) distinct) own other below above a.have_bytes b.have_bytes

-- Records with an output are not rejected.
pub not_rejected : (bytes : List ℕ) (rs : List Record) → AllBelowBase 256 bytes → Carries bytes rs → der_format.rejects rs → ⊥
not_rejected bytes rs below a refused =
    none_lacks (held refused.exactly)
    (have_some (held a.exactly) (held refused.exactly) (SameAll-trans a.same (SameAll-sym refused.same)) bytes below a.have_bytes) refused.rejects

octets_below : (bytes : List ℕ) → AreOctets bytes → AllBelowBase 256 bytes
octets_below [] all = tt
octets_below (byte ∷ bytes) all = (omega (arith, All-head (λ b. b < 2 ^ 8) byte bytes all), octets_below bytes (All-tail (λ b. b < 2 ^ 8) byte bytes all))

module _ {V : Type 0} (m : Meaning V) where
  -- Values with the same records have one spelling,
  pub one_spelling : (v w : V) → SameRecords (own_records m v) (own_records m w) → HasDistinctSetsIn m v → HaveOneSpelling der_format m v w
  one_spelling v w same distinct own other octets too x y =
      one_output (own_records m v) (own_records m w) same distinct own other (octets_below own octets) (octets_below other too)
      (subst (λ octets. Carries octets (own_records m v)) x.1.has_bytes x.1.written.carried)
      (subst (λ octets. Carries octets (own_records m w)) y.1.has_bytes y.1.written.carried)

  module _ (eq : V → V → Bool) (same : EqualHaveSameRecords m eq) where
    pub equal_spelling : (v w : V) → HasDistinctSetsIn m v → eq v w ≡ true → HaveOneSpelling der_format m v w
    equal_spelling v w distinct alike = one_spelling v w (same v w alike) distinct

    -- which is what was written of one of them.
    pub only_spelling : (output : Vec ℕ Global) (v : V) → AreOctets output.items → HasDistinctSetsIn m v → der_format.carries output (own_records m v) →
        HasOneSpelling der_format m eq v output.items
    only_spelling output v octets distinct carried =
        let below = octets_below output.items octets in
        record {
          same_records = λ w alike. same w v alike;
          not_rejected = not_rejected output.items (own_records m v) below carried;
          no_other = λ other too again. one_output (own_records m v) (own_records m v) (SameRecords-refl (own_records m v)) distinct other.items output.items (octets_below other.items too) below again carried;
        }

    pub each_spelling : HaveDistinctSetsInEach m → HasOneSpellingEach (der_fronts m eq) der_format m
    each_spelling distinct output v octets of_type valid carried = only_spelling output v octets (distinct v of_type valid) carried
