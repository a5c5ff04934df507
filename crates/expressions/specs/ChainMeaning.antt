-- The meaning of `Chain`.
use Rattle.std.specs.Prelude.{◌≡◌, ◌↔◌, [], ℕ, Bool, List, codes, refl}
use Rattle.std.proofs.Common.{◌∙◌, ap}
use Rattle.asn1_circles.specs.Words.{Alternatives, IsMadeOf, KnotLaws, KnotOf, Meaning, MeansTheSame, OneOf, ReadAtSome, Record, Tag, all_of, choice_itself, choice_itself_is_read, choice_knot, chosen_meaning, context, explicit_tag, inner, inside_at_some, itself_at_all, knot_is_made, knot_meaning, read_level, same_at_all, same_read, type_level, unconstrained, valid_level}
use Rattle.expressions.specs.ChainLists.{chain_of_alternatives, chain_of_pick, chain_of_meaning}
use Rattle.expressions.specs.Validity.{EachIsValid, ValidRecords, ValueMeaning, all_valid, valid_records, written_valid}
use Rattle.expressions.specs.ChainValidity.{chain_of_is_valid}
use Rattle.expressions.specs.declared.chain.Chain.{Chain as Knot, Chain-F as Knot-F, out-Chain as out-Knot, fold-Chain as fold-Knot, fold_out-Chain as fold_out-Knot, map-Chain as map-Knot}
use Rattle.expressions.specs.declared.chain_of.ChainOf.{ChainOf}
use Rattle.expressions.specs.declared.chain_of.ChainOf.TheVariants.{End as chain_of-End, Link as chain_of-Link}

abbrev pub alternatives : (V : Type 0) → Meaning V → Alternatives
alternatives V m = chain_of_alternatives m

abbrev pub pick : (V : Type 0) (m : Meaning V) → ChainOf V → OneOf (all_of (alternatives V m))
pick V m v = chain_of_pick m v

-- the value in the box
abbrev pub in_knot : Knot → ChainOf Knot
in_knot v = (out-Knot v).0.value

-- a value inside another, by its records alone
abbrev already : Meaning ValidRecords
already = written_valid (choice_itself (codes "Chain") alternatives pick)

-- the meaning of the content of a value, by these
abbrev content : ChainOf ValidRecords → ValueMeaning
content = (choice_knot (codes "Chain") alternatives pick in_knot (λ _. [])).content ValidRecords already

-- the records inside a value, which are well formed
abbrev write : Knot-F ValidRecords → ValidRecords
write f = valid_records (content f.0.value) (λ accepts. chain_of_is_valid already (λ a rs. rs.well_formed a) accepts f.0.value)

abbrev pub folded : Knot → ValidRecords
folded = fold-Knot ValidRecords write

abbrev pub inside : Knot → List Record
inside v = (folded v).records

abbrev pub knot : KnotOf Knot ChainOf
knot = choice_knot (codes "Chain") alternatives pick in_knot inside

-- a value inside another
abbrev pub within : Meaning Knot
within = inner knot

-- a whole value, with these in place of those inside it
abbrev mapped : Knot-F Knot → ChainOf Knot → ChainOf ValidRecords
mapped f v = (map-Knot Knot ValidRecords folded (record f { 0 = record f.0 { value = v } })).0.value

-- what is read as a value inside another
within_read : (t : Tag) (v : Knot) → ReadAtSome (λ n. (read_level knot n).IsReadAs v t unconstrained) (within.IsReadAs v t unconstrained)
within_read t v = choice_itself_is_read (codes "Chain") alternatives pick in_knot inside t unconstrained v

chain_of_of_type : (v : ChainOf Knot) → ((n : ℕ) → (chain_of_meaning (type_level knot n)).IsOfType v) ↔ (chain_of_meaning within).IsOfType v
chain_of_of_type (chain_of-End v) = same_at_all
chain_of_of_type (chain_of-Link v) = itself_at_all

chain_of_valid : (accepts : List ℕ → Bool) (v : ChainOf Knot) → ((n : ℕ) → (chain_of_meaning (valid_level knot n)).IsValid accepts v) ↔ (chain_of_meaning within).IsValid accepts v
chain_of_valid accepts (chain_of-End v) = same_at_all
chain_of_valid accepts (chain_of-Link v) = itself_at_all

chain_of_read_inside : (v : ChainOf Knot) → ReadAtSome (λ n. (chosen_meaning (all_of (chain_of_alternatives (read_level knot n))) (chain_of_pick (read_level knot n) v)).AreReadAs) (chosen_meaning (all_of (chain_of_alternatives within)) (chain_of_pick within v)).AreReadAs
chain_of_read_inside (chain_of-End v) = same_read
chain_of_read_inside (chain_of-Link v) = inside_at_some (explicit_tag (context 1)) (within_read within.tag v)

same_records : (f : Knot-F Knot) (v : ChainOf Knot) → (write (map-Knot Knot ValidRecords folded (record f { 0 = record f.0 { value = v } }))).records ≡ (knot.content Knot within v).records
same_records f (chain_of-End v0) = refl
same_records f (chain_of-Link v0) = refl

pub laws : KnotLaws knot
laws = record {
  of_type = chain_of_of_type;
  valid_inside = chain_of_valid;
  read_inside = chain_of_read_inside;
  records = λ v. ap (λ rs. rs.records) (fold_out-Knot ValidRecords write v) ∙ same_records (out-Knot v) (out-Knot v).0.value;
}

-- The meaning of the type.
abbrev pub meaning : Meaning Knot
meaning = knot_meaning (codes "Chain") alternatives pick in_knot inside laws

unrolled : (v : ChainOf Knot) → MeansTheSame (knot.content Knot within v) (knot.content Knot meaning v)
unrolled (chain_of-End v) = record { records = refl; read = λ _. (λ h. h, λ h. h); of_type = (λ h. h, λ h. h); valid = λ _. (λ h. h, λ h. h) }
unrolled (chain_of-Link v) = record { records = refl; read = λ _. (λ h. h, λ h. h); of_type = (λ h. h, λ h. h); valid = λ _. (λ h. h, λ h. h) }

-- It is the meaning of what a value is made of.
pub is_made : IsMadeOf in_knot meaning (chain_of_meaning meaning)
is_made = knot_is_made (codes "Chain") alternatives pick in_knot inside laws refl unrolled

-- Each value is valid.
pub each_is_valid : EachIsValid meaning
each_is_valid accepts v n = all_valid knot (λ _ _ _ h. h) (λ a w. (folded w).well_formed a) (λ m. chain_of_is_valid m) n accepts v
