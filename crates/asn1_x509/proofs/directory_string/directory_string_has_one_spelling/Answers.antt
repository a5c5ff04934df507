-- Equal values are written alike, and in each value the components of a SET have distinct tags.
use Rattle.asn1_x509.specs.contracts.directory_string.DirectoryStringAsnType.TheImpl.{ghosts as type}
use Rattle.asn1_x509.specs.contracts.directory_string.DirectoryStringPartialEq.TheImpl.{ghosts as equality}
use Rattle.asn1_x509.specs.contracts.directory_string.DirectoryStringDecodeChoiceByIndex.TheImpl.{ghosts as reader}
use Rattle.asn1_x509.specs.contracts.directory_string.DirectoryStringChoice.TheImpl.{ghosts as choice}
use Rattle.asn1_x509.specs.contracts.directory_string.DirectoryStringDecodeChoiceByIndex.TheImpl.Laws.{made-law}
use Rattle.asn1_x509.specs.contracts.directory_string.DirectoryString.{as_values, the_parts}
use Rattle.asn1_x509.specs.declared.directory_string.DirectoryString.TheVariants.{TeletexString, PrintableString, UniversalString, Utf8String, BmpString}
use Rattle.asn1_spelling.proofs.ChoicesAlike.{choice_alike, choice_distinct}
use Rattle.asn1_spelling.proofs.EqualCases.{equal_in_case, one_variant}
use Rattle.asn1_spelling.specs.Cases.{case_place, comparisons_of, variant_place}
use Rattle.asn1_schema.specs.Words.{choice_agrees}
use Rattle.std.proofs.Common.{◌≡◌, ◌∙◌, refl, sym, rules}
use Rattle.asn1_model.proofs.SameUpToOrder.{SameAll-refl}
use Rattle.asn1_x509.proofs.directory_string.directory_string_has_one_spelling.Goals as goal

-- the place of an alternative is that of its variant
placed : (v : _) → case_place reader.cases (reader.case_of v) ≡ variant_place the_parts (as_values v)
placed (TeletexString x) = refl
placed (PrintableString x) = refl
placed (UniversalString x) = refl
placed (Utf8String x) = refl
placed (BmpString x) = refl

pub returns-clause-alike : goal.returns-clause-alike
returns-clause-alike c =
    choice_alike choice.alternatives choice.pick type.meaning equality.eq (comparisons_of reader.cases) choice_agrees (
      (λ can v w same. (let one : v ≡ w = search rules in rw one (SameAll-refl _))),
      (
        (λ can v w same. (let one : v ≡ w = search rules in rw one (SameAll-refl _))),
        (
          (λ can v w same. (let one : v ≡ w = search rules in rw one (SameAll-refl _))),
          (
            (λ can v w same. (let one : v.bytes.items ≡ w.bytes.items = search rules in rw one (SameAll-refl _))),
            ((λ can v w same. (let one : v ≡ w = search rules in rw one (SameAll-refl _))), tt),
          ),
        ),
      ),
    )
    (λ v w same. equal_in_case equality.eq reader.cases (reader.case_of v) (reader.case_of w) v w (made-law v) (made-law w)
    (placed v ∙ one_variant the_parts _ (as_values v) (as_values w) same ∙ sym (placed w)) same)

pub returns-clause-distinct : goal.returns-clause-distinct
returns-clause-distinct c =
    choice_distinct choice.alternatives choice.pick type.meaning choice_agrees (
      search rules,
      (
        search rules,
        (
          search rules,
          (
            search rules,
            (search rules, tt),
          ),
        ),
      ),
    )
