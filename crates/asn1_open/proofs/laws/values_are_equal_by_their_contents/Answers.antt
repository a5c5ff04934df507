use Rattle.std.proofs.Common.{refl, subst, sym}
use Rattle.std.proofs.lemmas.Bool.{and_parts}
use Rattle.std.specs.Cmp.{booleans_Decides, signed_Decides, unsigned_Decides}
use Rattle.std.specs.Cmp.Derive.{both_true}
use Rattle.std.specs.Cmp.Lexicographic.{pointwise_decides}
use Rattle.std.specs.Prelude.{IsTrue}
use Rattle.asn1_open.proofs.OpenEquality.{by_content, of_one_alternative}
use Rattle.asn1_open.specs.contracts.open_value.OpenPartialEq.TheImpl.Laws.{is}
use Rattle.asn1_open.proofs.laws.values_are_equal_by_their_contents.Goals as goal

pub returns-clause-one_alternative : goal.returns-clause-one_alternative
returns-clause-one_alternative c = of_one_alternative

pub returns-clause-bit_string : goal.returns-clause-bit_string
returns-clause-bit_string c a b = by_content (is _ _) (pointwise_decides booleans_Decides a b)

pub returns-clause-boolean : goal.returns-clause-boolean
returns-clause-boolean c a b = by_content (is _ _) (booleans_Decides a b)

pub returns-clause-integer : goal.returns-clause-integer
returns-clause-integer c a b = by_content (is _ _) (signed_Decides a b)

pub returns-clause-null : goal.returns-clause-null
returns-clause-null c = subst IsTrue (sym (is _ _)) refl

pub returns-clause-identifier : goal.returns-clause-identifier
returns-clause-identifier c a b = by_content (is _ _) (pointwise_decides unsigned_Decides a b)

pub returns-clause-octet_string : goal.returns-clause-octet_string
returns-clause-octet_string c a b = by_content (is _ _) (pointwise_decides unsigned_Decides a b)

pub returns-clause-universal_string : goal.returns-clause-universal_string
returns-clause-universal_string c a b = by_content (is _ _) (pointwise_decides unsigned_Decides _ _)

pub returns-clause-visible_string : goal.returns-clause-visible_string
returns-clause-visible_string c a b = by_content (is _ _) (pointwise_decides unsigned_Decides a b)

pub returns-clause-instance : goal.returns-clause-instance
returns-clause-instance c a b = by_content (is _ _) (
  λ h. let both = and_parts _ _ h in ((pointwise_decides unsigned_Decides _ _).0 both.0, both.1),
  λ same. both_true ((pointwise_decides unsigned_Decides _ _).1 same.0) same.1,
)
