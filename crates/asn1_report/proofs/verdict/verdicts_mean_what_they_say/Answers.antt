use Rattle.asn1_tags.proofs.Smallest.{smallest-is}
use Rattle.asn1_tags.proofs.TagListTests.{AllPairs-from_distinct, distinct-from_AllPairs}
use Rattle.asn1_fields.proofs.Clashes.{sequence_clash-is, set_clash-is}
use Rattle.asn1_fields.proofs.CanonicalTest.{IsCanonical-from_test, test-from_IsCanonical}
use Rattle.asn1_report.proofs.verdict.verdicts_mean_what_they_say.Goals as goal

pub returns : goal.returns
returns c = record {
  smallest = smallest-is;
  unique = λ tags. (AllPairs-from_distinct tags, distinct-from_AllPairs tags);
  sequence = sequence_clash-is;
  set = set_clash-is;
  order = λ components. (IsCanonical-from_test components, test-from_IsCanonical components);
}
