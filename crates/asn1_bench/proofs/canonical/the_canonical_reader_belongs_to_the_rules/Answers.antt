use Rattle.asn1_bench.proofs.Fronts.{packed_belongs, packed_steady}
use Rattle.asn1_bench.proofs.OneOutput.{only_spelling}
use Rattle.asn1_bench.specs.Format.{packed_format}
use Rattle.asn1_bench.specs.Fronts.{cut_within, packed_fronts}
use Rattle.asn1_bench.specs.declared.marks.PresenceMarks.{PresenceMarks}
use Rattle.asn1_items.specs.Items.{packed_marks}
use Rattle.asn1_rules.proofs.CanonicalFronts.{canonical_belongs, canonical_steady}
use Rattle.asn1_bench.proofs.canonical.the_canonical_reader_belongs_to_the_rules.Goals as goal

pub returns-clause-steady : goal.returns-clause-steady
returns-clause-steady g c =
    let m = g.T.AsnType.meaning in
    let eq = g.T.PartialEq.eq in
    canonical_steady (packed_fronts m eq) (record { is_cut = λ reader bytes v n front. front.cut; within = λ reader bytes n cut. cut_within bytes n cut }) packed_format m c.args.reader.now
    (packed_steady m eq c.args.reader.now.reader)

pub returns-clause-belongs : goal.returns-clause-belongs
returns-clause-belongs g c = λ can same ordered.
    let m = g.T.AsnType.meaning in
    let eq = g.T.PartialEq.eq in
    canonical_belongs (packed_fronts m eq) (record { is_cut = λ reader bytes v n front. front.cut; within = λ reader bytes n cut. cut_within bytes n cut }) packed_format m c.args.reader.now eq
    (λ output v octets of_type valid carried. only_spelling packed_marks PresenceMarks m eq same output v octets (ordered v of_type valid) carried)
    (packed_belongs m eq c.args.reader.now.reader can)
