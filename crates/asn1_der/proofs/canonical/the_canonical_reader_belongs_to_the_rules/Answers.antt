use Rattle.asn1_der.proofs.Cuts.{der_belongs, der_steady}
use Rattle.asn1_der.proofs.OneOutput.{each_spelling}
use Rattle.asn1_der.specs.Cuts.{cut_within, der_fronts}
use Rattle.asn1_der.specs.Format.{der_format}
use Rattle.asn1_rules.proofs.CanonicalFronts.{canonical_belongs, canonical_steady}
use Rattle.asn1_der.proofs.canonical.the_canonical_reader_belongs_to_the_rules.Goals as goal

pub returns-clause-steady : goal.returns-clause-steady
returns-clause-steady g c =
    let m = g.T.AsnType.meaning in
    let eq = g.T.PartialEq.eq in
    canonical_steady (der_fronts m eq) (record { is_cut = λ reader bytes v n front. front.cut; within = λ reader bytes n cut. cut_within bytes n cut }) der_format m c.args.reader.now (der_steady m eq c.args.reader.now.reader)

pub returns-clause-belongs : goal.returns-clause-belongs
returns-clause-belongs g c = λ can same distinct.
    let m = g.T.AsnType.meaning in
    let eq = g.T.PartialEq.eq in
    canonical_belongs (der_fronts m eq) (record { is_cut = λ reader bytes v n front. front.cut; within = λ reader bytes n cut. cut_within bytes n cut }) der_format m c.args.reader.now eq
    (each_spelling m eq same distinct) (der_belongs m eq c.args.reader.now.reader can)
