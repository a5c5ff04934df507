use Rattle.asn1_rules.proofs.CanonicalFronts.{canonical_belongs, canonical_steady}
use Rattle.asn1_rules.proofs.canonical_reader.a_canonical_reader_keeps_to_its_rules.Goals as goal

pub returns-clause-steady : goal.returns-clause-steady
returns-clause-steady g c = λ steady.
    canonical_steady g.F.FrontReader.fronts g.met.F.FrontReader.lawful g.R.Rules.format g.T.AsnType.meaning c.args.reader.now steady

pub returns-clause-belongs : goal.returns-clause-belongs
returns-clause-belongs g c = λ each belongs.
    canonical_belongs g.F.FrontReader.fronts g.met.F.FrontReader.lawful g.R.Rules.format g.T.AsnType.meaning c.args.reader.now g.T.PartialEq.eq each belongs
