use Rattle.asn1_der.proofs.reader.DerReaderFrontReader.read_front.Goals as goal

pub returns-in_default : goal.returns-in_default
returns-in_default g c = record { read = λ v n front. absurd (c.in_default.ensures n front.cut) }
